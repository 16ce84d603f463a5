-- Lines without their comments, line by line: what is left to write, and a line up to its comment.
use mathlib.Core.Path.{◌≡◌, refl, sym, ap, ◌∙◌}
use mathlib.Core.Bool.{Bool, true, false, cond, ◌&&◌}
use mathlib.Core.List.{[], ◌∷◌, ◌++◌, flat_map}
use Prim.Native.Nat.{ℕ, suc, ◌+◌, ◌≤◌, ◌<◌}
use native.Mathlib.Numerals.{add-one}
use native.Mathlib.Omega.{arith}
use lib.ListN.{length, take, drop, get_or, set, length-set, drop_of_length-le}
use lib.Seq.{drop-cons, length-take-le}
use Rattle.text.proofs.Replaced.{ahead_within}
use Rattle.text.proofs.WroteAt.{wrote-both, wrote-byte}
use lib.Dec.{eqb}
use borrow.Author.Tests.{ne_eqb}
use Rattle.rules.specs.Text.Ascii.{is}
use Rattle.rules.specs.Text.Bytes.{Bytes, starts, before, cut}
use Rattle.rules.specs.Text.Comments.{uncommented, lined}
use Rattle.text.specs.Wrote.{Wrote, WroteAt}
use Rattle.text.specs.Places.{ahead}
use Rattle.text.proofs.Wrote.{Sofar, sofar-start, sofar-at, sofar-byte, sofar-byte-room, sofar-part, sofar-part-room, sofar-end, drop-next}

-- ---- `add_line`: a space, and then a line up to its comment

line-end : (line : Bytes) → take (ahead (35 ∷ []) line) line ≡ before (is "#") line
unfolding ahead starts before
line-end [] = refl
line-end (x ∷ line) = go (eqb x 35) (line-end line)
  where
    go : (b : Bool) → take (ahead (35 ∷ []) line) line ≡ before (is "#") line
        → take (cond (b && true) 0 (suc (ahead (35 ∷ []) line))) (x ∷ line) ≡ cond b [] (x ∷ before (is "#") line)
    go true h = refl
    go false h = ap (λ (l : Bytes). x ∷ l) h

module _ (line dst : Bytes) (at : ℕ) (h : at + length (uncommented line) ≤ length dst) where
  fits : at + length ((32 ∷ []) ++ before (is "#") line) ≤ length dst
  unfolding uncommented
  fits = h

  pub line-place : at < length dst
  line-place = omega (arith, fits)

  -- a short line's part is written byte by byte
  pub short-room : at + 1 + length (before (is "#") line) ≤ length (set dst at 32)
  short-room = rw length-set (omega (arith, fits))

  pub short-done : {r : ℕ} {last : Bytes} → WroteAt (before (is "#") line) (set dst at 32) (at + 1) r last → WroteAt (uncommented line) dst at r last
  unfolding uncommented
  short-done w = wrote-both (32 ∷ []) (before (is "#") line) fits (wrote-byte 32 dst at line-place) w

  -- a longer one's is found, and copied at once
  module _ {end : ℕ} (e : end ≡ 0 + ahead (35 ∷ []) (drop 0 line)) where
    shown : take end line ≡ before (is "#") line
    shown = let n : end ≡ ahead (35 ∷ []) line = omega arith in rw n (line-end line)

    pub line-part : end ≡ length (take end line)
    line-part = sym (length-take-le end line (omega (arith, ahead_within (35 ∷ []) line)))

    pub line-room : at + 1 + length (take end line) ≤ length (set dst at 32)
    line-room = rw shown short-room

    pub line-done : {r : ℕ} {last : Bytes} → Wrote (take (at + 1) (set dst at 32) ++ take end line) (set dst at 32) r last → WroteAt (uncommented line) dst at r last
    line-done w = short-done (record { wrote = rw shown at w })

-- ---- `add_short`: the first k bytes of a line are written, up to o, and those left are told by the bytes from k on

pub record Shorting (line dst₀ : Bytes) (at k o : ℕ) (dst : Bytes) : Type 0 where
  pub sofar : Sofar (take at dst₀ ++ before (is "#") line) (before (is "#") (drop k line)) dst₀ o dst

pub shorting-none : (line dst₀ : Bytes) (at : ℕ) → at + length (before (is "#") line) ≤ length dst₀ → Shorting line dst₀ at 0 at dst₀
shorting-none line dst₀ at h = record { sofar = sofar-at (before (is "#") line) dst₀ at h }

module _ {line dst₀ : Bytes} {at k o : ℕ} {dst : Bytes} (m : Shorting line dst₀ at k o dst) where
  module _ (h : k < length line) where
    pub shorting-comment : get_or line k 0 ≡ 35 → WroteAt (before (is "#") line) dst₀ at o dst
    unfolding before
    shorting-comment e = record { wrote = sofar-end (rw (drop-next line k h, e) at m.sofar) }

    module _ (n : (get_or line k 0 ≡ 35) → ⊥) where
      next-byte : Sofar (take at dst₀ ++ before (is "#") line) (get_or line k 0 ∷ before (is "#") (drop (k + 1) line)) dst₀ o dst
      unfolding before
      next-byte = rw (drop-next line k h, ne_eqb (get_or line k 0) 35 n) at m.sofar

      pub shorting-room : o < length dst
      shorting-room = (sofar-byte-room next-byte).0

      pub shorting-byte : Shorting line dst₀ at (k + 1) (o + 1) (set dst o (get_or line k 0))
      shorting-byte = record { sofar = sofar-byte next-byte }

  pub shorting-end : length line ≤ k → WroteAt (before (is "#") line) dst₀ at o dst
  unfolding before
  shorting-end h = record { wrote = sofar-end (rw (drop_of_length-le line h) at m.sofar) }

-- ---- `lines_into`: the first k lines are written, up to o

pub record Lining (src dst₀ : Bytes) (k o : ℕ) (dst : Bytes) : Type 0 where
  pub sofar : Sofar (lined src) (flat_map uncommented (drop k (cut (is "\n") src))) dst₀ o dst

pub lining-none : {src dst₀ : Bytes} → length (lined src) ≤ length dst₀ → Lining src dst₀ 0 0 dst₀
unfolding lined
lining-none h = record { sofar = sofar-start _ _ h }

module _ {src dst₀ : Bytes} {k o : ℕ} {dst : Bytes} (m : Lining src dst₀ k o dst) where
  module _ {line : Bytes} (h : k < length (cut (is "\n") src)) (e : line ≡ get_or (cut (is "\n") src) k line) where
    next : Sofar (lined src) (uncommented line ++ flat_map uncommented (drop (suc k) (cut (is "\n") src))) dst₀ o dst
    unfolding flat_map
    next =
        let d : drop k (cut (is "\n") src) ≡ line ∷ drop (suc k) (cut (is "\n") src)
        = drop-cons (cut (is "\n") src) k line h ∙ ap (λ (v : Bytes). v ∷ drop (suc k) (cut (is "\n") src)) (sym e) in
        rw d at m.sofar

    pub lining-room : o + length (uncommented line) ≤ length dst
    lining-room = sofar-part-room (uncommented line) _ next

    pub lining-line : {r n : ℕ} {last : Bytes} → WroteAt (uncommented line) dst o r last → n ≡ k + 1 → Lining src dst₀ n r last
    lining-line v f = record { sofar = rw (f, add-one) (sofar-part (uncommented line) next v.wrote) }

  pub lining-end : length (cut (is "\n") src) ≤ k → Wrote (lined src) dst₀ o dst
  unfolding flat_map
  lining-end h = sofar-end (rw (drop_of_length-le (cut (is "\n") src) h) at m.sofar)
