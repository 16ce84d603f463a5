-- Replacing each `old` by `new`: the laws at a place, and the loop's invariant.
use mathlib.Core.Path.{◌≡◌, refl, ap, ◌∙◌}
use mathlib.Core.Bool.{Bool, true, false, cond}
use mathlib.Core.List.{[], ◌∷◌, ◌++◌, append-nil}
use Prim.Native.Nat.{ℕ, zero, suc, ◌+◌, ◌-◌, ◌≤◌, ◌<◌}
use native.Mathlib.Nat.{not-suc-le-zero}
use native.Mathlib.Omega.{arith}
use lib.ListN.{length, take, drop, length-drop, drop_of_length-le}
use lib.Seq.{drop-drop, take_all}
use Rattle.rules.specs.Text.Bytes.{Bytes, starts, replace_from, replace}
use Rattle.text.specs.Wrote.{Wrote}
use Rattle.text.specs.Places.{ahead}
use Rattle.text.proofs.Wrote.{Sofar, sofar-part, sofar-end, sofar-part-room}
use Rattle.text.proofs.Finds.{starts-length}

-- bytes that are passed over
replace-skip : (k : ℕ) (old new t : Bytes) → replace_from k old new t ≡ replace old new (drop k t)
unfolding replace replace_from
replace-skip zero old new [] = refl
replace-skip (suc k) old new [] = refl
replace-skip zero old new (x ∷ t) = refl
replace-skip (suc k) old new (x ∷ t) = replace-skip k old new t

pub replace-here : (old new t : Bytes) → 0 < length old → starts old t ≡ true → replace old new t ≡ new ++ replace old new (drop (length old) t)
unfolding replace replace_from
replace-here [] new t h e = absurd (not-suc-le-zero h)
replace-here (p ∷ old) new [] h e = absurd (not-suc-le-zero (starts-length (p ∷ old) [] e))
replace-here (p ∷ old) new (x ∷ t) h e =
    let n : suc (length old) - 1 ≡ length old = omega arith in
    rw (e, n, replace-skip (length old) (p ∷ old) new t)

-- ---- up to the first `old` nothing changes

pub ahead_within : (old t : Bytes) → ahead old t ≤ length t
unfolding ahead
ahead_within old [] = omega arith
ahead_within old (x ∷ t) = go (starts old (x ∷ t)) (ahead_within old t)
  where
    go : (b : Bool) → ahead old t ≤ length t → cond b 0 (suc (ahead old t)) ≤ suc (length t)
    go true h = omega arith
    go false h = omega arith

ahead-starts : (old t : Bytes) → ahead old t < length t → starts old (drop (ahead old t) t) ≡ true
unfolding ahead
ahead-starts old [] h = absurd (not-suc-le-zero h)
ahead-starts old (x ∷ t) h = go (starts old (x ∷ t)) refl (ahead-starts old t) h
  where
    go : (b : Bool) → starts old (x ∷ t) ≡ b → (ahead old t < length t → starts old (drop (ahead old t) t) ≡ true)
        → cond b 0 (suc (ahead old t)) < suc (length t) → starts old (drop (cond b 0 (suc (ahead old t))) (x ∷ t)) ≡ true
    go true e f l = e
    go false e f l = f (omega arith)

replace-ahead : (old new t : Bytes) → replace old new t ≡ take (ahead old t) t ++ replace old new (drop (ahead old t) t)
unfolding replace replace_from ahead
replace-ahead old new [] = refl
replace-ahead old new (x ∷ t) = go (starts old (x ∷ t)) refl (replace-ahead old new t)
  where
    go : (b : Bool) → starts old (x ∷ t) ≡ b → replace_from zero old new t ≡ take (ahead old t) t ++ replace_from zero old new (drop (ahead old t) t)
        → cond b (new ++ replace_from (length old - 1) old new t) (x ∷ replace_from zero old new t)
        ≡ take (cond b 0 (suc (ahead old t))) (x ∷ t) ++ replace_from zero old new (drop (cond b 0 (suc (ahead old t))) (x ∷ t))
    go true e f = rw e
    go false e f = ap (λ (l : Bytes). x ∷ l) f

-- where there is none, nothing changes
pub replace-none : (old new t : Bytes) → length t ≤ ahead old t → replace old new t ≡ t
unfolding replace replace_from
replace-none old new t h = replace-ahead old new t ∙ rw (take_all (ahead old t) t h, drop_of_length-le t h, append-nil)

-- ---- `replace_from`: all of `src` before i is written, replaced, and the next `old` stands at k

pub record Replacing (src old new dst₀ : Bytes) (i o k : ℕ) (dst : Bytes) : Type 0 where
  pub within : i ≤ length src
  pub next : k ≡ i + ahead old (drop i src)
  pub sofar : Sofar (replace old new src) (replace old new (drop i src)) dst₀ o dst

-- what the code makes of the part between
abbrev pub between : Bytes → ℕ → ℕ → Bytes
between src i k = take (k - i) (drop i src)

module _ {src old new dst₀ : Bytes} {i o k : ℕ} {dst : Bytes} (m : Replacing src old new dst₀ i o k dst) where
  pub replacing-order : (i ≤ k) × (k ≤ length src)
  replacing-order = (omega (arith, m.next), omega (arith, m.next, m.within, length-drop i src, ahead_within old (drop i src)))

  -- the part up to k comes next
  part : Sofar (replace old new src) (between src i k ++ replace old new (drop k src)) dst₀ o dst
  part =
      let n : k - i ≡ ahead old (drop i src) = omega (arith, m.next) in
      let d : drop (ahead old (drop i src)) (drop i src) ≡ drop k src = drop-drop (ahead old (drop i src)) i src ∙ rw m.next in
      rw (n, ← d, ← replace-ahead old new (drop i src)) m.sofar

  pub replacing-part-room : o + length (between src i k) ≤ length dst
  replacing-part-room = sofar-part-room (between src i k) (replace old new (drop k src)) part

  -- the part is written, and an `old` comes next
  module _ {r : ℕ} {last : Bytes} (w : Wrote (take o dst ++ between src i k) dst r last) (l : k < length src) (pos : 0 < length old) where
    starts-here : starts old (drop k src) ≡ true
    starts-here =
        let d : drop (ahead old (drop i src)) (drop i src) ≡ drop k src = drop-drop (ahead old (drop i src)) i src ∙ rw m.next in
        rw (← d) (ahead-starts old (drop i src) (omega (arith, m.next, length-drop i src)))

    here : Sofar (replace old new src) (new ++ replace old new (drop (k + length old) src)) dst₀ r last
    here = rw (← drop-drop (length old) k src, ← replace-here old new (drop k src) pos starts-here) (sofar-part (between src i k) part w)

    pub replacing-fits : k + length old ≤ length src
    replacing-fits = omega (arith, l, simp length-drop at (starts-length old (drop k src) starts-here))

    pub replacing-room : r + length new ≤ length last
    replacing-room = sofar-part-room new (replace old new (drop (k + length old) src)) here

    pub replacing-again : {q k' : ℕ} {last' : Bytes} → Wrote (take r last ++ new) last q last' → k' ≡ k + length old + ahead old (drop (k + length old) src)
        → Replacing src old new dst₀ (k + length old) q k' last'
    replacing-again v e = record { within = replacing-fits; next = e; sofar = sofar-part new here v }

  -- no `old` comes any more
  pub replacing-end : {r : ℕ} {last : Bytes} → length src ≤ k → Wrote (take o dst ++ between src i k) dst r last → Wrote (replace old new src) dst₀ r last
  unfolding replace replace_from
  replacing-end h w = sofar-end (rw (drop_of_length-le src h) at (sofar-part (between src i k) part w))
