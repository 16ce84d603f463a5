-- A piece that is said or not, and a minus behind a word.
use mathlib.Core.Path.{◌≡◌, sym, subst}
use mathlib.Core.Bool.{Bool, true, false, cond}
use mathlib.Core.List.{[], ◌++◌}
use Prim.Native.Nat.{ℕ, ◌+◌, ◌≤◌, ◌<◌}
use native.Mathlib.Omega.{arith}
use lib.ListN.{length, set}
use Rattle.rules.specs.Text.Ascii.{ascii}
use Rattle.rules.specs.Text.Bytes.{Bytes}
use Rattle.text.specs.Wrote.{WroteAt}
use Rattle.text.proofs.WroteAt.{wrote_nothing, wrote-length, wrote-byte}
use Rattle.show.proofs.TwoPieces.{first-room, second-room, both-said}

-- ---- a piece that is said or not

module _ (b : Bool) (x d : Bytes) (at : ℕ) where
  pub told-room : b ≡ true → at + length (cond b x []) ≤ length d → at + length x ≤ length d
  told-room e h = subst (λ (c : Bool). at + length (cond c x []) ≤ length d) e h

  pub told-said : {r : ℕ} {d' : Bytes} → b ≡ true → WroteAt x d at r d' → WroteAt (cond b x []) d at r d'
  told-said {r} {d'} e w = subst (λ (c : Bool). WroteAt (cond c x []) d at r d') (sym e) w

  pub untold-said : b ≡ false → at + length (cond b x []) ≤ length d → WroteAt (cond b x []) d at at d
  untold-said e h =
      let k : at + 0 ≤ length d = subst (λ (c : Bool). at + length (cond c x []) ≤ length d) e h in
      subst (λ (c : Bool). WroteAt (cond c x []) d at at d) (sym e) (wrote_nothing d at (omega (arith, k)))

-- ---- a minus behind a word

module _ (t : Bytes) (b : Bool) (d : Bytes) (at : ℕ) (h : at + length (t ++ cond b (ascii "-") []) ≤ length d) where
  pub minus-place : {r : ℕ} {d' : Bytes} → b ≡ true → WroteAt t d at r d' → (r < length d') × (r < length d)
  unfolding ascii
  minus-place {r} {d'} e w =
      let n = wrote-length (first-room t (cond b (ascii "-") []) d at h) w in
      let k : r + 1 ≤ length d' = told-room b (ascii "-") d' r e (second-room t (cond b (ascii "-") []) d at h w) in
      (omega (arith, k), omega (arith, k, n.1))

  pub minus-said : {r : ℕ} {d' : Bytes} → b ≡ true → WroteAt t d at r d' → WroteAt (t ++ cond b (ascii "-") []) d at (r + 1) (set d' r 45)
  unfolding ascii
  minus-said {r} {d'} e w =
      both-said t (cond b (ascii "-") []) d at h w (told-said b (ascii "-") d' r e (wrote-byte 45 d' r (minus-place e w).0))

  pub plain-said : {r : ℕ} {d' : Bytes} → b ≡ false → WroteAt t d at r d' → WroteAt (t ++ cond b (ascii "-") []) d at r d'
  plain-said {r} {d'} e w =
      both-said t (cond b (ascii "-") []) d at h w (untold-said b (ascii "-") d' r e (second-room t (cond b (ascii "-") []) d at h w))
