-- The documented mode: the outputs and codes that two words make, and the test of eight arguments, by what the code has found out.
use mathlib.Core.Path.{◌≡◌, refl, sym}
use Prim.Native.Nat.{ℕ, zero, suc, ◌+◌, ◌-◌, ◌≤◌, ◌<◌}
use mathlib.Core.Bool.{Bool, beq, not, ◌&&◌, xor}
use mathlib.Core.List.{List, [], ◌∷◌}
use native.Mathlib.Omega.{arith}
use borrow.Author.Tests.{eq-eqb, le-leb, lt-leb}
use lib.Dec.{lit≤}
use lib.IntN.{ℤ, pos}
use lib.ListN.{length, get_or, take, drop}
use Rattle.rules.specs.Text.Lists.{all_of}
use Rattle.rules.specs.Text.Decimal.{signed, minus}
use Rattle.rules.specs.Operators.Arguments.{size, arg, is_order}
use Rattle.rules.specs.Operators.Adapt.{position, output_of, angles, is_code}
use Rattle.rules.specs.Operators.Documented.{input_at, output_by_axis, carries_angle, angle_by_axis, combined_by_axis, two_alike, is_documented}
use Rattle.laws_records.specs.Series.{size-signed}
use Rattle.laws_records.specs.Operators.Adapt.Words.{Sized, order-sized, IsWord, outs-order}
use Rattle.adapt.specs.declared.word.Angle.{Angle}
use Rattle.adapt.specs.declared.word.Angle.TheVariants.{Radians, Degrees, Gons}
use Rattle.adapt.specs.declared.word.Word.{Word}
use Rattle.adapt.specs.Words.{number, word_as}
use Rattle.adapt.proofs.FirstPlace.{finds-size, place-most}
use Rattle.adapt.proofs.TwoWords.{differ}

-- ---- the place of an axis

small : (a : Angle) → number a ≤ 2
small Radians = lit≤ tt
small Degrees = lit≤ tt
small Gons = lit≤ tt

word-is : (w : Word) → IsWord (word_as w)
unfolding word_as
word-is w = record { four = w.four; ordered = w.ordered; angle-small = small w.angle }

module _ (v w : Word) where
  -- each axis of `to` stands somewhere in `from`
  sized-some : (k : ℕ) → Sized (output_of (word_as v) (word_as w) k) → 1 ≤ position 1 (size (arg k w.axes)) v.axes
  unfolding output_of word_as
  sized-some k s = omega (arith, s.least, size-signed (xor (minus (arg k v.axes)) (minus (arg k w.axes))) (position 1 (size (arg k w.axes)) v.axes))

  axis-some : (i : ℕ) → i < 4 → 1 ≤ position 1 (size (get_or w.axes i (pos 0))) v.axes
  unfolding arg
  axis-some i h = go i h
    where
      s : Sized (output_of (word_as v) (word_as w) 1) × Sized (output_of (word_as v) (word_as w) 2) × Sized (output_of (word_as v) (word_as w) 3) × Sized (output_of (word_as v) (word_as w) 4)
      s = order-sized _ _ _ _ (outs-order (word_as v) (word_as w) (word-is v) (word-is w))

      go : (i : ℕ) → i < 4 → 1 ≤ position 1 (size (get_or w.axes i (pos 0))) v.axes
      go zero h = sized-some 1 s.0
      go (suc zero) h = sized-some 2 s.1
      go (suc (suc zero)) h = sized-some 3 s.2
      go (suc (suc (suc zero))) h = sized-some 4 s.3
      go (suc (suc (suc (suc i)))) h = absurd (over h)
        where
          over : suc (suc (suc (suc i))) < 4 → ⊥
          over h = omega arith

  pub place-some : (i : ℕ) → i < 4 → {s k : ℕ} → s ≡ size (get_or w.axes i (pos 0)) → k ≡ position 1 s v.axes → 1 ≤ k
  place-some i h e f = rw (f, e) (axis-some i h)

pub place-few : (v : Word) (s : ℕ) {k : ℕ} → k ≡ position 1 s v.axes → k - 1 < length v.axes
place-few v s e = omega (arith, place-most (finds-size s) v.axes, v.four)

-- ---- an output, and the code of its factor

module _ (v w : Word) where
  pub axis-so : (i : ℕ) {s k : ℕ} {a b : Bool} → s ≡ size (get_or w.axes i (pos 0)) → k ≡ position 1 s v.axes → a ≡ minus (get_or v.axes (k - 1) (pos 0))
      → b ≡ minus (get_or w.axes i (pos 0)) → signed (not (beq a b)) k ≡ output_by_axis (word_as v) (word_as w) (i + 1)
  unfolding output_by_axis input_at word_as arg
  axis-so i {s} {k} {a} {b} d e f g = let n : i + 1 - 1 ≡ i = omega arith in sym (rw (n, ← d, ← e, ← f, ← g, ← differ a b))

  pub angle-none : (i : ℕ) {s : ℕ} → s ≡ size (get_or w.axes i (pos 0)) → 2 < s → pos 0 ≡ angle_by_axis (word_as v) (word_as w) (i + 1)
  unfolding angle_by_axis carries_angle word_as arg
  angle-none i {s} d h = let n : i + 1 - 1 ≡ i = omega arith in sym (rw (n, ← d, lt-leb s 2 h) refl)

  pub angle-so : (i : ℕ) {s : ℕ} → s ≡ size (get_or w.axes i (pos 0)) → s ≤ 2 → angles (word_as v) (word_as w) ≡ angle_by_axis (word_as v) (word_as w) (i + 1)
  unfolding angle_by_axis carries_angle word_as arg
  angle-so i {s} d h = let n : i + 1 - 1 ≡ i = omega arith in sym (rw (n, ← d, le-leb s 2 h) refl)

  -- all eight
  pub by-axis-so : {a b c d e f g h : ℤ} → a ≡ output_by_axis (word_as v) (word_as w) 1 → b ≡ output_by_axis (word_as v) (word_as w) 2
      → c ≡ output_by_axis (word_as v) (word_as w) 3 → d ≡ output_by_axis (word_as v) (word_as w) 4 → e ≡ angle_by_axis (word_as v) (word_as w) 1
      → f ≡ angle_by_axis (word_as v) (word_as w) 2 → g ≡ angle_by_axis (word_as v) (word_as w) 3 → h ≡ angle_by_axis (word_as v) (word_as w) 4
      → a ∷ b ∷ c ∷ d ∷ e ∷ f ∷ g ∷ h ∷ [] ≡ combined_by_axis (word_as v) (word_as w)
  unfolding combined_by_axis
  by-axis-so p q r s t u x y = rw (p, q, r, s, t, u, x, y)

-- ---- all eight

pub documented-tests : (l : List ℤ) → length l ≡ 8
    → is_documented l ≡ (is_order (take 4 l) && (all_of is_code (drop 4 l) && two_alike (size (get_or l 4 (pos 0))) (size (get_or l 5 (pos 0))) (size (get_or l 6 (pos 0))) (size (get_or l 7 (pos 0)))))
unfolding is_documented arg
documented-tests l h = rw (eq-eqb (length l) 8 h) refl
