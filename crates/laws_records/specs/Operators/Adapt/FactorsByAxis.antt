-- The documented mode in the request's words: "each output place takes the input place of the same axis, times the input's sign and angle factor
-- over the output's", with one rounding for each angle and one for the quotient.
use Rattle.std.specs.Prelude.{◌≡◌, Bool, cond, List, [], ◌∷◌, leb, eqb, get_or, ℤ, pos, Float}
use Rattle.std.proofs.Math.Path.{refl, ap}
use Rattle.std.proofs.Common.{sym, ◌∙◌, eqb-true, lit≤}
use Prim.Native.Nat.{ℕ, zero, suc, ◌+◌, ◌-◌, ◌≤◌}
use Rattle.std.proofs.Math.Bool.{true, false}
use Rattle.std.specs.Bool.{xor}
use native.Mathlib.Omega.{arith}
use Rattle.std.specs.Float.Ieee.{binary64, mul, div, unlike}
use Rattle.rules.specs.Text.Decimal.{minus}
use Rattle.rules.specs.Operators.Arguments.{size, arg}
use Rattle.rules.specs.Operators.Numbers.{number}
use Rattle.rules.specs.Operators.Table.{is_args}
use Rattle.rules.specs.Operators.Adapt.{Word, position, output_of, angles, one, angle, factor, post, mult, output}
use Rattle.rules.specs.Operators.Documented.{input_at, output_by_axis, carries_angle, angle_by_axis, combined_by_axis, is_documented, adapted_by_axis}
use Rattle.rules.specs.Face.Demands.{sign_angle}
use Rattle.rules.specs.declared.Coord.{Coord}
use Rattle.laws_records.specs.Series.{size-signed}
use Rattle.laws_records.specs.Operators.Adapt.Words.{Sized, order-sized, IsWord, outs-order}
use Rattle.laws_records.specs.Operators.Adapt.ByAxis.{by-axis-kept}
use Rattle.laws_records.specs.Operators.Adapt.Restores.{is-four, back, sent-to, taken}
use Rattle.laws_records.specs.Operators.Adapt.Factors.{factor-same, factor-angles, turn-div, minus-signed}

-- ---- the place of an axis

-- a place that is found holds a number of that size
data Holds (k x : ℕ) (l : List ℤ) (p : ℕ) : Type 0 where
  absent : p ≡ 0 → Holds k x l p
  found : (n : ℕ) → p ≡ suc k + n → size (get_or l n (pos 0)) ≡ x → Holds k x l p

place-holds : (k x : ℕ) (l : List ℤ) → Holds k x l (position (suc k) x l)
unfolding position
place-holds k x [] = absent refl
place-holds k x (y ∷ l) = go (eqb x (size y)) refl (place-holds (suc k) x l)
  where
    go : (b : Bool) → eqb x (size y) ≡ b → Holds (suc k) x l (position (suc (suc k)) x l) → Holds k x (y ∷ l) (cond b (suc k) (position (suc (suc k)) x l))
    go true e r = found 0 (omega arith) (sym (eqb-true x (size y) e))
    go false e (absent h) = absent h
    go false e (found n h f) = found (suc n) (omega (arith, h)) f

place-axis : (x : ℕ) (l : List ℤ) → 1 ≤ position 1 x l → size (arg (position 1 x l) l) ≡ x
unfolding arg
place-axis x l h = go (position 1 x l) (place-holds 0 x l) h
  where
    none : {p : ℕ} → p ≡ 0 → 1 ≤ p → ⊥
    none e h = omega arith

    less : {p n : ℕ} → p ≡ suc zero + n → p - 1 ≡ n
    less e = omega arith

    go : (p : ℕ) → Holds 0 x l p → 1 ≤ p → size (get_or l (p - 1) (pos 0)) ≡ x
    go p (absent e) h = absurd (none e h)
    go p (found n e f) h = rw (less e) f

-- ---- two words

module _ (v w : Word) (p : IsWord v) (q : IsWord w) where
  -- each axis of one word stands somewhere in the other
  sized-some : (i : ℕ) → Sized (output_of v w i) → 1 ≤ input_at v w i
  unfolding output_of input_at
  sized-some i s = omega (arith, s.least, size-signed (xor (minus (arg i v.axes)) (minus (arg i w.axes))) (position 1 (size (arg i w.axes)) v.axes))

  input-some : (i : ℕ) → 1 ≤ i → i ≤ 4 → 1 ≤ input_at v w i
  input-some i h k = go i h k
    where
      s : Sized (output_of v w 1) × Sized (output_of v w 2) × Sized (output_of v w 3) × Sized (output_of v w 4)
      s = order-sized (output_of v w 1) (output_of v w 2) (output_of v w 3) (output_of v w 4) (outs-order v w p q)

      go : (i : ℕ) → 1 ≤ i → i ≤ 4 → 1 ≤ input_at v w i
      go zero h k = absurd (none h)
        where
          none : 1 ≤ 0 → ⊥
          none h = omega arith
      go (suc zero) h k = sized-some 1 s.0
      go (suc (suc zero)) h k = sized-some 2 s.1
      go (suc (suc (suc zero))) h k = sized-some 3 s.2
      go (suc (suc (suc (suc zero)))) h k = sized-some 4 s.3
      go (suc (suc (suc (suc (suc i))))) h k = absurd (over k)
        where
          over : suc (suc (suc (suc (suc i)))) ≤ 4 → ⊥
          over h = omega arith

  module _ (i : ℕ) (h : 1 ≤ i) (k : i ≤ 4) where
    -- "the input place of the same axis"
    pub same-axis : size (arg (input_at v w i) v.axes) ≡ size (arg i w.axes)
    unfolding input_at
    same-axis = place-axis (size (arg i w.axes)) v.axes (unfold input_at in input-some i h k)

    -- arguments i and i + 4 of what the two words make
    args_at : (arg i (combined_by_axis v w) ≡ output_by_axis v w i) × (arg (i + 4) (combined_by_axis v w) ≡ angle_by_axis v w i)
    unfolding combined_by_axis arg
    args_at = go i h k
      where
        go : (i : ℕ) → 1 ≤ i → i ≤ 4 → (arg i (combined_by_axis v w) ≡ output_by_axis v w i) × (arg (i + 4) (combined_by_axis v w) ≡ angle_by_axis v w i)
        go zero h k = absurd (none h)
          where
            none : 1 ≤ 0 → ⊥
            none h = omega arith
        go (suc zero) h k = (refl, refl)
        go (suc (suc zero)) h k = (refl, refl)
        go (suc (suc (suc zero))) h k = (refl, refl)
        go (suc (suc (suc (suc zero)))) h k = (refl, refl)
        go (suc (suc (suc (suc (suc i))))) h k = absurd (over k)
          where
            over : suc (suc (suc (suc (suc i)))) ≤ 4 → ⊥
            over h = omega arith

    -- "each output place takes the input place of the same axis"
    pub post-by-axis : post (combined_by_axis v w) i ≡ input_at v w i
    unfolding post output_by_axis
    post-by-axis = rw args_at.0 (size-signed _ (input_at v w i))

    -- the code stands for the angle of the one over the angle of the other
    code-factor : factor (size (angle_by_axis v w i))
        ≡ div binary64 (angle (cond (carries_angle (arg (input_at v w i) v.axes)) v.angle 0)) (angle (cond (carries_angle (arg i w.axes)) w.angle 0))
    unfolding angle_by_axis carries_angle
    code-factor = rw same-axis (go (leb (size (arg i w.axes)) 2))
      where
        go : (b : Bool) → factor (size (cond b (angles v w) (pos 0))) ≡ div binary64 (angle (cond b v.angle 0)) (angle (cond b w.angle 0))
        go true = unfold angles in factor-angles v.angle w.angle p.angle-small q.angle-small
        go false = factor-same 0 (lit≤ tt)

    -- "times the input's sign and angle factor over the output's"
    pub mult-by-axis : mult (combined_by_axis v w) i ≡ div binary64 (sign_angle v (input_at v w i)) (sign_angle w i)
    unfolding mult output_by_axis sign_angle
    mult-by-axis =
        let a = minus (arg (input_at v w i) v.axes) in
        let b = minus (arg i w.axes) in
        rw (args_at.0, args_at.1, minus-signed (unlike a b) (input_at v w i) (input-some i h k), code-factor) (turn-div binary64 a b _ _)

    -- ---- what the step does, in these words

    rule : is_documented (combined_by_axis v w) ≡ true
    rule = unfold is_args in (by-axis-kept v w p q).rule

    module _ (t : Coord) where
      pub forward-in-words : number i (adapted_by_axis false (combined_by_axis v w) t)
          ≡ mul binary64 (number (input_at v w i) t) (div binary64 (sign_angle v (input_at v w i)) (sign_angle w i))
      unfolding output
      forward-in-words = taken (combined_by_axis v w) rule t (is-four i h k) t ∙ rw (post-by-axis, mult-by-axis) refl

      pub inverse-in-words : number (input_at v w i) (adapted_by_axis true (combined_by_axis v w) t)
          ≡ mul binary64 (number i t) (div binary64 one (div binary64 (sign_angle v (input_at v w i)) (sign_angle w i)))
      unfolding back
      inverse-in-words =
          ap (λ (n : ℕ). number n (adapted_by_axis true (combined_by_axis v w) t)) (sym post-by-axis)
          ∙ sent-to (combined_by_axis v w) rule t (is-four i h k)
          ∙ ap (λ (m : Float). mul binary64 (number i t) (div binary64 one m)) mult-by-axis
