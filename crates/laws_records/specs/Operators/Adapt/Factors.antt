-- The factors of `adapt` are the Rust's: the angle of one word over the angle of the other, each with its axis's sign, and
-- one rounding.
use Rattle.std.specs.Prelude.{◌≡◌, refl, ℕ, zero, suc, ◌+◌, ◌*◌, ◌/◌, ◌%◌, ◌^◌, ◌≤◌, Bool, true, false, not, cond, eqb, ltb, leb, ℤ, pos, Float}
use Rattle.std.specs.Bool.{beq}
use Rattle.std.proofs.Common.{arith, eqb-true, lit≤}
use Rattle.std.specs.Float.{nan, inf, fin, Format}
use Rattle.std.specs.Float.Ieee.{binary64, prec, emax, low, up, down, unlike, odd, units, round, neg, div}
use Rattle.rules.specs.Text.Decimal.{signed, minus}
use Rattle.rules.specs.Operators.Arguments.{size, arg}
use Rattle.rules.specs.Operators.Adapt.{Word, position, output_of, angles, combined, angle, factor, mult}
use Rattle.rules.specs.Operators.Numbers.{turn}
use Rattle.laws_lists.specs.Tests.{beq-is, both, both_at}
use Rattle.laws_records.specs.Series.{size-signed}
use Rattle.laws_records.specs.Operators.Adapt.Words.{Sized, order-sized, IsWord, outs-order}

-- ---- a code stands for one angle over the other

-- equal angles make 1, whose code is 0
pub factor-same : (k : ℕ) → k ≤ 2 → factor 0 ≡ div binary64 (angle k) (angle k)
unfolding factor angle div
factor-same zero h = refl
factor-same (suc zero) h = refl
factor-same (suc (suc zero)) h = refl
factor-same (suc (suc (suc k))) h = absurd (none h)
  where
    none : suc (suc (suc k)) ≤ 2 → ⊥
    none h = omega arith

factor-other : (x y : ℕ) → x ≤ 2 → y ≤ 2 → factor (3 * x + y) ≡ div binary64 (angle x) (angle y)
unfolding factor
factor-other x y h k =
    let a : (3 * x + y) / 3 ≡ x = omega arith in
    let b : (3 * x + y) % 3 ≡ y = omega arith in
    rw (a, b)

-- the code of two angles
pub factor-angles : (x y : ℕ) → x ≤ 2 → y ≤ 2 → factor (cond (eqb x y) 0 (3 * x + y)) ≡ div binary64 (angle x) (angle y)
factor-angles x y h k = go (eqb x y) refl
  where
    go : (b : Bool) → eqb x y ≡ b → factor (cond b 0 (3 * x + y)) ≡ div binary64 (angle x) (angle y)
    go true e = rw (eqb-true x y e) (factor-same y k)
    go false e = factor-other x y h k

-- ---- signs

-- a value that has its sign in one place
turn-as : (g : Bool → Float) → ((s : Bool) → neg (g s) ≡ g (not s)) → (b s : Bool) → turn b (g s) ≡ g (unlike b s)
unfolding turn
turn-as g h true true = h true
turn-as g h true false = h false
turn-as g h false true = refl
turn-as g h false false = refl

turn-nan : (b : Bool) → turn b nan ≡ nan
unfolding neg
turn-nan b = turn-as (λ s. nan) (λ s. refl) b b

turn-inf : (b s : Bool) → turn b (inf s) ≡ inf (unlike b s)
unfolding neg
turn-inf b s = turn-as inf (λ s. refl) b s

turn-fin : (b s : Bool) (m : ℕ) (e : ℤ) → turn b (fin s m e) ≡ fin (unlike b s) m e
unfolding neg
turn-fin b s m e = turn-as (λ s. fin s m e) (λ s. refl) b s

neg-odd : (d : ℕ) (s : Bool) (q k l : ℕ) → neg (odd d s q k l) ≡ odd d (not s) q k l
unfolding odd neg
neg-odd d s zero k l = refl
neg-odd d s (suc q) k l = refl

neg-units : (f : Format) (s : Bool) (q k : ℕ) → neg (units f s q k) ≡ units f (not s) q k
unfolding units neg
neg-units f s q k = go (ltb (q * 2 ^ k) (2 ^ (low f + suc (emax f))))
  where
    go : (b : Bool) → neg (cond b (odd (suc (prec f)) s q k (low f)) (inf s)) ≡ cond b (odd (suc (prec f)) (not s) q k (low f)) (inf (not s))
    go true = neg-odd (suc (prec f)) s q k (low f)
    go false = refl

neg-round : (f : Format) (s : Bool) (a b : ℕ) → neg (round f s a b) ≡ round f (not s) a b
unfolding round
neg-round f s a b = neg-units f s _ _

-- a quotient of finite numbers, by its sign
neg-quotient : (f : Format) (z w s : Bool) (a b : ℕ) → neg (cond z (cond w nan (inf s)) (round f s a b)) ≡ cond z (cond w nan (inf (not s))) (round f (not s) a b)
unfolding neg
neg-quotient f true true s a b = refl
neg-quotient f true false s a b = refl
neg-quotient f false w s a b = neg-round f s a b

every-sign : both (λ a. both (λ b. both (λ s. both (λ t. beq (unlike (unlike a b) (unlike s t)) (unlike (unlike a s) (unlike b t)))))) ≡ true
unfolding both
every-sign = refl

signs : (a b s t : Bool) → unlike (unlike a b) (unlike s t) ≡ unlike (unlike a s) (unlike b t)
signs a b s t = beq-is (unlike (unlike a b) (unlike s t)) (unlike (unlike a s) (unlike b t)) (both_at _ (both_at _ (both_at _ (both_at _ every-sign a) b) s) t)

-- The sign of a quotient is turned where one of the two is turned and not the other.
pub turn-div : (f : Format) (a b : Bool) (x y : Float) → turn (unlike a b) (div f x y) ≡ div f (turn a x) (turn b y)
unfolding div
turn-div f a b nan y = rw (turn-nan a) (turn-nan (unlike a b))
turn-div f a b (inf s) nan = rw (turn-inf a s, turn-nan b) (turn-nan (unlike a b))
turn-div f a b (inf s) (inf t) = rw (turn-inf a s, turn-inf b t) (turn-nan (unlike a b))
turn-div f a b (inf s) (fin t n d) = rw (turn-inf a s, turn-fin b t n d, ← signs a b s t) (turn-inf (unlike a b) (unlike s t))
turn-div f a b (fin s m e) nan = rw (turn-fin a s m e, turn-nan b) (turn-nan (unlike a b))
turn-div f a b (fin s m e) (inf t) = rw (turn-fin a s m e, turn-inf b t, ← signs a b s t) (turn-fin (unlike a b) (unlike s t) 0 (pos 0))
turn-div f a b (fin s m e) (fin t n d) =
    rw (turn-fin a s m e, turn-fin b t n d, ← signs a b s t)
    (turn-as (λ r. cond (eqb n 0) (cond (eqb m 0) nan (inf r)) (round f r (m * up e * down d) (n * up d * down e))) (λ r. neg-quotient f (eqb n 0) (eqb m 0) r _ _) (unlike a b) (unlike s t))

-- ---- two words

pub minus-signed : (b : Bool) (n : ℕ) → 1 ≤ n → minus (signed b n) ≡ b
unfolding minus signed
minus-signed false n h = refl
minus-signed true zero h = absurd (none h)
  where
    none : 1 ≤ 0 → ⊥
    none h = omega arith
minus-signed true (suc n) h = refl

-- the Rust's mult[i] of one word: the angle, in the first two numbers, with the sign of the axis at i
unfoldable pub own : Word → ℕ → Float
own w i = turn (minus (arg i w.axes)) (angle (cond (leb i 2) w.angle 0))

module _ (v w : Word) where
  -- output i, where its code is that of the angles x and y
  of_code : (i x y k : ℕ) → 1 ≤ size (output_of v w i) → factor k ≡ div binary64 (angle x) (angle y)
      → turn (minus (output_of v w i)) (factor k) ≡ div binary64 (turn (minus (arg i v.axes)) (angle x)) (turn (minus (arg i w.axes)) (angle y))
  unfolding output_of
  of_code i x y k h f =
      let a = minus (arg i v.axes) in
      let b = minus (arg i w.axes) in
      let n = position 1 (size (arg i w.axes)) v.axes in
      let g : 1 ≤ n = rw (size-signed (unlike a b) n) at h in
      rw (minus-signed (unlike a b) n g, f) (turn-div binary64 a b (angle x) (angle y))

  -- The Rust's give.mult[i] = from.mult[i] / to.mult[i], i from 1 to 4.
  pub mult-words : IsWord v → IsWord w → (i : ℕ) → 1 ≤ i → i ≤ 4 → mult (combined v w) i ≡ div binary64 (own v i) (own w i)
  unfolding mult combined arg own angles
  mult-words p q i h k = go i h k
    where
      s : Sized (output_of v w 1) × Sized (output_of v w 2) × Sized (output_of v w 3) × Sized (output_of v w 4)
      s = order-sized (output_of v w 1) (output_of v w 2) (output_of v w 3) (output_of v w 4) (outs-order v w p q)

      f : factor (size (angles v w)) ≡ div binary64 (angle v.angle) (angle w.angle)
      f = factor-angles v.angle w.angle p.angle-small q.angle-small

      g : factor 0 ≡ div binary64 (angle 0) (angle 0)
      g = factor-same 0 (lit≤ tt)

      none : {n : ℕ} → 1 ≤ n → n ≤ 0 → ⊥
      none h k = omega arith

      over : {n : ℕ} → suc (suc (suc (suc (suc n)))) ≤ 4 → ⊥
      over h = omega arith

      go : (i : ℕ) → 1 ≤ i → i ≤ 4 → mult (combined v w) i ≡ div binary64 (own v i) (own w i)
      go zero h k = absurd (none h (lit≤ tt))
      go (suc zero) h k = of_code 1 v.angle w.angle (size (angles v w)) s.0.least f
      go (suc (suc zero)) h k = of_code 2 v.angle w.angle (size (angles v w)) s.1.least f
      go (suc (suc (suc zero))) h k = of_code 3 0 0 0 s.2.least g
      go (suc (suc (suc (suc zero)))) h k = of_code 4 0 0 0 s.3.least g
      go (suc (suc (suc (suc (suc i))))) h k = absurd (over k)
