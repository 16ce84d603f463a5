-- The rule on an operator's arguments, by its number; and which operator is left in the last arm of a match.
use mathlib.Core.Path.{◌≡◌, refl}
use Prim.Native.Nat.{ℕ, zero, suc, ◌≤◌, ◌<◌}
use native.Mathlib.Omega.{arith}
use mathlib.Core.Bool.{Bool, true, false, cond}
use mathlib.Core.List.{List}
use borrow.Author.Tests.{ne_eqb}
use lib.Dec.{eqb}
use lib.IntN.{ℤ}
use Rattle.rules.specs.Operators.PushPop.{is_rising}
use Rattle.rules.specs.Operators.Arguments.{is_order}
use Rattle.rules.specs.Operators.Adapt.{is_adapt}
use Rattle.rules.specs.Operators.Documented.{is_documented}
use Rattle.rules.specs.Operators.Descriptions.{Adapt}
use Rattle.rules.specs.Operators.Table.{is_args, operator_of}

pub args-flags : (k : ℕ) (l : List ℤ) → k ≤ 1 → is_rising 0 l ≡ is_args (operator_of k) l
unfolding is_args operator_of
args-flags zero l h = refl
args-flags (suc zero) l h = refl
args-flags (suc (suc k)) l h = absurd (omega (arith, h))

pub args-order : {k : ℕ} (l : List ℤ) → k ≡ 9 → is_order l ≡ is_args (operator_of k) l
unfolding is_args operator_of
args-order l e = rw e refl

pub args-documented : {k : ℕ} (l : List ℤ) → k ≡ 11 → is_documented l ≡ is_args (operator_of k) l
unfolding is_args operator_of
args-documented l e = rw e refl

-- the operator of the last arm, by what its number is not
pub the_last : (k : ℕ) → 8 < k → (k ≡ 9 → ⊥) → (k ≡ 11 → ⊥) → operator_of k ≡ Adapt
unfolding operator_of
the_last k g n o =
    rw (
      ne_eqb k 0 (λ e. omega (arith, e, g)),
      ne_eqb k 1 (λ e. omega (arith, e, g)),
      ne_eqb k 2 (λ e. omega (arith, e, g)),
      ne_eqb k 3 (λ e. omega (arith, e, g)),
      ne_eqb k 4 (λ e. omega (arith, e, g)),
      ne_eqb k 5 (λ e. omega (arith, e, g)),
      ne_eqb k 6 (λ e. omega (arith, e, g)),
      ne_eqb k 7 (λ e. omega (arith, e, g)),
      ne_eqb k 8 (λ e. omega (arith, e, g)),
      ne_eqb k 9 n,
      ne_eqb k 11 o,
    ) (either (eqb k 10))
  where
    either : (b : Bool) → cond b Adapt Adapt ≡ Adapt
    either true = refl
    either false = refl

pub args-adapt : (k : ℕ) (l : List ℤ) → 8 < k → (k ≡ 9 → ⊥) → (k ≡ 11 → ⊥) → is_adapt l ≡ is_args (operator_of k) l
unfolding is_args
args-adapt k l g n o = rw (the_last k g n o) refl
