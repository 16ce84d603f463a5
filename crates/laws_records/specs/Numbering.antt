-- The operators and their numbers are one to one.
use Rattle.std.specs.Prelude.{◌≡◌, refl, ℕ, suc, ◌≤◌, eqb}
use Rattle.std.proofs.Common.{arith, eqb-true, lit≤}
use Rattle.rules.specs.Operators.Descriptions.{Operator, Push, Pop, StackPush, StackPop, StackFlip, StackRoll, StackUnroll, StackSwap, StackDrop, Axisswap, Adapt, Documented}
use Rattle.rules.specs.Operators.Table.{number_of, operator_of, greatest}
use Rattle.laws_lists.specs.Tests.{below, below_at}

pub operator-number : (o : Operator) → operator_of (number_of o) ≡ o
unfolding operator_of number_of
operator-number Push = refl
operator-number Pop = refl
operator-number StackPush = refl
operator-number StackPop = refl
operator-number StackFlip = refl
operator-number StackRoll = refl
operator-number StackUnroll = refl
operator-number StackSwap = refl
operator-number StackDrop = refl
operator-number Axisswap = refl
operator-number Adapt = refl
operator-number Documented = refl

pub number-operator : (k : ℕ) → k ≤ greatest → number_of (operator_of k) ≡ k
unfolding operator_of number_of below
number-operator k h = eqb-true (number_of (operator_of k)) k (below_at (suc greatest) (λ (k : ℕ). eqb (number_of (operator_of k)) k) refl k (omega arith))

pub number_small : (o : Operator) → number_of o ≤ greatest
unfolding number_of
number_small Push = lit≤ tt
number_small Pop = lit≤ tt
number_small StackPush = lit≤ tt
number_small StackPop = lit≤ tt
number_small StackFlip = lit≤ tt
number_small StackRoll = lit≤ tt
number_small StackUnroll = lit≤ tt
number_small StackSwap = lit≤ tt
number_small StackDrop = lit≤ tt
number_small Axisswap = lit≤ tt
number_small Adapt = lit≤ tt
number_small Documented = lit≤ tt
