use Rattle.std.proofs.Common.{arith, inl, inr}
use Rattle.std.proofs.lemmas.Bool.Decides.{nat_tests}
use Rattle.rules.specs.Operators.Arguments.{is_order}
use Rattle.numbers.specs.Order.{up_to}
use Rattle.numbers.proofs.order.is_order.Goals as goal
use Rattle.numbers.proofs.order.is_order.Goals.{then-n-ge1, else-n-ge1, then-n-le4, else-n-le4}

pub returns-then-are_up_to : goal.returns-then-are_up_to
unfolding is_order up_to
returns-then-are_up_to c = grind (arith, nat_tests)

pub returns-else-are_up_to : goal.returns-else-are_up_to
unfolding is_order up_to
returns-else-are_up_to c =
    elim c.if-n-le4.branch [
      | then-n-le4 w ↦ grind (arith, nat_tests)
      | else-n-le4 w ↦ elim w.if-n-le4.either [ inl a ↦ grind (arith, nat_tests) | inr a ↦ grind (arith, nat_tests) ]
    ]
