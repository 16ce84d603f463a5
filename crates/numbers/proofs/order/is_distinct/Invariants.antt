-- `is_distinct`: no size before i is repeated further on, so those from i on decide (`Rest`): a turn looks for its own size in what stands
-- behind it.
use Rattle.rules.specs.Operators.Arguments.{is_distinct}
use Rattle.numbers.proofs.Rest.{Rest}
use Rattle.numbers.proofs.order.is_distinct.Given as goal

abbrev pub invariant-loop-i : goal.invariant-loop-i
invariant-loop-i l = Rest is_distinct l.l l.i (is_distinct l.l)
