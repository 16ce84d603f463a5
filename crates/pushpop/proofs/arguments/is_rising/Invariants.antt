-- `is_rising`: the places so far rise up to `last`, so the others decide, each of which must be above `last` (`Rest`).
use Rattle.rules.specs.Operators.PushPop.{is_rising}
use Rattle.numbers.proofs.Rest.{Rest}
use Rattle.pushpop.proofs.arguments.is_rising.Given as goal

abbrev pub invariant-loop-x : goal.invariant-loop-x
invariant-loop-x l = Rest (is_rising l.last) l.l l.x-index (is_rising 0 l.l)
