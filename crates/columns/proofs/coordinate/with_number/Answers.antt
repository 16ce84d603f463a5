-- `with_number`: the arms are those of `put`, in its order.
use Rattle.std.proofs.Common.{refl, rules, tests}
use Rattle.rules.specs.Operators.Numbers.{put}
use Rattle.columns.proofs.coordinate.with_number.Goals as goal

pub returns-in-1 : goal.returns-in-1
unfolding put
returns-in-1 c = rw c.in-1.is refl

pub returns-in-2 : goal.returns-in-2
unfolding put
returns-in-2 c = rw c.in-2.is refl

pub returns-in-3 : goal.returns-in-3
unfolding put
returns-in-3 c = rw c.in-3.is refl

pub returns-in_default : goal.returns-in_default
unfolding put
returns-in_default c = search (rules, tests)
