-- `number_of`: the arms are those of `number`, in its order.
use Rattle.std.proofs.Common.{refl, rules, tests}
use Rattle.rules.specs.Operators.Numbers.{number}
use Rattle.columns.proofs.coordinate.number_of.Goals as goal

pub returns-in-1 : goal.returns-in-1
unfolding number
returns-in-1 c = rw c.in-1.is refl

pub returns-in-2 : goal.returns-in-2
unfolding number
returns-in-2 c = rw c.in-2.is refl

pub returns-in-3 : goal.returns-in-3
unfolding number
returns-in-3 c = rw c.in-3.is refl

pub returns-in_default : goal.returns-in_default
unfolding number
returns-in_default c = search (rules, tests)
