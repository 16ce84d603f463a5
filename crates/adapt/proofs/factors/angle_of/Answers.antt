-- `angle_of`: the arms are those of `angle`, in its order, and the literals are its numbers.
use Rattle.std.proofs.Common.{refl, rules, tests}
use lib.Ieee.{of_bits}
use Rattle.rules.specs.Operators.Adapt.{angle}
use Rattle.adapt.proofs.factors.angle_of.Goals as goal

pub returns-in-0 : goal.returns-in-0
unfolding angle of_bits
returns-in-0 c = rw c.in-0.is refl

pub returns-in-1 : goal.returns-in-1
unfolding angle of_bits
returns-in-1 c = rw c.in-1.is refl

pub returns-in_default : goal.returns-in_default
unfolding angle of_bits
returns-in_default c = search (rules, tests)
