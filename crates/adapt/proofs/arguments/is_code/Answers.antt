-- `is_code`: the code asks the same as `is_code`: not below zero, not 4, and at most 7.
use Rattle.std.proofs.Common.{arith, to_z-of_z}
use Rattle.std.proofs.lemmas.Bool.Decides.{nat_tests}
use Rattle.rules.specs.Operators.Adapt.{is_code}
use Rattle.adapt.proofs.arguments.is_code.Goals as goal

pub returns-then-m-ne4 : goal.returns-then-m-ne4
unfolding is_code
returns-then-m-ne4 c = let f = to_z-of_z c.ranges.x in grind (arith, nat_tests)

pub returns-else-m-ne4 : goal.returns-else-m-ne4
unfolding is_code
returns-else-m-ne4 c = let f = to_z-of_z c.ranges.x in grind (arith, nat_tests)
