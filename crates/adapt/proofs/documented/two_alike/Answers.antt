-- `two_alike`: the six pairs are asked in the order of `two_alike`.
use Rattle.std.proofs.Common.{arith}
use Rattle.std.proofs.lemmas.Bool.Decides.{nat_tests}
use Rattle.rules.specs.Operators.Documented.{two_alike}
use Rattle.adapt.proofs.documented.two_alike.Goals as goal

pub returns-then-is_pair-5 : goal.returns-then-is_pair-5
unfolding two_alike
returns-then-is_pair-5 c = grind (arith, nat_tests)

pub returns-else-is_pair-5 : goal.returns-else-is_pair-5
unfolding two_alike
returns-else-is_pair-5 c = grind (arith, nat_tests)
