-- `is_pair`: the tests are those of `is_pair`, in its order.
use Rattle.std.proofs.Common.{arith}
use Rattle.std.proofs.lemmas.Bool.Decides.{nat_tests}
use Rattle.rules.specs.Operators.Documented.{is_pair}
use Rattle.adapt.proofs.documented.is_pair.Goals as goal

pub returns-then-c-eq0 : goal.returns-then-c-eq0
unfolding is_pair
returns-then-c-eq0 c = grind (arith, nat_tests)

pub returns-else-c-eq0 : goal.returns-else-c-eq0
unfolding is_pair
returns-else-c-eq0 c = grind (arith, nat_tests)
