-- `is_noop`: the four tests are those of `all_staying`, in its order.
use Rattle.std.proofs.Common.{arith}
use Rattle.std.proofs.lemmas.Bool.Decides.{nat_tests}
use Rattle.adapt.specs.Factors.{all_staying}
use Rattle.adapt.proofs.factors.is_noop.Goals as goal

pub returns-then-is_staying-3 : goal.returns-then-is_staying-3
unfolding all_staying
returns-then-is_staying-3 c = grind (arith, nat_tests)

pub returns-else-is_staying-3 : goal.returns-else-is_staying-3
unfolding all_staying
returns-else-is_staying-3 c = grind (arith, nat_tests)
