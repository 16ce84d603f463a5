-- `factor_of`: a code is three times one angle and then the other, so its quotient and its rest by 3 name the two.
use Rattle.rules.specs.Operators.Adapt.{factor}
use Rattle.adapt.proofs.factors.factor_of.Goals as goal

pub returns : goal.returns
unfolding factor
returns c = cc
