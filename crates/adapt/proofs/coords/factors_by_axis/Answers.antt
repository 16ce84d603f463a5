-- `factors_by_axis`: each arm knows which way it goes: back, each factor is 1 over its own; forward it is the step's own.
use mathlib.Core.Path.{refl}
use Rattle.adapt.specs.Factors.{factors_by_axis}
use Rattle.adapt.proofs.coords.factors_by_axis.Goals as goal

pub returns-then-back : goal.returns-then-back
unfolding factors_by_axis
returns-then-back c = rw c.if-back.true c.overs_of.ensures

pub returns : goal.returns
unfolding factors_by_axis
returns c = rw c.if-back.false refl
