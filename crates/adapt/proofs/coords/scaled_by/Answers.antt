-- `scaled_by`: each number times its factor, which is how `scaled_by` is written.
use mathlib.Core.Path.{refl}
use Rattle.adapt.specs.Factors.{scaled_by}
use Rattle.adapt.proofs.coords.scaled_by.Goals as goal

pub returns : goal.returns
unfolding scaled_by
returns c = refl
