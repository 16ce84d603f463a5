-- `overs_of`: 1 over each of four factors, which is how `overs` is written.
use mathlib.Core.Path.{refl}
use lib.Ieee.{of_bits}
use Rattle.adapt.specs.Factors.{overs}
use Rattle.adapt.proofs.factors.overs_of.Goals as goal

pub returns : goal.returns
unfolding overs of_bits
returns c = refl
