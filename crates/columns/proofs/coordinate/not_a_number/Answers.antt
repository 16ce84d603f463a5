-- `not_a_number`: zero over zero is NaN, by computing.
use mathlib.Core.Path.{refl}
use lib.Ieee.{of_bits, div}
use Rattle.columns.proofs.coordinate.not_a_number.Goals as goal

pub returns : goal.returns
unfolding of_bits div
returns c = refl
