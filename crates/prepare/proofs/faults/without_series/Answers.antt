-- A number, and no series.
use mathlib.Core.Path.{refl}
use Rattle.prepare.specs.Faults.{without}
use Rattle.prepare.proofs.faults.without_series.Goals as goal

pub returns : goal.returns
unfolding without
returns c = refl
