-- `between`: each arm knows its mode, and has what `combined_in` says of it.
use Rattle.rules.specs.Operators.Documented.{combined_in}
use Rattle.adapt.proofs.modes.between.Goals as goal

pub returns-in-Crate : goal.returns-in-Crate
unfolding combined_in
returns-in-Crate c = rw c.in-Crate.is c.combined.ensures

pub returns-in-Documented : goal.returns-in-Documented
unfolding combined_in
returns-in-Documented c = rw c.in-Documented.is c.combined_by_axis.ensures
