-- `operator_in`: each arm knows its mode.
use mathlib.Core.Path.{refl}
use Rattle.rules.specs.Operators.Table.{number_of}
use Rattle.rules.specs.Operators.Documented.{adapt_in}
use Rattle.adapt.proofs.modes.operator_in.Goals as goal

pub returns-in-Crate : goal.returns-in-Crate
unfolding number_of adapt_in
returns-in-Crate c = rw c.in-Crate.is refl

pub returns-in-Documented : goal.returns-in-Documented
unfolding number_of adapt_in
returns-in-Documented c = rw c.in-Documented.is refl
