-- `adapt`: each arm knows its mode, and has what `is_adapt_in` and `adapted_in` say of it.
use Rattle.rules.specs.Operators.Documented.{is_adapt_in, adapted_in}
use Rattle.adapt.proofs.coords.adapt.Goals as goal

pub adapt_crate-requires : goal.adapt_crate-requires
unfolding is_adapt_in
adapt_crate-requires c = rw c.in-Crate.is at c.requires

pub adapt_by_axis-requires : goal.adapt_by_axis-requires
unfolding is_adapt_in
adapt_by_axis-requires c = rw c.in-Documented.is at c.requires

pub returns-in-Crate : goal.returns-in-Crate
unfolding adapted_in
returns-in-Crate c = rw c.in-Crate.is c.adapt_crate.ensures

pub returns-in-Documented : goal.returns-in-Documented
unfolding adapted_in
returns-in-Documented c = rw c.in-Documented.is c.adapt_by_axis.ensures
