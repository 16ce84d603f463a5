-- `slot_of`: the arms are those of `slot`, in its order.
use Rattle.std.proofs.Common.{refl, rules, tests}
use Rattle.columns.specs.Coords.{slot}
use Rattle.columns.proofs.slots.slot_of.Goals as goal

pub returns-in-1-clause-named : goal.returns-in-1-clause-named
unfolding slot
returns-in-1-clause-named c = rw c.in-1.is refl

pub returns-in-2-clause-named : goal.returns-in-2-clause-named
unfolding slot
returns-in-2-clause-named c = rw c.in-2.is refl

pub returns-in-3-clause-named : goal.returns-in-3-clause-named
unfolding slot
returns-in-3-clause-named c = rw c.in-3.is refl

pub returns-in_default-clause-named : goal.returns-in_default-clause-named
unfolding slot
returns-in_default-clause-named c = search (rules, tests)
