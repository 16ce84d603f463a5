-- `slots_of`: each of the four slots is what `slot_at` says of its argument.
use Rattle.columns.specs.Coords.{slots_of}
use Rattle.columns.proofs.slots.slots_of.Goals as goal

pub returns : goal.returns
unfolding slots_of
returns c = cc
