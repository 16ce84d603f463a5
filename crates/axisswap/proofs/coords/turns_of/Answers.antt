-- `turns_of`: each of the four signs is what `turn_at` says of its argument.
use Rattle.axisswap.specs.Signs.{turns_of}
use Rattle.axisswap.proofs.coords.turns_of.Goals as goal

pub returns : goal.returns
unfolding turns_of
returns c = cc
