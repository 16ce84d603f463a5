-- `flip_places`: the first i places and the top i columns are exchanged, the others are as they were (`Flips`).
use Rattle.stack.proofs.TracedFlip.{Flips}
use Rattle.stack.proofs.places.flip_places.Given as goal

abbrev pub invariant-loop-i : goal.invariant-loop-i
invariant-loop-i l = Flips l.t l.l l.r l.i
