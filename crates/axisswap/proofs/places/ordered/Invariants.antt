-- `ordered`: the first i places are those that the first i arguments name, with their signs (`Swapping`).
use Rattle.axisswap.proofs.OrderedPlaces.{Swapping}
use Rattle.axisswap.proofs.places.ordered.Given as goal

abbrev pub invariant-loop-i : goal.invariant-loop-i
invariant-loop-i l = Swapping l.l l.tuple l.r l.i
