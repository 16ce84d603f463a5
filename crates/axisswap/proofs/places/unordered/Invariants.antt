-- `unordered`: the first i inputs stand where the first i arguments send them, with their signs (`Unswapping`).
use Rattle.axisswap.proofs.OrderedPlaces.{Unswapping}
use Rattle.axisswap.proofs.places.unordered.Given as goal

abbrev pub invariant-loop-i : goal.invariant-loop-i
invariant-loop-i l = Unswapping l.l l.tuple l.r l.i
