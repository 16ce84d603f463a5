-- `pop_places`: the first places have got as many columns, and the top is as far down (`Popping`).
use Rattle.pushpop.proofs.TracedPop.{Popping}
use Rattle.pushpop.proofs.places.pop_places.Given as goal

abbrev pub invariant-loop-x : goal.invariant-loop-x
invariant-loop-x l = Popping l.initial.r l.l l.r l.x-index
