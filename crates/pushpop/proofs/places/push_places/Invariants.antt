-- `push_places`: the first places stand above the columns that were there, and the top is as far up (`Pushing`).
use Rattle.pushpop.proofs.TracedPush.{Pushing}
use Rattle.pushpop.proofs.places.push_places.Given as goal

abbrev pub invariant-loop-x : goal.invariant-loop-x
invariant-loop-x l = Pushing l.initial.r l.l l.r l.x-index
