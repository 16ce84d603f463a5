-- `push`: the columns of the first j places stand above those that were there (`Pushing`).
use Rattle.pushpop.proofs.Pushed.{Pushing}
use Rattle.rules.specs.Pipeline.Tuples.{tuples}
use Rattle.pushpop.proofs.coords.push.Given as goal

abbrev pub invariant-loop-j : goal.invariant-loop-j
invariant-loop-j l = Pushing l.n l.depth l.args (tuples l.xs) l.initial.store l.store l.j
