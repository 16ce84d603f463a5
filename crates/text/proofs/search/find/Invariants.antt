-- `find`: no `old` begins from `from` up to i (`Passed`). A turn passes the place i, and what `skip` passes behind it, or ends where `old`
-- stands. What is left of src is the measure.
use Prim.Native.Nat.{◌-◌}
use lib.ListN.{length}
use Rattle.text.specs.Places.{Passed}
use Rattle.text.proofs.search.find.Given as goal

abbrev pub invariant-loop-i : goal.invariant-loop-i
invariant-loop-i l = Passed l.src l.from l.old l.i

abbrev pub decreases-loop-i : goal.decreases-loop-i
decreases-loop-i l = length l.src - l.i
