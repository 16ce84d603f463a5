-- `next_step`: what is found from the place on is what is found from the cursor on (`Walks`), for every piece so far is blank. A turn passes
-- a blank piece and the bar behind it; the first other piece is the step. What is left of the text is the measure.
use Prim.Native.Nat.{◌-◌}
use lib.ListN.{length}
use Rattle.reader.proofs.Walks.{Walks}
use Rattle.reader.proofs.walk.next_step.Given as goal

abbrev pub invariant-loop-from : goal.invariant-loop-from
invariant-loop-from l = Walks l.normal l.initial.from l.from

abbrev pub decreases-loop-from : goal.decreases-loop-from
decreases-loop-from l = length l.normal - l.from
