-- `lines_of`: n steps stand before the reader's place, none of them is modifiers alone, and their lines are written (`Lines`). The reader moves ahead, so
-- what is left of the text is the measure. Each way out tells splitting's reply: 6 at a step that is modifiers alone, and at the end 8 or
-- the lines.
use Prim.Native.Nat.{◌-◌}
use lib.ListN.{length}
use Rattle.split.proofs.Lines.{Lines}
use Rattle.split.proofs.lines_of.Given as goal

abbrev pub invariant-loop-from : goal.invariant-loop-from
invariant-loop-from l = Lines l.normal l.initial.dst l.place l.n l.o l.dst

abbrev pub decreases-loop-from : goal.decreases-loop-from
decreases-loop-from l = length l.normal - l.place
