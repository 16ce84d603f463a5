-- `prepare_steps`: n steps stand before the reader's place, and either their records are made, each with its span, or the first refusal is known (`Reaches`). The reader
-- moves ahead, so what is left of the text is the measure.
use Prim.Native.Nat.{◌-◌}
use lib.ListN.{length}
use Rattle.prepare.proofs.StepByStep.{Reaches}
use Rattle.prepare.proofs.prepare_steps.Given as goal

abbrev pub invariant-loop-from : goal.invariant-loop-from
invariant-loop-from l = Reaches l.mode l.normal l.table l.initial.a l.initial.b l.initial.c l.a l.b l.c l.steps l.at l.n l.first

abbrev pub decreases-loop-from : goal.decreases-loop-from
decreases-loop-from l = length l.normal - l.at
