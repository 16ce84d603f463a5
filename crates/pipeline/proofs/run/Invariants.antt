-- `run`: three passes over the table. The first looks for a bad record, by where the last one's span ends (`Checked`); the second foretells the depths
-- by a run over no tuples (`Planning`); the third runs every step, and what it has done together with what is left is the written run
-- (`Running`). Each goes i steps far. Before and between them the refusals 18, 15, 16 and 17 are given
-- in the order of the rules.
use Rattle.std.specs.Prelude.{None}
use mathlib.Core.Path.{◌≡◌}
use mathlib.Core.Bool.{false}
use lib.ListN.{length, take}
use Rattle.rules.specs.Pipeline.Record.{refusal18, listed}
use Rattle.rules.specs.Pipeline.Running.{running}
use Rattle.rules.specs.Pipeline.Run.{bad_list}
use Rattle.pipeline.specs.Plans.{passes_from, deepest_from}
use Rattle.pipeline.proofs.RunSoFar.{Running}
use Rattle.pipeline.proofs.PlannedDepths.{Planning}
use Rattle.pipeline.proofs.FirstBad.{Checked}
use Rattle.pipeline.proofs.run.Given as goal

abbrev pub invariant-loop-i : goal.invariant-loop-i
invariant-loop-i l = Checked l.reading (take l.n l.steps) l.end l.i

abbrev pub invariant-loop-i-2 : goal.invariant-loop-i-2
invariant-loop-i-2 l =
    (refusal18 (listed (record { steps = l.steps; n = l.n })) ≡ None) × (bad_list l.tuples ≡ false) × Planning l.direction (take l.n l.steps) l.depth l.deepest l.i
    × (length l.no_tuples ≡ 0) × (length l.no_columns ≡ 0)

abbrev pub invariant-loop-i-3 : goal.invariant-loop-i-3
invariant-loop-i-3 l =
    (refusal18 (listed (record { steps = l.steps; n = l.n })) ≡ None) × (bad_list l.initial.tuples ≡ false)
    × (passes_from (running l.direction (listed (record { steps = l.steps; n = l.n }))) 0 ≡ None)
    × (l.deepest ≡ deepest_from (running l.direction (listed (record { steps = l.steps; n = l.n }))) 0)
    × Running l.direction (take l.n l.steps) l.deepest l.initial.tuples l.initial.columns l.tuples l.columns l.count l.left l.i
