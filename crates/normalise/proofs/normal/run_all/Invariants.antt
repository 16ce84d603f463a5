-- `run_all`: what is left of the table, run on the text that a holds now, makes what the whole table makes of the first text (`Running`). A
-- turn runs the replacement at `at`, and none makes the text heavier; what is left of the table is the measure.
use Prim.Native.Nat.{◌-◌}
use lib.ListN.{length, take}
use Rattle.rules.specs.Text.Normal.{replacements, run}
use Rattle.normalise.proofs.Replacements.{Running}
use Rattle.normalise.proofs.normal.run_all.Given as goal

abbrev pub invariant-loop-at : goal.invariant-loop-at
invariant-loop-at l = Running l.rules (run replacements (take l.n l.initial.a)) l.initial.a l.initial.b l.at l.m l.a l.b

abbrev pub decreases-loop-at : goal.decreases-loop-at
decreases-loop-at l = length l.rules - l.at
