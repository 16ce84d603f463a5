-- `refusal18`: more than 64 records are refused at 0. Else the first i records are good in the reading of the first, so those from i on
-- decide (`Rest`), and the first that is not is the place.
use Prim.Native.Nat.{◌+◌}
use lib.ListN.{take}
use Rattle.rules.specs.Pipeline.Record.{first_bad}
use Rattle.numbers.proofs.Rest.{Rest}
use Rattle.record.proofs.tests.refusal18.Given as goal

abbrev pub invariant-loop-i : goal.invariant-loop-i
invariant-loop-i l = Rest (first_bad l.reading l.end (l.i + 1)) (take l.n l.table.steps) l.i (first_bad l.reading 0 1 (take l.n l.table.steps))
