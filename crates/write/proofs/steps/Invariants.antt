-- `steps`: the texts of the first i records are written, each but the first after ` | `, and those from i on are to come (`Going`); and
-- each record is one that a preparation makes (`Sound`).
use Rattle.numbers.proofs.EachInTurn.{Going}
use Rattle.write.specs.Parts.{parted}
use Rattle.rules.specs.Pipeline.Write.{table_writing}
use Rattle.record.proofs.SoundTable.{Sound}
use Rattle.rules.specs.Pipeline.Record.{listed}
use lib.ListN.{take}
use Rattle.write.proofs.steps.Given as goal

abbrev pub invariant-loop-i : goal.invariant-loop-i
invariant-loop-i l = Sound l.table × Going parted (table_writing (listed l.table)) (take l.table.n l.table.steps) l.initial.out l.o l.i l.e l.out
