-- `left_of`: left is what the lines of the first parts leave of the room (`Leaves`).
use Rattle.parameters.specs.Tables.{text}
use Rattle.parameters.proofs.Lines.{Leaves}
use Rattle.parameters.proofs.table.Parameters.left_of.Given as goal

abbrev pub invariant-loop-p : goal.invariant-loop-p
invariant-loop-p l = Leaves (text l.self) l.p-items l.room l.p-index l.left
