-- `length_of`: n is the length of the lines of the first parts (`Total`), and small enough that no sum wraps.
use Rattle.parameters.specs.Tables.{text}
use Rattle.parameters.proofs.Lines.{Total}
use Rattle.parameters.proofs.table.Parameters.length_of.Given as goal

abbrev pub invariant-loop-p : goal.invariant-loop-p
invariant-loop-p l = Total (text l.self) l.p-items l.p-index l.n
