-- `lines_of`: the lines of the first parts are written, and those of the others are to come (`Lines`).
use Rattle.parameters.specs.Tables.{text}
use Rattle.parameters.proofs.Lines.{Lines}
use Rattle.parameters.proofs.table.Parameters.lines_of.Given as goal

abbrev pub invariant-loop-p : goal.invariant-loop-p
invariant-loop-p l = Lines (text l.self) l.p-items l.initial.dst l.p-index l.o l.dst
