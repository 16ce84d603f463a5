-- What is so of the first parameters.
use Rattle.parameters.specs.Tables.{text}
use Rattle.prepare.proofs.EarliestFault.{Lowering}
use Rattle.prepare.proofs.faults.lowest_of.Given as goal

abbrev pub invariant-loop-p : goal.invariant-loop-p
invariant-loop-p l = Lowering (text l.table) l.p-items l.name l.p-index l.low
