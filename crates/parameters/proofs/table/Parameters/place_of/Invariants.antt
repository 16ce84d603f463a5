-- `place_of`: p goes behind each of the first i parts.
use Rattle.parameters.specs.Tables.{text}
use Rattle.parameters.proofs.Places.{Seeks}
use Rattle.parameters.proofs.table.Parameters.place_of.Given as goal

abbrev pub invariant-loop-i : goal.invariant-loop-i
invariant-loop-i l = Seeks (text l.self) l.q-items l.p l.i
