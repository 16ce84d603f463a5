-- The key is none of those in front: so the first part that has it gives the value, and none does where the walk ends.
use Rattle.parameters.specs.Tables.{text}
use Rattle.prepare.proofs.KeyLookup.{Looking}
use Rattle.prepare.proofs.values.value_of.Given as goal

abbrev pub invariant-loop-p : goal.invariant-loop-p
invariant-loop-p l = Looking (text l.table) l.p-items l.key l.p-index
