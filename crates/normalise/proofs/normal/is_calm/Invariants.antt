-- `is_calm`: every byte so far may follow the one before it, so the others decide (`Calms`).
use Rattle.normalise.proofs.Calm.{Calms}
use Rattle.normalise.proofs.normal.is_calm.Given as goal

abbrev pub invariant-loop-b : goal.invariant-loop-b
invariant-loop-b l = Calms l.text l.last l.b-index
