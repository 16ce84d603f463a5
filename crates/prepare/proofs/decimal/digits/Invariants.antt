-- The bytes so far are digits and spell n, which stays below ten to their count; so no sum is too large.
use Rattle.prepare.proofs.DigitsSpelt.{Spells}
use Rattle.prepare.proofs.decimal.digits.Given as goal

abbrev pub invariant-loop-b : goal.invariant-loop-b
invariant-loop-b l = Spells l.most l.t l.n l.b-index
