-- `in_domain`: what is passed is in the domain, so what is left decides (`Left`), and it is the measure.
use lib.ListN.{length}
use Rattle.text.proofs.InDomain.{Left}
use Rattle.text.proofs.domain.in_domain.Given as goal

abbrev pub invariant-loop-rest : goal.invariant-loop-rest
invariant-loop-rest l = Left l.s l.rest

abbrev pub decreases-loop-rest : goal.decreases-loop-rest
decreases-loop-rest l = length l.rest
