-- `skip_ascii`: what is passed is in the domain, so what is left decides (`Decides`), and it is the measure.
use lib.ListN.{length}
use Rattle.text.proofs.InDomain.{Left}
use Rattle.text.proofs.domain.skip_ascii.Given as goal

abbrev pub invariant-loop-block : goal.invariant-loop-block
invariant-loop-block l = Left l.s l.rest

abbrev pub decreases-loop-block : goal.decreases-loop-block
decreases-loop-block l = length l.rest
