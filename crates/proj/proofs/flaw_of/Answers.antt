use Rattle.std.proofs.Common.{ap, ◌∙◌, ⊎_elim, arith}
use Rattle.proj.proofs.Flaws.{flawing-end, flawing-here, flawing-next}
use Rattle.proj.proofs.Laid.{took-as, ended-as}
use Rattle.proj.proofs.flaw_of.Goals as goal

pub returns-in-Some-step_flaw : goal.returns-in-Some-step_flaw
returns-in-Some-step_flaw c =
    let took = c.in-Some.ensures.steps in
    flawing-here (rw (← took.0.0) at c.loop-place.invariant.3) (took-as c.loop-place.invariant.2 took.1.0) c.step_flaw.ensures c.in-Some-step_flaw.is

pub loop-place-preserved : goal.loop-place-preserved
loop-place-preserved c =
    let took = c.in-Some.ensures.steps in (
      (tt, tt),
      tt,
      ap (λ t. t.now) took.1.1 ∙ c.loop-place.invariant.2,
      rw took.0.1 (flawing-next (rw (← took.0.0) at c.loop-place.invariant.3) (took-as c.loop-place.invariant.2 took.1.0) c.step_flaw.ensures c.in_default.is),
    )

-- the places do not end before the steps
pub returns : goal.returns
returns c =
    let i = c.loop-place.invariant.3 in
    ⊎_elim (λ x. absurd (omega (arith, x.1.0, i.few, i.within, i.small))) (λ x. flawing-end i (ended-as _ c.loop-place.invariant.2 x.1.0)) c.in-None.ensures.steps
