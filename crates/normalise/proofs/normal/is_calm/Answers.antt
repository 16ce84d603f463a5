use mathlib.Core.Path.{sym, ◌∙◌}
use Rattle.normalise.proofs.Calm.{calms-stop, calms-more, calms-end, plain-yes, plain-no}
use Rattle.normalise.proofs.normal.is_calm.Goals as goal

pub returns-then-not-may_follow : goal.returns-then-not-may_follow
returns-then-not-may_follow c =
    calms-stop c.loop-b.invariant c.loop-b-test.true c.sort_of-next.ensures (sym c.may_follow.ensures ∙ c.if-not-may_follow.true)

pub loop-b-preserved : goal.loop-b-preserved
loop-b-preserved c =
    calms-more c.loop-b.invariant c.loop-b-test.true c.sort_of-next.ensures (sym c.may_follow.ensures ∙ c.if-not-may_follow.false)

pub returns-in-Plain : goal.returns-in-Plain
returns-in-Plain c = plain-yes c.in-Plain.is ∙ calms-end c.loop-b.invariant c.loop-b-test.false

pub returns-in_default : goal.returns-in_default
returns-in_default c = plain-no _ c.in_default.not-Plain ∙ calms-end c.loop-b.invariant c.loop-b-test.false
