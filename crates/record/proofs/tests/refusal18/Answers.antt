use native.Mathlib.Omega.{arith}
use mathlib.Core.Path.{◌≡◌, sym, ap, ◌∙◌}
use lib.ListN.{length, length-take}
use lib.Seq.{get_or-take}
use Rattle.rules.specs.Pipeline.Record.{span_end, good_in, first_bad}
use Rattle.rules.specs.declared.Step.{Step}
use Rattle.laws_lists.specs.Tests.{not_so, not_left}
use Rattle.record.proofs.Refused18.{bad-long, bad-few, bad-next, bad-here, bad-none}
use Rattle.numbers.proofs.Rest.{rest_all, rest-next, rest-here, rest_end}
use borrow.Author.Rules.{rules}
use Rattle.record.proofs.tests.refusal18.Goals as goal
use Rattle.record.proofs.tests.refusal18.Goals.{Start}

-- the table has 64 rows
full : (c : Start) → length c.args.table.steps ≡ 64
full c = search rules

pub returns-then-n-gt64 : goal.returns-then-n-gt64
returns-then-n-gt64 c = bad-long _ (full (goal.at.returns-then-n-gt64 c).Start) c.if-n-gt64.true

pub loop-i-init : goal.loop-i-init
loop-i-init c = rest_all _ _

pub returns-then-not-good_in : goal.returns-then-not-good_in
returns-then-not-good_in c =
    rest-here _ c.loop-i.invariant (rw length-take (omega (arith, c.loop-i-test.true, c.if-n-gt64.false, full (goal.at.returns-then-not-good_in c).Start)))
    (bad-here _ _ _ _ _ (ap (good_in _ _) (get_or-take _ _ _ _ c.loop-i-test.true) ∙ sym c.good_in.ensures ∙ not_so c.if-not-good_in.true-raw))
    ∙ sym (bad-few _ _ (full (goal.at.returns-then-not-good_in c).Start) c.if-n-gt64.false)

pub loop-i-preserved : goal.loop-i-preserved
loop-i-preserved c =
    rest-next (first_bad _ _ _) _ c.loop-i.invariant
    (rw length-take (omega (arith, c.loop-i-test.true, c.if-n-gt64.false, full (goal.at.loop-i-preserved c).Start)))
    (bad-next _ _ _ _ _ (ap (good_in _ _) (get_or-take _ _ _ _ c.loop-i-test.true) ∙ sym c.good_in.ensures ∙ not_left c.if-not-good_in.false-raw)
    (c.end_of-end.ensures ∙ ap (λ (t : Step). span_end t.span) (sym (get_or-take _ _ _ _ c.loop-i-test.true))))

pub returns : goal.returns
returns c =
    sym (bad-none _ _ _)
    ∙ rest_end c.loop-i.invariant
    (rw length-take (omega (arith, c.loop-i-test.false, c.if-n-gt64.false, full (goal.at.returns c).Start)))
    ∙ sym (bad-few _ _ (full (goal.at.returns c).Start) c.if-n-gt64.false)
