use Rattle.std.proofs.Common.{rules, sym, ◌∙◌, pos, get_or, SFits, w32, to_z-of_z}
use Rattle.rules.specs.Operators.PushPop.{is_rising}
use Rattle.laws_lists.specs.Tests.{not_so, not_left}
use Rattle.pushpop.proofs.RisingPlaces.{rising-stray, rising-low, rising-next}
use Rattle.numbers.proofs.Rest.{rest_all, rest-next, rest-here, rest_end}
use Rattle.pushpop.proofs.arguments.is_rising.Goals as goal

pub loop-x-init : goal.loop-x-init
loop-x-init c = rest_all _ _

pub returns-then-not-is_of : goal.returns-then-not-is_of
returns-then-not-is_of c =
    let f : SFits w32 (get_or c.args.l.now c.loop-x.x-index (pos 0)) = search rules in
    rest-here (pos 0) c.loop-x.invariant c.loop-x-test.true (rising-stray _ _ _ (sym (simp (to_z-of_z f) at c.is_of.ensures) ∙ not_so c.if-not-is_of.true-raw))

pub returns-then-m-last : goal.returns-then-m-last
returns-then-m-last c =
    let f : SFits w32 (get_or c.args.l.now c.loop-x.x-index (pos 0)) = search rules in
    rest-here (pos 0) c.loop-x.invariant c.loop-x-test.true (rising-low _ _ _ _ (simp (to_z-of_z f) at c.size_of-m.ensures) c.if-m-last.true)

pub loop-x-preserved : goal.loop-x-preserved
loop-x-preserved c =
    let f : SFits w32 (get_or c.args.l.now c.loop-x.x-index (pos 0)) = search rules in
    rest-next (is_rising _) (pos 0) c.loop-x.invariant c.loop-x-test.true
    (rising-next _ _ _ _ (simp (to_z-of_z f) at c.size_of-m.ensures) (sym (simp (to_z-of_z f) at c.is_of.ensures) ∙ not_left c.if-not-is_of.false-raw) c.if-m-last.false)

pub returns : goal.returns
unfolding is_rising
returns c = rest_end c.loop-x.invariant c.loop-x-test.false
