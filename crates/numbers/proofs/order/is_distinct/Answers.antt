use Rattle.std.proofs.Common.{rules, ◌∙◌, sym, SFits, w32, get_or, pos, to_z-of_z}
use Rattle.rules.specs.Operators.Arguments.{is_distinct}
use Rattle.numbers.proofs.OrderTest.{distinct-so, distinct-not}
use Rattle.numbers.proofs.Rest.{rest-next, rest-here, rest_end, rest-behind}
use Rattle.numbers.proofs.order.is_distinct.Goals as goal

pub returns-then-is_among : goal.returns-then-is_among
returns-then-is_among c =
    let f : SFits w32 (get_or c.args.l.now c.loop-i.i (pos 0)) = search rules in
    rest-here (pos 0) c.loop-i.invariant c.loop-i-test.true
    (distinct-not _ _ _ _ (simp (to_z-of_z f) at c.size_of.ensures) (rest-behind c.args.l.now c.loop-i.i) (sym c.is_among.ensures ∙ c.if-is_among.true))

pub loop-i-preserved : goal.loop-i-preserved
loop-i-preserved c =
    let f : SFits w32 (get_or c.args.l.now c.loop-i.i (pos 0)) = search rules in
    rest-next is_distinct (pos 0) c.loop-i.invariant c.loop-i-test.true
    (distinct-so _ _ _ _ (simp (to_z-of_z f) at c.size_of.ensures) (rest-behind c.args.l.now c.loop-i.i) (sym c.is_among.ensures ∙ c.if-is_among.false))

pub returns : goal.returns
unfolding is_distinct
returns c = rest_end c.loop-i.invariant c.loop-i-test.false
