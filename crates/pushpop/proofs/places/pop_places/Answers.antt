use Rattle.std.proofs.Common.{rules, get_or, pos, SFits, w32, to_z-of_z}
use Rattle.numbers.specs.Axes.{is_axis, AxisAt}
use Rattle.numbers.proofs.Listed.{all-at}
use Rattle.pushpop.proofs.TracedPop.{pop-none, pop-turn, pop-end}
use Rattle.pushpop.proofs.places.pop_places.Goals as goal

pub loop-x-init : goal.loop-x-init
loop-x-init c = pop-none _ _ c.requires.whole

pub axis_of-requires : goal.axis_of-requires
axis_of-requires c =
    let f : SFits w32 (get_or c.args.l.now c.loop-x.x-index (pos 0)) = search rules in
    rw (to_z-of_z f) (all-at is_axis _ _ (pos 0) c.loop-x-test.true c.requires.l_value)

pub loop-x-preserved : goal.loop-x-preserved
loop-x-preserved c =
    let f : SFits w32 (get_or c.args.l.now c.loop-x.x-index (pos 0)) = search rules in
    let a : AxisAt c.args.l.now c.loop-x.x-index c.axis_of.result = record { below = c.axis_of.ensures.below; named = simp (to_z-of_z f) at c.axis_of.ensures.named } in
    pop-turn c.loop-x.invariant c.loop-x-test.true c.requires.l_bound c.requires.whole a

pub returns : goal.returns
returns c = pop-end c.requires.whole c.loop-x.invariant c.loop-x-test.false c.requires.l_bound
