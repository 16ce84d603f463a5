use Rattle.std.proofs.Common.{rules, get_or, pos, SFits, w32, to_z-of_z}
use Rattle.numbers.specs.Axes.{is_axis, AxisAt}
use Rattle.numbers.proofs.Listed.{all-at}
use Rattle.axisswap.proofs.OrderedPlaces.{unswap-none, unswap-next, unswap-all}
use Rattle.axisswap.proofs.places.unordered.Goals as goal

pub loop-i-init : goal.loop-i-init
loop-i-init c = unswap-none _ _ c.requires.tuple_len

pub axis_of-k-requires : goal.axis_of-k-requires
axis_of-k-requires c =
    let f : SFits w32 (get_or c.args.l.now c.loop-i.i (pos 0)) = search rules in
    rw (to_z-of_z f) (all-at is_axis _ _ (pos 0) c.loop-i-test.true c.requires.l_value)

pub loop-i-preserved : goal.loop-i-preserved
loop-i-preserved c =
    let f : SFits w32 (get_or c.args.l.now c.loop-i.i (pos 0)) = search rules in
    let a : AxisAt c.args.l.now c.loop-i.i c.axis_of-k.result = record { below = c.axis_of-k.ensures.below; named = simp (to_z-of_z f) at c.axis_of-k.ensures.named } in
    unswap-next c.loop-i-test.true c.requires.l_len_bound a (simp (to_z-of_z f) at c.is_minus.ensures) c.loop-i.invariant c.turned.ensures

pub returns : goal.returns
returns c = unswap-all c.loop-i.invariant c.loop-i-test.false
