-- `axis_from`: the size of an output is from 1 to 4, so one less is a place of `from`, and there stands an axis.
use Rattle.std.proofs.Common.{rules, refl, ◌∙◌, ◌≡◌, ◌-◌, get_or, pos, SFits, w32, to_z-of_z, arith}
use Rattle.rules.specs.Operators.Arguments.{size}
use Rattle.laws_lists.specs.Signed.{given_is}
use Rattle.numbers.specs.Axes.{is_axis}
use Rattle.numbers.proofs.Listed.{all-at}
use Rattle.adapt.proofs.SpeltByAxis.{axis-small, axis-from-so}
use Rattle.adapt.proofs.documented_text.axis_from.Goals as goal

pub signed-requires : goal.signed-requires
signed-requires c =
    let f : SFits w32 (get_or c.args.from.now c.axis_of.result (pos 0)) = search rules in
    let a = all-at is_axis c.args.from.now c.axis_of.result (pos 0) (omega (arith, c.axis_of.ensures.below, c.requires.from_len)) c.requires.from_value in
    axis-small (get_or c.args.from.now c.axis_of.result (pos 0)) (simp (to_z-of_z f) at c.size_of.ensures) a

pub returns : goal.returns
returns c =
    let f : SFits w32 (get_or c.args.from.now c.axis_of.result (pos 0)) = search rules in
    let d : size c.args.x - 1 ≡ c.axis_of.result = omega (arith, rw (to_z-of_z c.ranges.x) at c.axis_of.ensures.named) in
    given_is c.signed.type_inv
    (c.signed.ensures ∙ axis-from-so c.args.from.now c.args.x (rw (to_z-of_z c.ranges.x) at c.is_minus.ensures) refl (rw d (simp (to_z-of_z f) at c.size_of.ensures)))
