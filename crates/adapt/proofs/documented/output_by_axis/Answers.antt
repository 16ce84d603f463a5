-- `output_by_axis`: the place is that of the axis of `to` among those of `from`, where it stands since each word has each axis once; its sign is
-- turned where just one of the two words has it turned.
use Rattle.std.proofs.Common.{rules, get_or, pos, SFits, w32, to_z-of_z, ◌-◌}
use mathlib.Core.Path.{◌∙◌}
use native.Mathlib.Omega.{arith}
use Rattle.laws_lists.specs.Signed.{given_is}
use Rattle.adapt.proofs.TwoWords.{output-small}
use Rattle.adapt.proofs.ByAxis.{place-some, place-few, axis-so}
use Rattle.adapt.proofs.documented.output_by_axis.Goals as goal

pub overflow_sub-at : goal.overflow_sub-at
overflow_sub-at c =
    let g : SFits w32 (get_or c.args.to.axes c.args.i (pos 0)) = search rules in
    place-some c.args.from c.args.to c.args.i c.requires (simp (to_z-of_z g) at c.size_of.ensures) c.position_of-place.ensures

pub bounds-a-at : goal.bounds-a-at
bounds-a-at c = omega (arith, place-few c.args.from c.size_of.result c.position_of-place.ensures, c.args.from.four)

pub signed-requires : goal.signed-requires
signed-requires c =
    output-small c.args.from c.args.to _ c.position_of-place.ensures

pub returns : goal.returns
returns c =
    let f : SFits w32 (get_or c.args.from.axes (c.position_of-place.result - 1) (pos 0)) = search rules in
    let g : SFits w32 (get_or c.args.to.axes c.args.i (pos 0)) = search rules in
    let made = axis-so c.args.from c.args.to c.args.i (simp (to_z-of_z g) at c.size_of.ensures) c.position_of-place.ensures in
    given_is c.signed.type_inv (c.signed.ensures ∙ made (simp (to_z-of_z f) at c.is_minus.ensures) (simp (to_z-of_z g) at c.is_minus-2.ensures))

pub offset_bounds-a-at : goal.offset_bounds-a-at
offset_bounds-a-at c = record { fits = omega (arith, place-few c.args.from c.size_of.result c.position_of-place.ensures, c.args.from.four) }
