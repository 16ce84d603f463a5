-- `output`: the place is that of the axis of `to` among those of `from`; its sign is turned where just one of the two axes at i is.
use Rattle.std.proofs.Common.{rules, ◌∙◌, get_or, pos, SFits, w32, to_z-of_z}
use Rattle.laws_lists.specs.Signed.{given_is}
use Rattle.adapt.proofs.TwoWords.{output-small, output-so}
use Rattle.adapt.proofs.words.output.Goals as goal

pub signed-requires : goal.signed-requires
signed-requires c =
    output-small c.args.from c.args.to _ c.position_of-place.ensures

pub returns : goal.returns
returns c =
    let f : SFits w32 (get_or c.args.from.axes c.args.i (pos 0)) = search rules in
    let g : SFits w32 (get_or c.args.to.axes c.args.i (pos 0)) = search rules in
    let made = output-so c.args.from c.args.to c.args.i (simp (to_z-of_z g) at c.size_of.ensures) c.position_of-place.ensures in
    given_is c.signed.type_inv (c.signed.ensures ∙ made (simp (to_z-of_z f) at c.is_minus.ensures) (simp (to_z-of_z g) at c.is_minus-2.ensures))
