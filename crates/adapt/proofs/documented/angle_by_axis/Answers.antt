-- `angle_by_axis`: an axis over 2 carries no angle, and its code is 0; that of another is the code of the two angles.
use Rattle.std.proofs.Common.{rules, get_or, pos, SFits, w32, to_z-of_z}
use mathlib.Core.Path.{◌∙◌}
use Rattle.laws_lists.specs.Signed.{given_is}
use Rattle.adapt.proofs.ByAxis.{angle-none, angle-so}
use Rattle.adapt.proofs.documented.angle_by_axis.Goals as goal

pub returns-then-size_of-gt2 : goal.returns-then-size_of-gt2
returns-then-size_of-gt2 c =
    let g : SFits w32 (get_or c.args.to.axes c.args.i (pos 0)) = search rules in
    angle-none c.args.from c.args.to c.args.i (simp (to_z-of_z g) at c.size_of.ensures) c.if-size_of-gt2.true

pub returns : goal.returns
returns c =
    let g : SFits w32 (get_or c.args.to.axes c.args.i (pos 0)) = search rules in
    given_is c.code_of.type_inv (c.code_of.ensures ∙ angle-so c.args.from c.args.to c.args.i (simp (to_z-of_z g) at c.size_of.ensures) c.if-size_of-gt2.false)
