-- `axes_to`: the four axes by their places.
use Rattle.std.proofs.Common.{rules, arith, get_or, pos, SFits, w32, to_z-of_z}
use Rattle.numbers.specs.Axes.{is_axis}
use Rattle.numbers.proofs.Listed.{all-at}
use Rattle.laws_lists.specs.Signed.{given_is}
use Rattle.adapt.proofs.SpeltByAxis.{four-so}
use Rattle.adapt.proofs.documented_text.axes_to.Goals as goal

pub axis_from-requires-clause-x_value : goal.axis_from-requires-clause-x_value
axis_from-requires-clause-x_value c =
    let f : SFits w32 (get_or c.args.l.now 0 (pos 0)) = search rules in
    rw (to_z-of_z f) (all-at is_axis c.args.l.now 0 (pos 0) (omega (arith, c.requires.l_len)) c.requires.l_value)

pub axis_from-requires-2-clause-x_value : goal.axis_from-requires-2-clause-x_value
axis_from-requires-2-clause-x_value c =
    let f : SFits w32 (get_or c.args.l.now 1 (pos 0)) = search rules in
    rw (to_z-of_z f) (all-at is_axis c.args.l.now 1 (pos 0) (omega (arith, c.requires.l_len)) c.requires.l_value)

pub axis_from-requires-3-clause-x_value : goal.axis_from-requires-3-clause-x_value
axis_from-requires-3-clause-x_value c =
    let f : SFits w32 (get_or c.args.l.now 2 (pos 0)) = search rules in
    rw (to_z-of_z f) (all-at is_axis c.args.l.now 2 (pos 0) (omega (arith, c.requires.l_len)) c.requires.l_value)

pub axis_from-requires-4-clause-x_value : goal.axis_from-requires-4-clause-x_value
axis_from-requires-4-clause-x_value c =
    let f : SFits w32 (get_or c.args.l.now 3 (pos 0)) = search rules in
    rw (to_z-of_z f) (all-at is_axis c.args.l.now 3 (pos 0) (omega (arith, c.requires.l_len)) c.requires.l_value)

pub returns : goal.returns
returns c =
    let f0 : SFits w32 (get_or c.args.l.now 0 (pos 0)) = search rules in
    let f1 : SFits w32 (get_or c.args.l.now 1 (pos 0)) = search rules in
    let f2 : SFits w32 (get_or c.args.l.now 2 (pos 0)) = search rules in
    let f3 : SFits w32 (get_or c.args.l.now 3 (pos 0)) = search rules in
    four-so c.args.from.now c.args.l.now c.requires.l_len
    (given_is c.axis_from.type_inv (simp (to_z-of_z f0) at c.axis_from.ensures)) (given_is c.axis_from-2.type_inv (simp (to_z-of_z f1) at c.axis_from-2.ensures))
    (given_is c.axis_from-3.type_inv (simp (to_z-of_z f2) at c.axis_from-3.ensures)) (given_is c.axis_from-4.type_inv (simp (to_z-of_z f3) at c.axis_from-4.ensures))
