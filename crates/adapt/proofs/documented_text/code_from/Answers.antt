-- `code_from`: a place among four is at most 4, so the code behind the four outputs is one of the eight arguments.
use Rattle.std.proofs.Common.{rules, ◌+◌, get_or, pos, SFits, w32, to_z-of_z}
use mathlib.Core.Path.{sym}
use native.Mathlib.Omega.{arith}
use lib.Seq.{length-take-le}
use Rattle.adapt.proofs.SpeltByAxis.{place-four, code-so}
use Rattle.adapt.proofs.documented_text.code_from.Goals as goal

pub slice_bounds-position_of-end : goal.slice_bounds-position_of-end
slice_bounds-position_of-end c = sym (length-take-le 4 c.args.l.now (omega (arith, c.requires)))

pub overflow_add-position_of : goal.overflow_add-position_of
overflow_add-position_of c =
    record { fits = omega (arith, place-four c.args.l.now c.args.p (omega (arith, c.requires)) c.position_of.ensures) }

pub bounds-l-position_of : goal.bounds-l-position_of
bounds-l-position_of c =
    omega (arith, c.requires, place-four c.args.l.now c.args.p (omega (arith, c.requires)) c.position_of.ensures)

pub returns : goal.returns
returns c =
    let f : SFits w32 (get_or c.args.l.now (3 + c.position_of.result) (pos 0)) = search rules in
    code-so c.args.l.now c.args.p c.position_of.ensures (simp (to_z-of_z f) at c.size_of.ensures)

pub offset_bounds-l-position_of : goal.offset_bounds-l-position_of
offset_bounds-l-position_of c = record { fits = omega (arith, place-four c.args.l.now c.args.p (omega (arith, c.requires)) c.position_of.ensures) }
