-- The whole part ends at the point or at the end; what stands behind the point are millionths.
use native.Mathlib.Omega.{arith}
use borrow.Author.Rules.{Fits-under}
use lib.Seq.{length-take-le}
use mathlib.Core.Path.{sym, ◌∙◌}
use Rattle.prepare.proofs.PointDecimal.{plain-not, plain-whole, plain-no-fraction, fraction-few, plain-both}
use Rattle.prepare.proofs.decimal.plain.Goals as goal

pub slice_bounds-digits-end : goal.slice_bounds-digits-end
slice_bounds-digits-end c = sym (length-take-le _ _ c.byte_end-p.ensures.within)

pub returns-in_default : goal.returns-in_default
returns-in_default c = plain-not _ _ c.byte_end-p.ensures (sym c.in_default.is ∙ c.digits.ensures)

pub returns-then-t-p : goal.returns-then-t-p
returns-then-t-p c =
    plain-whole _ _ c.byte_end-p.ensures _ (sym c.in-Some.is ∙ c.digits.ensures) c.if-t-p.true

pub returns-in_default-digits : goal.returns-in_default-digits
returns-in_default-digits c =
    plain-no-fraction _ _ c.byte_end-p.ensures _ (sym c.in-Some.is ∙ c.digits.ensures) c.if-t-p.false (sym c.in_default-digits.is ∙ c.digits-2.ensures)

pub overflow_cast-t : goal.overflow_cast-t
overflow_cast-t c =
    let front = sym c.in-Some.is ∙ c.digits.ensures in
    let behind = sym c.in-Some-digits.is ∙ c.digits-2.ensures in
    Fits-under _ _ 7 (omega (arith, (fraction-few c.args.minus c.args.t.now c.byte_end-p.ensures _ front c.if-t-p.false _ behind).few)) tt

pub millionths-requires : goal.millionths-requires
millionths-requires c =
    let front = sym c.in-Some.is ∙ c.digits.ensures in
    let behind = sym c.in-Some-digits.is ∙ c.digits-2.ensures in
    let f = fraction-few c.args.minus c.args.t.now c.byte_end-p.ensures _ front c.if-t-p.false _ behind in
    record { le_k = (f.some, f.few); v_bound = f.small }

pub returns : goal.returns
returns c =
    plain-both _ _ c.byte_end-p.ensures _ (sym c.in-Some.is ∙ c.digits.ensures) c.if-t-p.false _ (sym c.in-Some-digits.is ∙ c.digits-2.ensures) c.millionths.ensures
