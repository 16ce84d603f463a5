use mathlib.Core.Path.{sym, ◌∙◌}
use Rattle.laws_lists.specs.Signed.{given_is}
use Rattle.prepare.proofs.SeriesPieces.{reading-none, piece-not, reading-more, reading-many, reading-well, digits-fit, list-room, mark-part, mark-whole}
use Rattle.prepare.proofs.series.series.Goals as goal
use Rattle.prepare.proofs.series.series.Goals.{then-n-lt8, else-n-lt8, then-d-ne0, else-d-ne0}

pub loop-at-init : goal.loop-at-init
loop-at-init c = reading-none _

pub returns-in_default : goal.returns-in_default
returns-in_default c =
    piece-not c.loop-at.invariant c.loop-at-test.true c.byte_end-e.ensures (sym c.decimal-number.ensures ∙ c.in_default.is) _

pub signed-x-requires : goal.signed-x-requires
signed-x-requires c = digits-fit _ _ (sym c.decimal-number.ensures ∙ c.in-Some.is)

pub loop-at-preserved : goal.loop-at-preserved
loop-at-preserved c =
    reading-more c.loop-at.invariant c.loop-at-test.true c.byte_end-e.ensures (sym c.decimal-number.ensures ∙ c.in-Some.is)
    (given_is c.signed-x.type_inv c.signed-x.ensures)
    (elim c.if-n-lt8.branch [ then-n-lt8 w ↦ w.list-is | else-n-lt8 w ↦ w.list-is ∙ list-room _ _ _ c.loop-at.invariant.size w.if-n-lt8.false ])
    (elim c.if-d-ne0.branch [ then-d-ne0 w ↦ w.whole-is ∙ mark-part c.loop-at.whole c.in-Some.d w.if-d-ne0.true | else-d-ne0 w ↦ w.whole-is ∙ mark-whole c.loop-at.whole c.in-Some.d w.if-d-ne0.false ])

pub returns-then-n-gt8 : goal.returns-then-n-gt8
returns-then-n-gt8 c = reading-many c.loop-at.invariant c.loop-at-test.false c.if-n-gt8.true _

pub returns : goal.returns
returns c = reading-well c.loop-at.invariant c.loop-at-test.false c.if-n-gt8.false _
