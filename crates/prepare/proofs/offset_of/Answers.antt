-- Each way out is a case of `offset_if`.
use borrow.Author.Tests.{eq-eqb, ne_eqb}
use Rattle.prepare.specs.Lent.{offset_if}
use Rattle.prepare.proofs.offset_of.Goals as goal

pub returns-then-number-eq12 : goal.returns-then-number-eq12
unfolding offset_if
returns-then-number-eq12 c = rw (eq-eqb _ _ c.if-number-eq12.true)

pub returns : goal.returns
unfolding offset_if
returns c = rw (ne_eqb _ _ c.if-number-eq12.false)
