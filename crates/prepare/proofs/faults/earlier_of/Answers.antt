-- Each arm is a case of `earlier`.
use borrow.Author.Tests.{eq-eqb, ne_eqb}
use Rattle.prepare.specs.Faults.{earlier}
use Rattle.prepare.proofs.faults.earlier_of.Goals as goal

pub returns-in-true-true : goal.returns-in-true-true
unfolding earlier
returns-in-true-true c = rw (eq-eqb _ _ c.in-true-true.is-0, eq-eqb _ _ c.in-true-true.is-1) c.min.ensures

pub returns-in-true-false : goal.returns-in-true-false
unfolding earlier
returns-in-true-false c = rw (eq-eqb _ _ c.in-true-false.is-0, ne_eqb _ _ c.in-true-false.is-1)

pub returns-in-false-default : goal.returns-in-false-default
unfolding earlier
returns-in-false-default c = rw (ne_eqb _ _ c.in-false-default.is-0)
