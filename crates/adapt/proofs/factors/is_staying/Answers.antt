-- `is_staying`: the second test counts only where the first holds, as in `staying`; and the literal is 1.
use lib.Ieee.{of_bits}
use borrow.Author.Tests.{eq-eqb, ne_eqb}
use Rattle.adapt.specs.Factors.{staying}
use Rattle.adapt.proofs.factors.is_staying.Goals as goal

pub returns-then-p-i : goal.returns-then-p-i
unfolding staying of_bits
returns-then-p-i c = simp (eq-eqb _ _ c.if-p-i.true)

pub returns-else-p-i : goal.returns-else-p-i
unfolding staying
returns-else-p-i c = simp (ne_eqb _ _ c.if-p-i.false)
