-- A minus in front, or none; behind it the plain form.
use mathlib.Core.Path.{◌∙◌}
use native.Mathlib.Omega.{arith}
use Rattle.prepare.proofs.PointDecimal.{decimal-none, decimal-minus, decimal-plain}
use Rattle.prepare.proofs.decimal.decimal.Goals as goal

pub returns-in-empty : goal.returns-in-empty
returns-in-empty c = decimal-none _ c.in-empty.len_below

pub returns-in-45 : goal.returns-in-45
returns-in-45 c = c.plain.ensures ∙ decimal-minus _ c.in-45.len_at_least (omega arith)

pub returns-in_default : goal.returns-in_default
returns-in_default c = c.plain-in_default.ensures ∙ decimal-plain _ c.in_default.len_at_least (λ e. omega arith)
