-- `turned`: both arms are those of `turn`.
use lib.Ieee.{neg}
use Rattle.rules.specs.Operators.Numbers.{turn}
use borrow.Author.Rules.{rules}
use Rattle.columns.proofs.coordinate.turned.Goals as goal

pub returns-then-turns : goal.returns-then-turns
unfolding turn neg
returns-then-turns c = search rules

pub returns-else-turns : goal.returns-else-turns
unfolding turn neg
returns-else-turns c = search rules
