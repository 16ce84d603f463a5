-- The value is the word, or it is not.
use mathlib.Core.Path.{sym, ◌∙◌}
use Rattle.rules.specs.Text.Ascii.{ascii}
use Rattle.prepare.specs.Faults.{flag_fault}
use Rattle.prepare.proofs.faults.fault_of_flag.Goals as goal

pub returns-then-is_same : goal.returns-then-is_same
unfolding flag_fault ascii
returns-then-is_same c = sym (rw (sym c.is_same.ensures ∙ c.if-is_same.true))

pub returns-else-is_same : goal.returns-else-is_same
unfolding flag_fault ascii
returns-else-is_same c = sym (rw (sym c.is_same.ensures ∙ c.if-is_same.false))
