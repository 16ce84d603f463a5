-- `exchanged_mark`: of the omit marks each becomes the other; any other text stays.
use Rattle.std.proofs.Common.{sym, ◌∙◌}
use Rattle.rules.specs.Text.Ascii.{ascii}
use Rattle.proj_steps.proofs.Penned.{mark-fwd, mark-inv, mark-other}
use Rattle.proj_steps.proofs.element.exchanged_mark.Goals as goal

pub returns-then-is_same : goal.returns-then-is_same
unfolding ascii
returns-then-is_same c = mark-fwd _ (sym c.is_same.ensures ∙ c.if-is_same.true)

pub returns-then-is_same-2 : goal.returns-then-is_same-2
unfolding ascii
returns-then-is_same-2 c = mark-inv _ (sym c.is_same.ensures ∙ c.if-is_same.false) (sym c.is_same-2.ensures ∙ c.if-is_same-2.true)

pub returns : goal.returns
unfolding ascii
returns c = mark-other _ (sym c.is_same.ensures ∙ c.if-is_same.false) (sym c.is_same-2.ensures ∙ c.if-is_same-2.false)
