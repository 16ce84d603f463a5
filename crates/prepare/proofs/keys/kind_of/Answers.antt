-- The keys of every operator come first.
use mathlib.Core.Path.{sym, ◌∙◌}
use Rattle.prepare.proofs.KeyKind.{with_others, every-then}
use Rattle.prepare.proofs.keys.kind_of.Goals as goal

pub returns-in-Some : goal.returns-in-Some
unfolding with_others
returns-in-Some c = every-then _ _ (sym c.in-Some.is ∙ c.every_kind.ensures)

pub returns-in-None : goal.returns-in-None
unfolding with_others
returns-in-None c = c.own_kind.ensures ∙ every-then _ _ (sym c.in-None.is ∙ c.every_kind.ensures)
