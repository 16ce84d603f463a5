-- `counts_none`: each arm knows which acts it has: an exchange of the two top columns counts none where there is no column, a drop never
-- counts any, and each other act counts none where it finds too few.
use borrow.Author.Rules.{rules}
use mathlib.Core.Path.{refl, ap, ◌∙◌}
use Prim.Native.Nat.{ℕ}
use lib.Dec.{ltb}
use Rattle.rules.specs.Pipeline.Tuples.{counts_none}
use Rattle.columns.specs.Doings.{does, doing}
use Rattle.columns.proofs.DepthRules.{counts-few}
use Rattle.columns.proofs.depths.counts_none.Goals as goal

pub returns-in-Swaps : goal.returns-in-Swaps
unfolding counts_none doing does
returns-in-Swaps c = rw c.in-Swaps.is refl

pub returns-in-Drops : goal.returns-in-Drops
unfolding counts_none doing does
returns-in-Drops c = rw c.in-Drops.is refl

pub returns-in_default : goal.returns-in_default
unfolding doing
returns-in_default c =
    ap (λ (n : ℕ). ltb c.args.depth n) c.takes.ensures ∙ counts-few _ c.args.depth c.args.d.act (search rules)
