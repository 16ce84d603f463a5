-- `takes`: each arm knows which acts it has: the pops and a flip take a column for each place, a roll those under which the top one goes,
-- the others none.
use mathlib.Core.Path.{◌≡◌, refl, sym, ◌∙◌}
use lib.ListN.{length}
use borrow.Enum.Refused.{shut}
use Rattle.rules.specs.Pipeline.Columns.{takes}
use Rattle.columns.specs.Doings.{does, doing}
use Rattle.columns.proofs.DepthRules.{takes-places, takes_none, long}
use borrow.Author.Rules.{rules}
use Rattle.columns.proofs.depths.takes.Goals as goal
use Rattle.columns.proofs.depths.takes.Goals.{Start}

-- the arguments stand in eight slots
full : (c : Start) → length c.args.d.args ≡ 8
full c = search rules

pub returns-in-Pops : goal.returns-in-Pops
unfolding doing
returns-in-Pops c = sym (long c.args.d (full (goal.at.returns-in-Pops c).Start) c.requires) ∙ takes-places _ c.args.d.act (shut c.in-Pops.in-Pops-own.keys1)

pub returns-in-Rolls : goal.returns-in-Rolls
unfolding takes doing does
returns-in-Rolls c = rw c.in-Rolls.is refl

pub returns-in_default : goal.returns-in_default
unfolding doing
returns-in_default c = takes_none _ c.args.d.act (search rules)
