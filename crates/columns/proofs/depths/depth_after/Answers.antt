-- `depth_after`: each arm knows which acts it has: a push adds its columns; a pop takes its own away, or all that there are; the pop that
-- is all or none takes none where they are too few; every other act leaves as many as it finds.
use Rattle.std.proofs.Common.{rules, ◌≡◌, ◌∙◌, length}
use Rattle.columns.specs.Doings.{doing}
use Rattle.columns.proofs.DepthRules.{after-pushes, after-pops, after-pops_all, after-pops_all-few, depth-stays}
use Rattle.columns.proofs.depths.depth_after.Goals as goal
use Rattle.columns.proofs.depths.depth_after.Goals.{Start}

-- the arguments stand in eight slots
full : (c : Start) → length c.args.d.args ≡ 8
full c = search rules

pub returns-in-Pushes : goal.returns-in-Pushes
returns-in-Pushes c = after-pushes c.args.d (full (goal.at.returns-in-Pushes c).Start) c.requires.n_bound c.args.depth c.in-Pushes.is

pub returns-in-Pops : goal.returns-in-Pops
returns-in-Pops c = c.saturating_sub.ensures ∙ after-pops c.args.d (full (goal.at.returns-in-Pops c).Start) c.requires.n_bound c.args.depth c.in-Pops.is

pub returns-then-depth-n : goal.returns-then-depth-n
returns-then-depth-n c =
    after-pops_all-few c.args.d (full (goal.at.returns-then-depth-n c).Start) c.requires.n_bound c.args.depth c.in-PopsAll.is c.if-depth-n.true

pub returns-else-depth-n : goal.returns-else-depth-n
returns-else-depth-n c =
    after-pops_all c.args.d (full (goal.at.returns-else-depth-n c).Start) c.requires.n_bound c.args.depth c.in-PopsAll.is c.if-depth-n.false

pub returns-in_default : goal.returns-in_default
unfolding doing
returns-in_default c = depth-stays _ c.args.depth c.args.d.act (search rules)
