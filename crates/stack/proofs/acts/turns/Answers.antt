-- `turns`: n is below twice m, so it is one full turn and a rest, or less than a turn; and a full turn changes nothing.
use Rattle.stack.proofs.FullTurns.{turns-over, turns-none}
use Rattle.stack.proofs.acts.turns.Goals as goal

pub returns-then-m-n : goal.returns-then-m-n
returns-then-m-n c = turns-over c.requires c.if-m-n.true

pub returns-else-m-n : goal.returns-else-m-n
returns-else-m-n c = turns-none c.if-m-n.false
