-- The first series is the one in front, if there is one there.
use Rattle.prepare.specs.Faults.{joined}
use Rattle.prepare.proofs.faults.both.Goals as goal

pub returns : goal.returns
unfolding joined
returns c = rw (c.or.ensures, c.earlier_of-at.ensures, c.min-number.ensures)
