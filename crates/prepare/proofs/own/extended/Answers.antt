-- The axis stands in the first slot that is not in use.
use Rattle.laws_lists.specs.Signed.{as_is}
use Rattle.prepare.proofs.Recorded.{extended-is}
use Rattle.prepare.proofs.own.extended.Goals as goal

pub returns : goal.returns
returns c = rw (as_is c.args.axis c.ranges.axis) (extended-is c.requires.good c.args.axis c.requires.n_bound)
