-- `swapped`: each arm knows which way it goes, and there `ordered_by` is what its call ensures.
use Rattle.axisswap.specs.Signs.{ordered_by}
use Rattle.axisswap.proofs.coords.swapped.Goals as goal

pub returns-then-back : goal.returns-then-back
unfolding ordered_by
returns-then-back c = rw c.if-back.true c.inverse.ensures

pub returns-else-back : goal.returns-else-back
unfolding ordered_by
returns-else-back c = rw c.if-back.false c.forward.ensures
