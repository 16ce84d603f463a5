use Rattle.text.proofs.Replaced.{replacing-order, replacing-part-room, replacing-fits, replacing-room, replacing-again, replacing-end}
use Rattle.text.proofs.copy.replace_from.Goals as goal

pub put-o-requires : goal.put-o-requires
put-o-requires c = replacing-part-room c.loop-k.invariant

pub put-o-requires-in-loop-k : goal.put-o-requires-in-loop-k
put-o-requires-in-loop-k c =
    replacing-room c.loop-k.invariant c.put-o.ensures c.loop-k-test.true c.requires.nonzero

pub find-k-requires-clause-from_in_bounds : goal.find-k-requires-clause-from_in_bounds
find-k-requires-clause-from_in_bounds c = replacing-fits c.loop-k.invariant c.put-o.ensures c.loop-k-test.true c.requires.nonzero

pub loop-k-preserved : goal.loop-k-preserved
loop-k-preserved c =
    replacing-again c.loop-k.invariant c.put-o.ensures c.loop-k-test.true c.requires.nonzero c.put-o-in-loop-k.ensures c.find-k.ensures

pub slice_bounds-put-end-2 : goal.slice_bounds-put-end-2
slice_bounds-put-end-2 c = (replacing-order c.loop-k.invariant).1

pub put-requires : goal.put-requires
put-requires c = replacing-part-room c.loop-k.invariant

pub returns : goal.returns
returns c =
    replacing-end c.loop-k.invariant c.loop-k-test.false c.put.ensures
