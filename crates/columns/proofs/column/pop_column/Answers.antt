use Rattle.std.proofs.Common.{arith}
use Rattle.columns.proofs.EachTuple.{each_none, each_turn}
use Rattle.columns.proofs.OneNumber.{stored-end}
use Rattle.columns.proofs.column.pop_column.Goals as goal

pub loop-k-init : goal.loop-k-init
loop-k-init c = each_none _ _

pub loop-k-preserved : goal.loop-k-preserved
loop-k-preserved c = each_turn c.loop-k.invariant (omega arith) c.get_coord-c.ensures c.with_number.ensures c.set_coord.auto.xs c.set_coord.ensures

pub returns : goal.returns
returns c = stored-end c.args.i c.args.from.now c.loop-k.invariant c.requires c.loop-k-test.false
