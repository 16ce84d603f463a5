use Rattle.parameters.specs.Parts.{no_part}
use Rattle.parameters.specs.Tables.{text}
use Rattle.parameters.proofs.Places.{held-within}
use Rattle.prepare.proofs.EarliestFault.{lowering-none, value-small, lowering-more, lowering-end}
use Rattle.prepare.proofs.faults.lowest_of.Goals as goal

pub loop-p-init : goal.loop-p-init
loop-p-init c = lowering-none (text c.args.table.now) c.held-p-items.result.now c.args.name c.without_series-low.ensures

pub key-requires : goal.key-requires
key-requires c = held-within c.args.table.now.good c.held-p-items.ensures _ _ c.loop-p-test.true

pub value-requires : goal.value-requires
value-requires c = held-within c.args.table.now.good c.held-p-items.ensures _ _ c.loop-p-test.true

pub value_at-requires : goal.value_at-requires
value_at-requires c = held-within c.args.table.now.good c.held-p-items.ensures _ _ c.loop-p-test.true

pub fault_of-fault-requires : goal.fault_of-fault-requires
fault_of-fault-requires c =
    value-small (held-within c.args.table.now.good c.held-p-items.ensures _ no_part c.loop-p-test.true) c.requires c.value_at.ensures c.value.ensures

pub loop-p-preserved : goal.loop-p-preserved
loop-p-preserved c =
    lowering-more (text c.args.table.now) c.held-p-items.result.now c.loop-p.invariant no_part c.loop-p-test.true c.value_at.ensures c.key.ensures c.value.ensures
    c.fault_of-fault.ensures c.both-low.ensures

pub returns : goal.returns
returns c = rw (← c.held-p-items.ensures) (lowering-end (text c.args.table.now) c.held-p-items.result.now c.loop-p.invariant no_part c.loop-p-test.false)
