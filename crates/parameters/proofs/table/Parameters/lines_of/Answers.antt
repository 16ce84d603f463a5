use Rattle.parameters.specs.Parts.{no_part}
use Rattle.parameters.specs.Tables.{text}
use Rattle.parameters.proofs.Places.{held-within}
use Rattle.parameters.proofs.Lines.{lines-room, lines_more, lines-done}
use Rattle.parameters.proofs.table.Parameters.lines_of.Goals as goal

pub key-requires : goal.key-requires
key-requires c = held-within c.args.self.now.good c.held-p-items.ensures _ _ c.loop-p-test.true

pub value-requires : goal.value-requires
value-requires c = held-within c.args.self.now.good c.held-p-items.ensures _ _ c.loop-p-test.true

pub line_at-o-requires : goal.line_at-o-requires
line_at-o-requires c =
    lines-room (text c.args.self.now) c.held-p-items.result.now c.loop-p.invariant no_part c.loop-p-test.true c.key.ensures c.value.ensures

pub loop-p-preserved : goal.loop-p-preserved
loop-p-preserved c =
    lines_more (text c.args.self.now) c.held-p-items.result.now c.loop-p.invariant no_part c.loop-p-test.true c.key.ensures c.value.ensures c.line_at-o.ensures

pub returns : goal.returns
returns c =
    rw (← c.held-p-items.ensures) (lines-done (text c.args.self.now) c.held-p-items.result.now c.loop-p.invariant c.loop-p-test.false)
