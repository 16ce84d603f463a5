-- `add_short`: at a `#` the part up to the comment is written, and else the next byte is.
use Rattle.normalise.proofs.Lined.{shorting-none, shorting-comment, shorting-room, shorting-byte, shorting-end}
use Rattle.normalise.proofs.comments.add_short.Goals as goal

pub loop-b-init : goal.loop-b-init
loop-b-init c = shorting-none c.args.line.now c.args.dst.now c.args.at c.requires

pub returns-then-b-eq35 : goal.returns-then-b-eq35
returns-then-b-eq35 c = shorting-comment c.loop-b.invariant c.loop-b-test.true c.if-b-eq35.true

pub bounds-dst-o : goal.bounds-dst-o
bounds-dst-o c = shorting-room c.loop-b.invariant c.loop-b-test.true c.if-b-eq35.false

pub loop-b-preserved : goal.loop-b-preserved
loop-b-preserved c = shorting-byte c.loop-b.invariant c.loop-b-test.true c.if-b-eq35.false

pub returns : goal.returns
returns c = shorting-end c.loop-b.invariant c.loop-b-test.false
