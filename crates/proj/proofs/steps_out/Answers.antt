-- `steps_out`: the first faulty step is refused; then all steps are counted, which says whether out has room, 7; then they are written, in
-- their order or, of an inverted pipeline, from the back.
use Rattle.proj.proofs.Laws.{steps-flaw, steps-no-room, steps-ready, steps-done}
use Rattle.proj.proofs.steps_out.Goals as goal

pub returns-in-Some : goal.returns-in-Some
returns-in-Some c = steps-flaw c.args.n.now c.flaw_of.ensures c.in-Some.is

pub returns-then-out-total : goal.returns-then-out-total
returns-then-out-total c = steps-no-room c.args.n.now c.flaw_of.ensures c.in_default.is c.args.pipe.global c.all_out-total.ensures c.if-out-total.true

pub all_out-requires-clause-ready : goal.all_out-requires-clause-ready
all_out-requires-clause-ready c =
    steps-ready c.args.n.now c.flaw_of.ensures c.in_default.is c.args.pipe.global c.all_out-total.ensures c.if-out-total.false c.writing.ensures

pub returns : goal.returns
returns c =
    steps-done c.args.n.now c.flaw_of.ensures c.in_default.is c.args.pipe.global c.all_out-total.ensures c.if-out-total.false c.writing.ensures c.all_out.ensures
