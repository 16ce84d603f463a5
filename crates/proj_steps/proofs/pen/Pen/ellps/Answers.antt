-- `ellps`: `ellps=` with the first value, a comma and the second value are one word, added piece by piece; the `inv` that is owed comes
-- right behind it.
use Rattle.rules.specs.Text.Ascii.{ascii}
use Rattle.proj_steps.proofs.Penned.{ellps-first, ellps-second, ellps-third, ellps-whole, ellps-own, own-then, own-done}
use Rattle.proj_steps.proofs.pen.Pen.ellps.Goals as goal

pub word-requires : goal.word-requires
unfolding ascii
word-requires c = ellps-first c.args.a.now c.args.rf.now c.requires

pub add-requires : goal.add-requires
unfolding ascii
add-requires c = ellps-second c.args.a.now c.args.rf.now c.requires c.word.ensures

pub add-requires-2 : goal.add-requires-2
unfolding ascii
add-requires-2 c = ellps-third c.args.a.now c.args.rf.now c.requires c.word.ensures c.add.ensures

pub settle-requires : goal.settle-requires
unfolding ascii
settle-requires c =
    own-then (ellps-own c.args.a.now c.args.rf.now) c.requires
    (ellps-whole c.args.a.now c.args.rf.now c.requires c.word.ensures c.add.ensures c.add-2.ensures)

pub returns : goal.returns
unfolding ascii
returns c =
    own-done (ellps-own c.args.a.now c.args.rf.now) c.requires
    (ellps-whole c.args.a.now c.args.rf.now c.requires c.word.ensures c.add.ensures c.add-2.ensures) c.settle.ensures
