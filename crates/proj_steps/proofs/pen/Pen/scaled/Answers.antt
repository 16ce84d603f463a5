-- `scaled`: `k_0=` and the value are one word; the `inv` that is owed comes right behind it.
use Rattle.rules.specs.Text.Ascii.{ascii}
use Rattle.proj_steps.proofs.Penned.{scale-own, own_room, own-then, own-done}
use Rattle.proj_steps.proofs.pen.Pen.scaled.Goals as goal

pub word-requires : goal.word-requires
unfolding ascii
word-requires c = own_room (scale-own c.args.value.now) c.requires

pub settle-requires : goal.settle-requires
unfolding ascii
settle-requires c = own-then (scale-own c.args.value.now) c.requires c.word.ensures

pub returns : goal.returns
unfolding ascii
returns c = own-done (scale-own c.args.value.now) c.requires c.word.ensures c.settle.ensures
