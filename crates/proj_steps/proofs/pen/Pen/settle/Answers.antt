-- `settle`: an `inv` is added just where one is owed, and then none is.
use Rattle.rules.specs.Text.Ascii.{ascii}
use Rattle.proj_steps.proofs.Penned.{settle-room, settle-done, settle-none}
use Rattle.proj_steps.proofs.pen.Pen.settle.Goals as goal

pub word-requires : goal.word-requires
unfolding ascii
word-requires c = settle-room c.if-self.true c.requires

pub returns-then-self : goal.returns-then-self
unfolding ascii
returns-then-self c = settle-done c.if-self.true c.word.ensures

pub returns-else-self : goal.returns-else-self
returns-else-self c = settle-none c.if-self.false
