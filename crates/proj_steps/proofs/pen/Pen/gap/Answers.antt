-- `gap`: a space is added just where words have begun.
use Rattle.proj_steps.proofs.Penned.{gap-room, gap-done, gap-none}
use Rattle.proj_steps.proofs.pen.Pen.gap.Goals as goal

pub add-requires : goal.add-requires
add-requires c = gap-room c.args.self.now c.if-self.true c.requires

pub returns-then-self : goal.returns-then-self
returns-then-self c = gap-done c.if-self.true c.add.ensures

pub returns-else-self : goal.returns-else-self
returns-else-self c = gap-none c.if-self.false
