-- `parted`: the text of a record that is not the first is ` | ` and its own text, and that of the first is its own alone; the code asks the
-- same.
use Rattle.write.proofs.TableText.{bar-room, after-bar, later-parted, first_step, first-parted}
use Rattle.write.proofs.parted.Goals as goal

pub put-e-requires : goal.put-e-requires
put-e-requires c = bar-room _ c.requires.room c.if-i-gt0.true

pub step-requires : goal.step-requires
step-requires c = record { s_value = c.requires.s_value; room = after-bar _ c.requires.room c.if-i-gt0.true c.put-e.ensures }

pub returns-then-i-gt0 : goal.returns-then-i-gt0
returns-then-i-gt0 c =
    later-parted _ c.requires.room c.if-i-gt0.true c.put-e.ensures c.step.ensures

pub step-requires-2 : goal.step-requires-2
step-requires-2 c = record { s_value = c.requires.s_value; room = first_step _ c.requires.room c.if-i-gt0.false }

pub returns : goal.returns
returns c =
    first-parted _ c.requires.room c.if-i-gt0.false c.step-2.ensures
