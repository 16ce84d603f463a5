-- `put_next`: the text of a number that is not the first is a comma and the number, and that of the first is the number alone; the code
-- asks the same.
use Rattle.std.proofs.Common.{to_z-of_z}
use Rattle.numbers.proofs.Listed.{comma-room, after-comma, later-written, first-spelled, first-written}
use Rattle.numbers.proofs.lists.put_next.Goals as goal

pub put_byte-e-requires : goal.put_byte-e-requires
put_byte-e-requires c = comma-room _ c.requires c.if-i-gt0.true

pub put_signed-requires : goal.put_signed-requires
put_signed-requires c = rw (to_z-of_z c.ranges.x) (after-comma _ c.requires c.if-i-gt0.true c.put_byte-e.ensures)

pub returns-then-i-gt0 : goal.returns-then-i-gt0
returns-then-i-gt0 c =
    later-written _ c.requires c.if-i-gt0.true c.put_byte-e.ensures (rw (to_z-of_z c.ranges.x) at c.put_signed.ensures)

pub put_signed-requires-2 : goal.put_signed-requires-2
put_signed-requires-2 c = rw (to_z-of_z c.ranges.x) (first-spelled _ c.requires c.if-i-gt0.false)

pub returns : goal.returns
returns c = first-written _ c.requires c.if-i-gt0.false (rw (to_z-of_z c.ranges.x) at c.put_signed-2.ensures)
