-- `flag`: a place is from 1 to 4, so its digit is one byte, and a flag is ` v_` and that byte.
use Rattle.std.proofs.Common.{arith, to_z-of_z}
use Rattle.pushpop.proofs.Words.{prefix-room, place-less, axis-room, flag-written}
use Rattle.pushpop.proofs.writing.flag.Goals as goal

pub put-e-requires : goal.put-e-requires
put-e-requires c = prefix-room _ c.requires.room

pub overflow_cast-size_of : goal.overflow_cast-size_of
overflow_cast-size_of c = omega (arith, place-less _ (rw (to_z-of_z c.ranges.x) at c.size_of.ensures) c.requires.x_value)

pub overflow_add-size_of : goal.overflow_add-size_of
overflow_add-size_of c = omega (arith, place-less _ (rw (to_z-of_z c.ranges.x) at c.size_of.ensures) c.requires.x_value)

pub put_byte-requires : goal.put_byte-requires
put_byte-requires c = axis-room _ c.requires.room c.put-e.ensures (rw (to_z-of_z c.ranges.x) at c.size_of.ensures)

pub returns : goal.returns
returns c = flag-written _ c.requires.room c.put-e.ensures (rw (to_z-of_z c.ranges.x) at c.size_of.ensures) c.put_byte.ensures
