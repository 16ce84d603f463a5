-- `axis_of`: the argument has a size from 1 to 4 (`axis-size`), so one less is a place from 0 to 3.
use Rattle.std.proofs.Common.{arith, to_z-of_z}
use Rattle.numbers.proofs.AxisAt.{axis-size}
use Rattle.numbers.proofs.signs.axis_of.Goals as goal

pub overflow_sub-result : goal.overflow_sub-result
overflow_sub-result c = omega (arith, (axis-size c.args.x c.requires).low, rw (to_z-of_z c.ranges.x) at c.size_of.ensures)

pub returns : goal.returns
returns c =
    let s = axis-size c.args.x c.requires in
    let e = rw (to_z-of_z c.ranges.x) at c.size_of.ensures in
    record { below = omega (arith, s.low, s.high, e); named = omega (arith, s.low, e) }
