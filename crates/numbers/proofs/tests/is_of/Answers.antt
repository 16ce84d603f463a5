-- `is_of`: what comes back from a call is the number that it is (`to_z-of_z`), and each kind is a test of it.
use Rattle.std.proofs.Common.{ap, leb}
use mir.Facts.{to_z-of_z}
use Rattle.rules.specs.Pipeline.Record.{nine_digits}
use Rattle.numbers.proofs.OfKind.{place-from, place-below}
use Rattle.numbers.proofs.tests.is_of.Goals as goal

pub returns-then-x-ge1 : goal.returns-then-x-ge1
returns-then-x-ge1 c = rw (c.in-Place.is, to_z-of_z c.ranges.x) (place-from c.args.x (rw (to_z-of_z c.ranges.x) at c.if-x-ge1.true))

pub returns-else-x-ge1 : goal.returns-else-x-ge1
returns-else-x-ge1 c = rw (c.in-Place.is, to_z-of_z c.ranges.x) (place-below c.args.x (rw (to_z-of_z c.ranges.x) at c.if-x-ge1.false))

pub returns-in-NineDigits : goal.returns-in-NineDigits
unfolding nine_digits
returns-in-NineDigits c = rw c.in-NineDigits.is (ap (λ m. leb m 999999999) (rw (to_z-of_z c.ranges.x) at c.size_of.ensures))
