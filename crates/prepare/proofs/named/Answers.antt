use native.Mathlib.Omega.{arith}
use Rattle.prepare.proofs.InReading.{none_named, next-named}
use Rattle.prepare.proofs.named.Goals as goal

pub loop-i-init : goal.loop-i-init
loop-i-init c = none_named _ _

pub loop-i-preserved : goal.loop-i-preserved
loop-i-preserved c =
    rw (c.in_reading.ensures, c.loop-i.invariant) (next-named _ _ _ _ (omega (arith, c.loop-i-test.true, c.requires)))
