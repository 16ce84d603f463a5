-- A place, by the two tests of the code.
use Rattle.std.proofs.Common.{◌≡◌, refl, true, false, pos, negsuc, ℤ}
use lib.Signed.{le_z}
use Rattle.rules.specs.Text.Decimal.{minus}
use Rattle.rules.specs.Operators.Arguments.{is_place}

pub place-from : (x : ℤ) → le_z (pos 1) x ≡ true → le_z x (pos 4) ≡ is_place x
unfolding is_place minus
place-from (pos n) h = rw (h) refl
place-from (negsuc n) h = absurd (cc h)

pub place-below : (x : ℤ) → le_z (pos 1) x ≡ false → le_z (pos 1) x ≡ is_place x
unfolding is_place minus
place-below (pos n) h = rw h refl
place-below (negsuc n) h = refl
