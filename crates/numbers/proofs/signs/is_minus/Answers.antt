-- `is_minus`: a number is below zero where its sign is minus (`below`).
use Rattle.std.proofs.Common.{◌≡◌, refl, ℤ, pos, negsuc, to_z-of_z}
use lib.Dec.{leb-suc-zero}
use lib.Signed.{lt_z}
use Rattle.rules.specs.Text.Decimal.{minus}
use Rattle.numbers.proofs.signs.is_minus.Goals as goal

below : (x : ℤ) → lt_z x (pos 0) ≡ minus x
unfolding minus
below (pos n) = leb-suc-zero n
below (negsuc n) = refl

pub returns : goal.returns
returns c = rw (to_z-of_z c.ranges.x) (below c.args.x)
