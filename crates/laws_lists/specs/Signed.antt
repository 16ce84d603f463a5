-- A signed number of 32 bits as a call is given it or gives it: by its bits, which are those of one number in its range.
use Rattle.std.specs.Prelude.{◌≡◌, ◌^◌, ◌<◌, ℤ}
use Rattle.std.proofs.Common.{◌∙◌, to_z-of_z}
use Rattle.std.specs.Int.Signed.{mag}
use Rattle.std.specs.Int.{w32}
use mir.Val.{SFits, hbits, to_z, of_z}

pub as_is : (x : ℤ) → SFits w32 x → to_z w32 (of_z w32 x) ≡ x
as_is x f = to_z-of_z f

-- what a call gave, by its range and what it ensures
pub given_is : {x y : ℤ} → mag x < 2 ^ hbits w32 → x ≡ y → to_z w32 (of_z w32 x) ≡ y
given_is {x} h e = as_is x (record { sfits = h }) ∙ e
