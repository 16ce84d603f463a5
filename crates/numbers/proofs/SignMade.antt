-- The number of a sign and a size, as the code makes it: a size of nine digits at most fits an i32, and so does that number
-- turned.
use mathlib.Core.Path.{◌≡◌, ap, ◌∙◌}
use Prim.Native.Nat.{ℕ, zero, suc, ◌≤◌}
use mathlib.Core.Bool.{true, false}
use native.Mathlib.Omega.{arith}
use lib.IntN.{ℤ, pos, negsuc, ◌-ℤ◌, +ℤ_idl}
use mir.Syntax.{w32}
use mir.Val.{SFits, to_z, of_z}
use mir.Facts.{to_z-of_z, to_z_pos}
use Rattle.rules.specs.Text.Decimal.{signed}

less-is : (n : ℕ) → pos 0 -ℤ pos n ≡ signed true n
unfolding signed
less-is zero = +ℤ_idl (pos 0)
less-is (suc n) = +ℤ_idl (negsuc n)

less-fits : (n : ℕ) → n ≤ 999999999 → SFits w32 (signed true n)
unfolding signed
less-fits zero h = record { sfits = omega arith }
less-fits (suc n) h = record { sfits = omega arith }

module _ (n : ℕ) (h : n ≤ 999999999) where
  pub plain-is : to_z w32 n ≡ signed false n
  unfolding signed
  plain-is = to_z_pos w32 {n = n} (omega arith)

  turned-is : pos 0 -ℤ to_z w32 n ≡ signed true n
  unfolding signed
  turned-is = ap (λ (z : ℤ). pos 0 -ℤ z) plain-is ∙ less-is n

  pub turned-fits : SFits w32 (pos 0 -ℤ to_z w32 n)
  turned-fits = rw turned-is (less-fits n h)

  pub turned-back : to_z w32 (of_z w32 (pos 0 -ℤ to_z w32 n)) ≡ signed true n
  turned-back = to_z-of_z turned-fits ∙ turned-is
