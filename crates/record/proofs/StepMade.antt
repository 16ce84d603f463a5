-- A record of eight slots, of which the first n are used, is the one that these arguments make.
use mathlib.Core.Path.{◌≡◌, refl}
use Prim.Native.Nat.{ℕ, ◌-◌, ◌≤◌}
use mathlib.Core.Bool.{Bool, true, false}
use mathlib.Core.List.{List}
use native.Mathlib.Omega.{arith}
use mir.Val.{bool_byte}
use lib.IntN.{ℤ, pos}
use lib.ListN.{length, take, drop, replicate, take-append-drop}
use lib.Seq.{length-take-le}
use Rattle.rules.specs.Pipeline.Record.{reading_number, no_span, step_with}
use Rattle.rules.specs.declared.Reading.TheVariants.{Crate}
use Rattle.rules.specs.declared.Step.{Step}
use Rattle.record.specs.Records.{mark_of}

-- a `bool` as a number is its mark
pub marked : (b : Bool) {x : ℕ} → x ≡ bool_byte b → x ≡ mark_of b
unfolding mark_of
marked true e = e
marked false e = e

pub step_so : (operator : ℕ) (l : List ℤ) (n inv forward inverse : ℕ) {x y z : ℕ} → length l ≡ 8 → n ≤ 8 → drop n l ≡ replicate (8 - n) (pos 0) → x ≡ inv → y ≡ forward → z ≡ inverse
    → ◌≡◌ {A = Step} (record { operator = operator; n = n; inv = x; omit_fwd = y; omit_inv = z; reading = reading_number Crate; args = l; span = no_span })
    (step_with operator (take n l) inv forward inverse)
unfolding step_with
step_so operator l n inv forward inverse full few zeros e f g =
    let many : length (take n l) ≡ n = length-take-le n l (omega (arith, few, full)) in
    rw (e, f, g, many, ← zeros, take-append-drop n l) refl
