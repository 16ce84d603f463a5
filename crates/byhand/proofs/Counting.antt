-- A loop that counts up to m, as a walk meets it.
--     Upto m           the loop's state: a number up to m.        Nearer, nearer-wf     a turn goes to a number that is nearer to m, and that ends
--     either           a test is true or false
-- Assumes nothing.
use mathlib.Core.Path.{◌≡◌, refl}
use mathlib.Core.Bool.{Bool, true, false}
use mathlib.Core.Logic.{◌⊎◌, inl, inr}
use Prim.Native.Nat.{ℕ, ◌-◌, ◌≤◌, ◌<◌}
use mathlib.Core.WellFounded.InvImage
use mathlib.Core.WellFounded.{WellFounded}
use lib.WfN.{lt-wf_rel}

abbrev pub Upto : ℕ → Type 0
Upto m = (i : ℕ) × (i ≤ m)

abbrev pub Nearer : (m : ℕ) → Upto m → Upto m → Type 0
Nearer m j i = m - j.0 < m - i.0

pub nearer-wf : (m : ℕ) → WellFounded (Nearer m)
nearer-wf m = InvImage.wf (λ (i : Upto m). m - i.0) lt-wf_rel.wf

pub either : (t : Bool) → (t ≡ true) ⊎ (t ≡ false)
either true = inl refl
either false = inr refl
