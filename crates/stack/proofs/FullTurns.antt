-- A roll of a full turn changes nothing.
use mathlib.Core.Path.{◌≡◌, refl, sym, ap, ◌∙◌, subst}
use Prim.Native.Nat.{ℕ, ◌*◌, ◌≤◌, ◌<◌, ◌-◌}
use mathlib.Core.List.{List}
use mathlib.Core.Bool.{Bool, true, false, cond}
use lib.Dec.{leb, T, leb→le}
use borrow.Author.Tests.{le-leb, lt-leb}
use native.Mathlib.Omega.{arith}
use lib.ListN.{length}
use Rattle.rules.specs.Pipeline.Columns.{rolled}
use Rattle.laws_steps.specs.Rolls.{rolled-again}
use Rattle.stack.specs.Actions.{Turns}

pub turns-over : {m n : ℕ} → n < 2 * m → m ≤ n → Turns m n (n - m)
turns-over {m} {n} b h = record { below = omega (arith, b, h); alike = rw (le-leb m n h) refl }

pub turns-none : {m n : ℕ} → n < m → Turns m n n
turns-none {m} {n} h = record { below = h; alike = rw (lt-leb m n h) refl }

-- a whole turn more comes to the same
pub turned-alike : {A : Type 0} (m n k : ℕ) (l : List A) → m ≤ length l → Turns m n k → rolled m n l ≡ rolled m k l
turned-alike m n k l b t = go (leb m n) refl ∙ ap (λ (j : ℕ). rolled m j l) (sym t.alike)
  where
    go : (over : Bool) → leb m n ≡ over → rolled m n l ≡ rolled m (cond over (n - m) n) l
    go true e = rolled-again m n l (leb→le m n (subst T (sym e) tt)) b
    go false e = refl
