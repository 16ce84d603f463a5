-- What `push` and `pop` do in each direction, by their numbers.
use mathlib.Core.Path.{◌≡◌, refl}
use Prim.Native.Nat.{ℕ, zero, suc, ◌≤◌}
use mathlib.Core.List.{List}
use native.Mathlib.Omega.{arith}
use lib.Dec.{eqb}
use lib.IntN.{ℤ}
use Rattle.rules.specs.Operators.Table.{operator_of, forward, inverse}
use Rattle.rules.specs.Pipeline.Running.{act_of}
use Rattle.rules.specs.declared.Direction.TheVariants.{Forward, Inverse}
use Rattle.pushpop.specs.Acts.{pushing}

none : (k : ℕ) → suc (suc k) ≤ 1 → ⊥
none k h = omega arith

pub forward-so : (k : ℕ) (l : List ℤ) → k ≤ 1 → pushing (eqb k 0) l ≡ act_of Forward (operator_of k) l
unfolding pushing act_of forward operator_of
forward-so zero l h = refl
forward-so (suc zero) l h = refl
forward-so (suc (suc k)) l h = absurd (none k h)

pub inverse-so : (k : ℕ) (l : List ℤ) → k ≤ 1 → pushing (eqb k 1) l ≡ act_of Inverse (operator_of k) l
unfolding pushing act_of inverse operator_of
inverse-so zero l h = refl
inverse-so (suc zero) l h = refl
inverse-so (suc (suc k)) l h = absurd (none k h)
