-- The rule on an action's arguments, by its number: places for 2 to 4, a roll for 5 and 6, nothing for 7 and 8.
use mathlib.Core.Path.{◌≡◌, refl}
use Prim.Native.Nat.{ℕ, zero, suc, ◌≤◌, ◌<◌}
use native.Mathlib.Omega.{arith}
use mathlib.Core.List.{List}
use lib.Dec.{eqb}
use lib.IntN.{ℤ}
use lib.ListN.{length}
use Rattle.rules.specs.Operators.Stack.{is_places, is_roll, is_nothing}
use Rattle.rules.specs.Operators.Table.{is_args, operator_of}

pub args-places : (k : ℕ) (l : List ℤ) → 1 < k → k ≤ 4 → is_places l ≡ is_args (operator_of k) l
unfolding is_args operator_of
args-places zero l g h = absurd (omega (arith, g))
args-places (suc zero) l g h = absurd (omega (arith, g))
args-places (suc (suc zero)) l g h = refl
args-places (suc (suc (suc zero))) l g h = refl
args-places (suc (suc (suc (suc zero)))) l g h = refl
args-places (suc (suc (suc (suc (suc k))))) l g h = absurd (omega (arith, h))

pub args-roll : (k : ℕ) (l : List ℤ) → 4 < k → k ≤ 6 → is_roll l ≡ is_args (operator_of k) l
unfolding is_args operator_of
args-roll zero l g h = absurd (omega (arith, g))
args-roll (suc zero) l g h = absurd (omega (arith, g))
args-roll (suc (suc zero)) l g h = absurd (omega (arith, g))
args-roll (suc (suc (suc zero))) l g h = absurd (omega (arith, g))
args-roll (suc (suc (suc (suc zero)))) l g h = absurd (omega (arith, g))
args-roll (suc (suc (suc (suc (suc zero))))) l g h = refl
args-roll (suc (suc (suc (suc (suc (suc zero)))))) l g h = refl
args-roll (suc (suc (suc (suc (suc (suc (suc k))))))) l g h = absurd (omega (arith, h))

pub args_none : (k : ℕ) (l : List ℤ) → 6 < k → k ≤ 8 → eqb (length l) 0 ≡ is_args (operator_of k) l
unfolding is_args operator_of is_nothing
args_none zero l g h = absurd (omega (arith, g))
args_none (suc zero) l g h = absurd (omega (arith, g))
args_none (suc (suc zero)) l g h = absurd (omega (arith, g))
args_none (suc (suc (suc zero))) l g h = absurd (omega (arith, g))
args_none (suc (suc (suc (suc zero)))) l g h = absurd (omega (arith, g))
args_none (suc (suc (suc (suc (suc zero))))) l g h = absurd (omega (arith, g))
args_none (suc (suc (suc (suc (suc (suc zero)))))) l g h = absurd (omega (arith, g))
args_none (suc (suc (suc (suc (suc (suc (suc zero))))))) l g h = refl
args_none (suc (suc (suc (suc (suc (suc (suc (suc zero)))))))) l g h = refl
args_none (suc (suc (suc (suc (suc (suc (suc (suc (suc k))))))))) l g h = absurd (omega (arith, h))
