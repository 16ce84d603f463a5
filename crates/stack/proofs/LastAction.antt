-- The last arm of a match on an action's number: of the numbers 2 to 8 only 8 is left, where it is none of the six before.
use mathlib.Core.Path.{◌≡◌, refl}
use Prim.Native.Nat.{ℕ, zero, suc, ◌≤◌}
use native.Mathlib.Omega.{arith}

pub the_last : (k : ℕ) → (2 ≤ k) × (k ≤ 8) → (k ≡ 2 → ⊥) → (k ≡ 3 → ⊥) → (k ≡ 4 → ⊥) → (k ≡ 5 → ⊥) → (k ≡ 6 → ⊥) → (k ≡ 7 → ⊥) → k ≡ 8
the_last zero p n2 n3 n4 n5 n6 n7 = absurd (omega (arith, p.0))
the_last (suc zero) p n2 n3 n4 n5 n6 n7 = absurd (omega (arith, p.0))
the_last (suc (suc zero)) p n2 n3 n4 n5 n6 n7 = absurd (n2 refl)
the_last (suc (suc (suc zero))) p n2 n3 n4 n5 n6 n7 = absurd (n3 refl)
the_last (suc (suc (suc (suc zero)))) p n2 n3 n4 n5 n6 n7 = absurd (n4 refl)
the_last (suc (suc (suc (suc (suc zero))))) p n2 n3 n4 n5 n6 n7 = absurd (n5 refl)
the_last (suc (suc (suc (suc (suc (suc zero)))))) p n2 n3 n4 n5 n6 n7 = absurd (n6 refl)
the_last (suc (suc (suc (suc (suc (suc (suc zero))))))) p n2 n3 n4 n5 n6 n7 = absurd (n7 refl)
the_last (suc (suc (suc (suc (suc (suc (suc (suc zero)))))))) p n2 n3 n4 n5 n6 n7 = refl
the_last (suc (suc (suc (suc (suc (suc (suc (suc (suc k))))))))) p n2 n3 n4 n5 n6 n7 = absurd (omega (arith, p.1))
