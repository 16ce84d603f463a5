-- The test of the arguments of `adapt`, by what the code has found out.
use mathlib.Core.Path.{◌≡◌, refl, ap}
use Prim.Native.Nat.{zero, suc}
use native.Mathlib.Omega.{arith}
use mathlib.Core.List.{List, [], ◌∷◌}
use mathlib.Core.Bool.{Bool, true, false, ◌&&◌}
use lib.Dec.{eqb}
use lib.IntN.{ℤ, pos, negsuc}
use lib.ListN.{length, take, drop}
use borrow.Author.Tests.{ne_eqb, eqb-true}
use Rattle.rules.specs.Text.Lists.{all_of}
use Rattle.rules.specs.Text.Decimal.{minus}
use Rattle.rules.specs.Operators.Arguments.{size, arg, is_order}
use Rattle.rules.specs.Operators.Adapt.{is_code, is_adapt}
use Rattle.adapt.specs.Arguments.{are_factors}

-- ---- all eight

-- zero is a code
zero-code : (x : ℤ) → eqb (size x) 0 ≡ true → is_code x ≡ true
unfolding is_code minus
zero-code (pos zero) e = refl
zero-code (pos (suc n)) e = absurd (omega (arith, eqb-true (suc n) 0 e))
zero-code (negsuc n) e = absurd (omega (arith, eqb-true (suc n) 0 e))

and-false : (a : Bool) → (a && false) ≡ false
and-false true = refl
and-false false = refl

-- so the two last are tested once
codes : (a b c d p q r : Bool) → (q ≡ true → c ≡ true) → (r ≡ true → d ≡ true)
    → ((a && (b && (c && (d && true)))) && (p && (q && r))) ≡ (a && (b && (p && (q && (r && true)))))
codes false b c d p q r f g = refl
codes true false c d p q r f g = refl
codes true true c d false q r f g = and-false (c && (d && true))
codes true true c d true false r f g = and-false (c && (d && true))
codes true true c d true true false f g = and-false (c && (d && true))
codes true true c d true true true f g = rw (f refl, g refl) refl

pub adapt-tests : (l : List ℤ) → length l ≡ 8 → is_adapt l ≡ (is_order (take 4 l) && are_factors (drop 4 l))
unfolding is_adapt are_factors all_of arg
adapt-tests (a ∷ b ∷ c ∷ d ∷ e ∷ f ∷ g ∷ h ∷ []) n =
    ap (λ (x : Bool). is_order (a ∷ b ∷ c ∷ d ∷ []) && x)
    (codes (is_code e) (is_code f) (is_code g) (is_code h) (eqb (size f) (size e)) (eqb (size g) 0) (eqb (size h) 0) (zero-code g) (zero-code h))
adapt-tests [] n = absurd (omega (arith, n))
adapt-tests (a ∷ []) n = absurd (omega (arith, n))
adapt-tests (a ∷ b ∷ []) n = absurd (omega (arith, n))
adapt-tests (a ∷ b ∷ c ∷ []) n = absurd (omega (arith, n))
adapt-tests (a ∷ b ∷ c ∷ d ∷ []) n = absurd (omega (arith, n))
adapt-tests (a ∷ b ∷ c ∷ d ∷ e ∷ []) n = absurd (omega (arith, n))
adapt-tests (a ∷ b ∷ c ∷ d ∷ e ∷ f ∷ []) n = absurd (omega (arith, n))
adapt-tests (a ∷ b ∷ c ∷ d ∷ e ∷ f ∷ g ∷ []) n = absurd (omega (arith, n))
adapt-tests (a ∷ b ∷ c ∷ d ∷ e ∷ f ∷ g ∷ h ∷ i ∷ l) n = absurd (omega (arith, n))

pub adapt-short : (l : List ℤ) → (length l ≡ 8 → ⊥) → is_adapt l ≡ false
unfolding is_adapt
adapt-short l n = rw (ne_eqb (length l) 8 n) refl
