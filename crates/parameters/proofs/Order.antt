-- The order of texts: what `cmp` answers of two says whether they are the same, and which comes before.
use mathlib.Core.Path.{◌≡◌, refl}
use mathlib.Core.Bool.{true, false}
use mathlib.Core.List.{[], ◌∷◌}
use Prim.Native.Nat.{ℕ, ◌<◌}
use native.Mathlib.Omega.{arith}
use borrow.Author.Tests.{lt-ltb, le-ltb, eq-eqb, ne_eqb}
use Rattle.std.specs.Ordering.{nat_cmp, ordering_then, MatchOrdering}
use Rattle.std.specs.Cmp.{ranks}
use Rattle.std.specs.Cmp.Lexicographic.{slice_cmp}
use Rattle.std.specs.declared.cmp.Ordering.{Ordering}
use Rattle.std.specs.declared.cmp.Ordering.TheVariants.{Less, Equal, Greater}
use Rattle.rules.specs.Text.Bytes.{Bytes, same}
use Rattle.rules.specs.Text.Parameters.{precedes}

-- the first comes before, they are the same, or it comes behind
abbrev pub Ordered : Bytes → Bytes → Ordering → Type 0
Ordered a b Less = (same a b ≡ false) × (precedes a b ≡ true)
Ordered a b Equal = same a b ≡ true
Ordered a b Greater = (same a b ≡ false) × (precedes a b ≡ false)

-- where the first bytes are the same
alike : (x y : ℕ) (t u : Bytes) (o : Ordering) → x ≡ y → Ordered t u o → Ordered (x ∷ t) (y ∷ u) o
unfolding same precedes
alike x y t u Less e h = rw (eq-eqb x y e, le-ltb x y (omega (arith, e)), h.0, h.1) (refl, refl)
alike x y t u Equal e h = rw (eq-eqb x y e, h) refl
alike x y t u Greater e h = rw (eq-eqb x y e, le-ltb x y (omega (arith, e)), h.0, h.1) (refl, refl)

first : (x y : ℕ) (t u : Bytes) (o r : Ordering) → MatchOrdering o (x < y) (x ≡ y) (y < x) → Ordered t u r → Ordered (x ∷ t) (y ∷ u) (ordering_then o r)
unfolding same precedes
first x y t u Less r h k = rw (ne_eqb x y (λ e. omega (arith, e)), lt-ltb x y h) (refl, refl)
first x y t u Equal r h k = alike x y t u r h k
first x y t u Greater r h k = rw (ne_eqb x y (λ e. omega (arith, e)), le-ltb x y (omega arith)) (refl, refl)

pub ordered : (a b : Bytes) → Ordered a b (slice_cmp nat_cmp a b)
unfolding same precedes
ordered [] [] = refl
ordered [] (y ∷ u) = (refl, refl)
ordered (x ∷ t) [] = (refl, refl)
ordered (x ∷ t) (y ∷ u) = first x y t u (nat_cmp x y) (slice_cmp nat_cmp t u) (ranks x y) (ordered t u)

pub told : {a b x y : Bytes} (o : Ordering) → o ≡ slice_cmp nat_cmp x y → x ≡ a → y ≡ b → Ordered a b o
told {a} {b} {x} {y} o e f g = rw (e, f, g) (ordered a b)
