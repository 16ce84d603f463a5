-- A coordinate of a list as code reads it and stores it, four numbers from a place on.
use mathlib.Core.Path.{◌≡◌, refl, ap}
use mathlib.Core.List.{List, [], ◌∷◌}
use Prim.Native.Nat.{ℕ, zero, suc, ◌+◌, ◌*◌, ◌<◌, ◌≤◌}
use native.Mathlib.Nat.{le_of_suc-le-suc, not-suc-le-zero}
use native.Mathlib.Numerals.{unary_clauses}
use native.Mathlib.Omega.{arith}
use lib.ListN.{length, get_or, set}
use lib.Ieee.{Float, nan}
use Rattle.rules.specs.Pipeline.Tuples.{tuples}
use Rattle.rules.specs.declared.Coord.{Coord}
use Rattle.laws_steps.specs.Lengths.{tuples-length}
use Rattle.columns.specs.Coords.{no_tuple}

-- the tuple that starts at place k of a list, and the list with a tuple stored there
abbrev pub load : List Float → ℕ → Coord
load l k = record { a = get_or l k nan; b = get_or l (k + 1) nan; c = get_or l (k + 2) nan; d = get_or l (k + 3) nan }

abbrev pub store : List Float → ℕ → Coord → List Float
store l k v = set (set (set (set l k v.a) (k + 1) v.b) (k + 2) v.c) (k + 3) v.d

quad : ℕ → ℕ
quad zero = zero
quad (suc i) = suc (suc (suc (suc (quad i))))

quad_is : (i : ℕ) → quad i ≡ i * 4
unfolding quad
quad_is zero = refl
quad_is (suc i) = let h = quad_is i in omega arith

-- the two laws with the places written as constructors, by which `get_or` and `set` compute
load-quad : (l : List Float) (i : ℕ) → i < length (tuples l)
    → ◌≡◌ {A = Coord} (record { a = get_or l (quad i) nan; b = get_or l (suc (quad i)) nan; c = get_or l (suc (suc (quad i))) nan; d = get_or l (suc (suc (suc (quad i)))) nan }) (get_or (tuples l) i no_tuple)
unfolding tuples quad
load-quad [] i h = absurd (not-suc-le-zero h)
load-quad (a ∷ []) i h = absurd (not-suc-le-zero h)
load-quad (a ∷ b ∷ []) i h = absurd (not-suc-le-zero h)
load-quad (a ∷ b ∷ c ∷ []) i h = absurd (not-suc-le-zero h)
load-quad (a ∷ b ∷ c ∷ d ∷ l) zero h = refl
load-quad (a ∷ b ∷ c ∷ d ∷ l) (suc i) h = load-quad l i (le_of_suc-le-suc h)

store-quad : (l : List Float) (i : ℕ) (v : Coord) → i < length (tuples l)
    → tuples (set (set (set (set l (quad i) v.a) (suc (quad i)) v.b) (suc (suc (quad i))) v.c) (suc (suc (suc (quad i)))) v.d) ≡ set (tuples l) i v
unfolding tuples quad
store-quad [] i v h = absurd (not-suc-le-zero h)
store-quad (a ∷ []) i v h = absurd (not-suc-le-zero h)
store-quad (a ∷ b ∷ []) i v h = absurd (not-suc-le-zero h)
store-quad (a ∷ b ∷ c ∷ []) i v h = absurd (not-suc-le-zero h)
store-quad (a ∷ b ∷ c ∷ d ∷ l) zero v h = refl
store-quad (a ∷ b ∷ c ∷ d ∷ l) (suc i) v h = ap (λ (m : List Coord). record { a = a; b = b; c = c; d = d } ∷ m) (store-quad l i v (le_of_suc-le-suc h))

pub below-tuples : (l : List Float) (i : ℕ) → i * 4 + 4 ≤ length l → i < length (tuples l)
below-tuples l i h = omega (arith, tuples-length l)

pub load-tuple : (l : List Float) (i : ℕ) → i * 4 + 4 ≤ length l → load l (i * 4) ≡ get_or (tuples l) i no_tuple
load-tuple l i h = simp (← quad_is i, unary_clauses) (load-quad l i (below-tuples l i h))

pub store-tuple : (l : List Float) (i : ℕ) (v : Coord) → i * 4 + 4 ≤ length l → tuples (store l (i * 4) v) ≡ set (tuples l) i v
store-tuple l i v h = simp (← quad_is i, unary_clauses) (store-quad l i v (below-tuples l i h))
