-- The numbers of a coordinate by their slots.
use mathlib.Core.Path.{◌≡◌, refl, sym}
use Prim.Native.Nat.{ℕ, zero, suc, ◌+◌, ◌<◌, ◌≤◌}
use native.Mathlib.Nat.{not-suc-le-zero}
use native.Mathlib.Omega.{arith}
use borrow.Author.Tests.{ne_eqb, lt-ltb, le-ltb}
use mathlib.Core.Bool.{Bool, true, false, cond}
use mathlib.Core.List.{List}
use lib.Dec.{eqb}
use lib.IntN.{ℤ, pos}
use lib.ListN.{length, get_or}
use lib.Ieee.{Float}
use Rattle.rules.specs.Operators.Arguments.{size}
use Rattle.rules.specs.Operators.Numbers.{number, put}
use Rattle.rules.specs.declared.Coord.{Coord}
use Rattle.columns.specs.Coords.{slot, slot_at}

-- ---- the slot of an argument

module _ (l : List ℤ) (i : ℕ) where
  pub slot-named : i < length l → slot_at l i ≡ slot (size (get_or l i (pos 0)))
  unfolding slot_at
  slot-named h = rw (lt-ltb i (length l) h)

  pub slot-stays : length l ≤ i → slot_at l i ≡ i
  unfolding slot_at
  slot-stays h = rw (le-ltb i (length l) h)

-- ---- a place by its slot
pub slot-number : (i : ℕ) (c : Coord) → number (slot i + 1) c ≡ number i c
unfolding slot number
slot-number i c = go (eqb i 1) (eqb i 2) (eqb i 3)
  where
    go : (p q r : Bool)
        → number (cond p 0 (cond q 1 (cond r 2 3)) + 1) c ≡ cond p c.a (cond q c.b (cond r c.c c.d))
    go true q r = refl
    go false true r = refl
    go false false true = refl
    go false false false = refl

pub slot-put : (i : ℕ) (x : Float) (c : Coord) → put (slot i + 1) x c ≡ put i x c
unfolding slot put
slot-put i x c = go (eqb i 1) (eqb i 2) (eqb i 3)
  where
    go : (p q r : Bool)
        → put (cond p 0 (cond q 1 (cond r 2 3)) + 1) x c
        ≡ cond p (record { a = x; b = c.b; c = c.c; d = c.d }) (cond q (record { a = c.a; b = x; c = c.c; d = c.d })
        (cond r (record { a = c.a; b = c.b; c = x; d = c.d }) (record { a = c.a; b = c.b; c = c.c; d = x })))
    go true q r = refl
    go false true r = refl
    go false false true = refl
    go false false false = refl

-- ---- a number that is stored

-- a number that stands there already
pub put-own : (j : ℕ) (x : Float) (c : Coord) → number j c ≡ x → put j x c ≡ c
unfolding number put
put-own j x c h = go (eqb j 1) (eqb j 2) (eqb j 3) h
  where
    go : (p q r : Bool) → cond p c.a (cond q c.b (cond r c.c c.d)) ≡ x
        → cond p (record { a = x; b = c.b; c = c.c; d = c.d }) (cond q (record { a = c.a; b = x; c = c.c; d = c.d })
        (cond r (record { a = c.a; b = c.b; c = x; d = c.d }) (record { a = c.a; b = c.b; c = c.c; d = x })))
        ≡ c
    go true q r h = λ i. record { a = sym h i; b = c.b; c = c.c; d = c.d }
    go false true r h = λ i. record { a = c.a; b = sym h i; c = c.c; d = c.d }
    go false false true h = λ i. record { a = c.a; b = c.b; c = sym h i; d = c.d }
    go false false false h = λ i. record { a = c.a; b = c.b; c = c.c; d = sym h i }

-- a number above the one that is stored
pub put-above : (i j : ℕ) (x : Float) (c : Coord) → 1 ≤ i → i < j → j ≤ 4 → number j (put i x c) ≡ number j c
unfolding number put
put-above zero j x c h k m = absurd (not-suc-le-zero h)
put-above (suc zero) j x c h k m = rw (ne_eqb j 1 (λ e. omega arith))
put-above (suc (suc zero)) j x c h k m = rw (ne_eqb j 2 (λ e. omega arith))
put-above (suc (suc (suc zero))) j x c h k m = rw (ne_eqb j 3 (λ e. omega arith))
put-above (suc (suc (suc (suc i)))) j x c h k m = absurd (over k m)
  where
    over : suc (suc (suc (suc i))) < j → j ≤ 4 → ⊥
    over k m = omega arith
