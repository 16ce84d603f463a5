-- The place of the first of its kind, counted from 1: so a letter is found among letters, and a size among axes.
use mathlib.Core.Path.{◌≡◌, refl, sym, ◌∙◌}
use Prim.Native.Nat.{ℕ, suc, ◌+◌, ◌≤◌}
use mathlib.Core.Bool.{Bool, true, false}
use mathlib.Core.List.{List, [], ◌∷◌}
use native.Mathlib.Omega.{arith}
use lib.Dec.{eqb}
use lib.IntN.{ℤ}
use lib.ListN.{length}
use Rattle.rules.specs.Operators.Arguments.{size}
use Rattle.rules.specs.Operators.Adapt as adapt
use Rattle.std.specs.Prelude.{Option, Some, None, cond, ltb}
use Rattle.std.proofs.lemmas.Bool.Decides.{nat_tests}
use Rattle.std.specs.List.{position, position_or_len}

-- what answers the place of the first that passes a test, counted from i, and 0 where none does
pub record Finds {A : Type 0} (test : A → Bool) (find : ℕ → List A → ℕ) : Type 0 where
  pub nowhere : (i : ℕ) → find i [] ≡ 0
  pub here : (i : ℕ) (x : A) (l : List A) → test x ≡ true → find i (x ∷ l) ≡ i
  pub further : (i : ℕ) (x : A) (l : List A) → test x ≡ false → find i (x ∷ l) ≡ find (suc i) l

module _ {A : Type 0} {test : A → Bool} {find : ℕ → List A → ℕ} (f : Finds test find) where
  -- counted from 1 it is one more than the library's place
  found-from : (i : ℕ) (l : List A) → find (suc i) l ≡ cond (ltb (position_or_len test l) (length l)) (suc i + position_or_len test l) 0
  found-from i [] = f.nowhere (suc i)
  found-from i (x ∷ l) = go (test x) refl (found-from (suc i) l)
    where
      go : (b : Bool) → test x ≡ b → find (suc (suc i)) l ≡ cond (ltb (position_or_len test l) (length l)) (suc (suc i) + position_or_len test l) 0
          → find (suc i) (x ∷ l) ≡ cond (ltb (position_or_len test (x ∷ l)) (suc (length l))) (suc i + position_or_len test (x ∷ l)) 0
      go true e h = let k = f.here (suc i) x l e in rw e (grind (arith, nat_tests))
      go false e h = let k = f.further (suc i) x l e in rw e (grind (arith, nat_tests))

  module _ {l : List A} {r : Option ℕ} (e : r ≡ position test l) where
    pub found : {i : ℕ} → r ≡ Some i → i + 1 ≡ find 1 l
    found {i} h = go (ltb (position_or_len test l) (length l)) (sym h ∙ e) (found-from 0 l)
      where
        go : (b : Bool) → Some i ≡ cond b (Some (position_or_len test l)) None → find 1 l ≡ cond b (1 + position_or_len test l) 0 → i + 1 ≡ find 1 l
        go true k w = let m : i ≡ position_or_len test l = cc in omega (arith, w, m)
        go false k w = absurd (cc k)

    pub not_found : r ≡ None → 0 ≡ find 1 l
    not_found h = go (ltb (position_or_len test l) (length l)) (sym h ∙ e) (found-from 0 l)
      where
        go : (b : Bool) → None ≡ cond b (Some (position_or_len test l)) None → find 1 l ≡ cond b (1 + position_or_len test l) 0 → 0 ≡ find 1 l
        go true k w = absurd (cc k)
        go false k w = sym w

  -- a place is at most the length
  most-from : (i : ℕ) (l : List A) → find (suc i) l ≤ i + length l
  most-from i [] = omega (arith, f.nowhere (suc i))
  most-from i (x ∷ l) = go (test x) refl (most-from (suc i) l)
    where
      go : (b : Bool) → test x ≡ b → find (suc (suc i)) l ≤ suc i + length l → find (suc i) (x ∷ l) ≤ i + suc (length l)
      go true e h = omega (arith, f.here (suc i) x l e)
      go false e h = omega (arith, f.further (suc i) x l e)

  pub place-most : (l : List A) → find 1 l ≤ length l
  place-most l = omega (arith, most-from 0 l)

-- a letter
pub finds-letter : (b : ℕ) → Finds (eqb b) (λ i. adapt.place_in i b)
unfolding adapt.place_in
finds-letter b = record { nowhere = λ i. refl; here = λ i x l e. rw e; further = λ i x l e. rw e }

-- a size
pub finds-size : (n : ℕ) → Finds (λ (x : ℤ). eqb n (size x)) (λ i. adapt.position i n)
unfolding adapt.position
finds-size n = record { nowhere = λ i. refl; here = λ i x l e. rw e; further = λ i x l e. rw e }
