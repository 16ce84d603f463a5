-- Four places by their number, as elements of a list of four.
use Rattle.std.specs.Prelude.{◌≡◌, refl, ℕ, zero, suc, ◌<◌, List, [], ◌∷◌, length, get_or, set}
use Rattle.std.proofs.Common.{arith}
use Rattle.rules.specs.Pipeline.Check.{no_place, place, put_place}
use Rattle.rules.specs.declared.Place.{Place}

-- a list of four
of_four : (P : List Place → Type 0) → ((a b c d : Place) → P (a ∷ b ∷ c ∷ d ∷ [])) → (l : List Place) → length l ≡ 4 → P l
of_four P f [] e = absurd (omega (arith, e))
of_four P f (a ∷ []) e = absurd (omega (arith, e))
of_four P f (a ∷ b ∷ []) e = absurd (omega (arith, e))
of_four P f (a ∷ b ∷ c ∷ []) e = absurd (omega (arith, e))
of_four P f (a ∷ b ∷ c ∷ d ∷ []) e = f a b c d
of_four P f (a ∷ b ∷ c ∷ d ∷ x ∷ l) e = absurd (omega (arith, e))

-- a number below four
below-four : (P : ℕ → Type 0) → P 0 → P 1 → P 2 → P 3 → (k : ℕ) → k < 4 → P k
below-four P a b c d zero h = a
below-four P a b c d (suc zero) h = b
below-four P a b c d (suc (suc zero)) h = c
below-four P a b c d (suc (suc (suc zero))) h = d
below-four P a b c d (suc (suc (suc (suc k)))) h = absurd (omega (arith, h))

pub place_is : (l : List Place) (k : ℕ) → k < 4 → place (suc k) l ≡ get_or l k no_place
unfolding place
place_is l k h = below-four (λ (j : ℕ). place (suc j) l ≡ get_or l j no_place) refl refl refl refl k h

pub put_is : (l : List Place) (p : Place) (k : ℕ) → length l ≡ 4 → k < 4 → put_place (suc k) p l ≡ set l k p
unfolding put_place
put_is l p k e h =
    below-four (λ (j : ℕ). put_place (suc j) p l ≡ set l j p)
    (of_four (λ (m : List Place). put_place 1 p m ≡ set m 0 p) (λ a b c d. refl) l e)
    (of_four (λ (m : List Place). put_place 2 p m ≡ set m 1 p) (λ a b c d. refl) l e)
    (of_four (λ (m : List Place). put_place 3 p m ≡ set m 2 p) (λ a b c d. refl) l e)
    (of_four (λ (m : List Place). put_place 4 p m ≡ set m 3 p) (λ a b c d. refl) l e)
    k
    h
