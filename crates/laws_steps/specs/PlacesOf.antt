-- The places of a step's arguments: as many as the arguments, one after the other, and the other way round.
use Rattle.std.specs.Prelude.{◌≡◌, refl, ℕ, ◌+◌, ◌≤◌, ◌<◌, ℤ, pos, length, get_or, take, drop}
use Rattle.std.proofs.Common.{sym, ap, ◌∙◌, add-one, take-suc, drop-cons, length-take-le}
use mathlib.Core.List.{List, [], ◌∷◌, ◌++◌, map, map-append, reverse, reverse-cons}
use Rattle.std.proofs.lemmas.List.{length-map}
use Rattle.rules.specs.Operators.Arguments.{size, places}

pub places-length : (l : List ℤ) → length (places l) ≡ length l
unfolding places
places-length l = length-map l size

-- of the first j arguments
pub places-many : (l : List ℤ) (j : ℕ) → j ≤ length l → length (places (take j l)) ≡ j
places-many l j h = places-length (take j l) ∙ length-take-le j l h

-- of one argument more, and of one less
pub places-more : (l : List ℤ) (j : ℕ) → j < length l → places (take (j + 1) l) ≡ places (take j l) ++ (size (get_or l j (pos 0)) ∷ [])
unfolding places
places-more l j h = rw (add-one j, take-suc l j (pos 0) h) (map-append size (take j l) (get_or l j (pos 0) ∷ []))

pub places-next : (l : List ℤ) (j : ℕ) → j < length l → places (drop j l) ≡ size (get_or l j (pos 0)) ∷ places (drop (j + 1) l)
unfolding places
places-next l j h = ap (map size) (drop-cons l j (pos 0) h) ∙ (λ i. size (get_or l j (pos 0)) ∷ map size (drop (sym (add-one j) i) l))

pub places-reverse : (l : List ℤ) → places (reverse l) ≡ reverse (places l)
unfolding places
places-reverse [] = refl
places-reverse (x ∷ l) =
    ap places (reverse-cons x l)
    ∙ map-append size (reverse l) (x ∷ [])
    ∙ ap (λ (r : List ℕ). r ++ (size x ∷ [])) (places-reverse l)
    ∙ sym (reverse-cons (size x) (places l))
