-- A coordinate as an array of four numbers: read at slots, stored at slots.
use mathlib.Core.Path.{◌≡◌, refl, ap, ◌∙◌}
use mathlib.Core.List.{List, [], ◌∷◌}
use Prim.Native.Nat.{ℕ, zero, suc, ◌+◌, ◌<◌}
use native.Mathlib.Omega.{arith}
use lib.ListN.{get_or, set}
use lib.Ieee.{Float, nan}
use Rattle.rules.specs.Operators.Numbers.{number, put}
use Rattle.rules.specs.declared.Coord.{Coord}
use Rattle.columns.specs.Coords.{picked, placed}
use Rattle.columns.specs.Within.{Within}

abbrev pub four : Coord → List Float
four c = c.a ∷ c.b ∷ c.c ∷ c.d ∷ []

abbrev pub coord : List Float → Coord
coord l = record { a = get_or l 0 nan; b = get_or l 1 nan; c = get_or l 2 nan; d = get_or l 3 nan }

get-four : (c : Coord) (s : ℕ) → s < 4 → get_or (four c) s nan ≡ number (s + 1) c
unfolding number
get-four c zero h = refl
get-four c (suc zero) h = refl
get-four c (suc (suc zero)) h = refl
get-four c (suc (suc (suc zero))) h = refl
get-four c (suc (suc (suc (suc s)))) h = absurd (over h)
  where
    over : suc (suc (suc (suc s))) < 4 → ⊥
    over h = omega arith

set-four : (c : Coord) (s : ℕ) (x : Float) → s < 4 → set (four c) s x ≡ four (put (s + 1) x c)
unfolding put
set-four c zero x h = refl
set-four c (suc zero) x h = refl
set-four c (suc (suc zero)) x h = refl
set-four c (suc (suc (suc zero))) x h = refl
set-four c (suc (suc (suc (suc s)))) x h = absurd (over h)
  where
    over : suc (suc (suc (suc s))) < 4 → ⊥
    over h = omega arith

module _ (o : List ℕ) (w : Within o) (c : Coord) where
  abbrev slot_in : ℕ → ℕ
  slot_in k = get_or o k 0

  pub pick-so : record { a = get_or (four c) (slot_in 0) nan; b = get_or (four c) (slot_in 1) nan; c = get_or (four c) (slot_in 2) nan; d = get_or (four c) (slot_in 3) nan } ≡ picked o c
  unfolding picked
  pick-so =
      let at : (k : ℕ) → get_or (four c) (slot_in k) nan ≡ number (slot_in k + 1) c = λ k. get-four c (slot_in k) (w.below k) in
      λ i. record { a = at 0 i; b = at 1 i; c = at 2 i; d = at 3 i }

  pub place-so : (v : Coord) → coord (set (set (set (set (four c) (slot_in 0) v.a) (slot_in 1) v.b) (slot_in 2) v.c) (slot_in 3) v.d) ≡ placed o v c
  unfolding placed
  place-so v =
      let one = set-four c (slot_in 0) v.a (w.below 0) in
      let c₁ = put (slot_in 0 + 1) v.a c in
      let two = ap (λ (l : List Float). set l (slot_in 1) v.b) one ∙ set-four c₁ (slot_in 1) v.b (w.below 1) in
      let c₂ = put (slot_in 1 + 1) v.b c₁ in
      let three = ap (λ (l : List Float). set l (slot_in 2) v.c) two ∙ set-four c₂ (slot_in 2) v.c (w.below 2) in
      let c₃ = put (slot_in 2 + 1) v.c c₂ in
      ap coord (ap (λ (l : List Float). set l (slot_in 3) v.d) three ∙ set-four c₃ (slot_in 3) v.d (w.below 3))
