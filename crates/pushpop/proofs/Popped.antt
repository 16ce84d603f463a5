-- A pop on numbers: what is left to pop after some of its places; and all of them are what the act does.
use mathlib.Core.Path.{◌≡◌, refl, sym, ap, ◌∙◌}
use Prim.Native.Nat.{ℕ, suc, ◌+◌, ◌-◌, ◌/◌, ◌<◌, ◌≤◌}
use mathlib.Core.Bool.{Bool, true, false}
use mathlib.Core.List.{List, [], ◌∷◌, map}
use native.Mathlib.Omega.{arith}
use borrow.Author.Tests.{ltb-false}
use lib.Dec.{ltb}
use lib.ListN.{length, get_or, drop, drop_of_length-le}
use lib.IntN.{ℤ, pos}
use lib.Ieee.{Float, nan}
use Rattle.rules.specs.Operators.Acts.{pops}
use Rattle.rules.specs.Operators.Arguments.{size, places}
use Rattle.rules.specs.Operators.Numbers.{put}
use Rattle.rules.specs.Pipeline.Columns.{popped, moved, takes, too_few}
use Rattle.rules.specs.Pipeline.Tuples.{State, tuples, stored, on_numbers, drained, starved, acted_if, acted}
use Rattle.rules.specs.declared.Coord.{Coord}
use Rattle.laws_steps.specs.PlacesOf.{places-length, places-next}
use Rattle.columns.specs.Stores.{col, columns_of, held}
use Rattle.columns.specs.Machine.{Acted}
use Rattle.columns.proofs.Acted.{acted-so}
use Rattle.columns.proofs.InStore.{columns-drop}

-- what is left to pop
abbrev pub pops_left : (n d : ℕ) → List ℤ → List Coord → List Float → ℕ → State
pops_left n d l ts s j = drained (places (drop j l)) ts (columns_of n (d - j) s)

module _ (n d : ℕ) (l : List ℤ) (s : List Float) where
  pub pop-none : (ts : List Coord) → pops_left n d l ts s 0 ≡ drained (places l) ts (columns_of n d s)
  pop-none ts = ap (λ (q : ℕ). drained (places l) ts (columns_of n q s)) (own d)
    where
      own : (d : ℕ) → d - 0 ≡ d
      own d = omega arith

  module _ (ts ts' : List Coord) (j r : ℕ) (h : j < length l) (er : r ≡ size (get_or l j (pos 0))) where
    -- a column more
    pub pop-turn : j < d → ts' ≡ stored r (col n (d - 1 - j) s) ts → pops_left n d l ts s j ≡ pops_left n d l ts' s (j + 1)
    unfolding drained columns_of
    pop-turn g made =
        let top : d - j ≡ suc (d - 1 - j) = omega arith in
        let low : d - 1 - j ≡ d - (j + 1) = omega arith in
        (λ t. drained (places-next l j h t) ts (columns_of n (top t) s))
        ∙ (λ t. drained (places (drop (j + 1) l)) (sym (made ∙ ap (λ (z : ℕ). stored z (col n (d - 1 - j) s) ts) er) t) (columns_of n (low t) s))

    -- no column
    pub pop-stops : d ≤ j → ts' ≡ map (put r nan) ts → ts' ≡ (pops_left n d l ts s j).tuples
    unfolding drained columns_of
    pop-stops g made =
        let none : d - j ≡ 0 = omega arith in
        made
        ∙ ap (λ (z : ℕ). map (put z nan) ts) er
        ∙ sym (λ t. (drained (places-next l j h t) ts (columns_of n (none t) s)).tuples)

  pub pop-end : (ts : List Coord) (j : ℕ) → length l ≤ j → ts ≡ (pops_left n d l ts s j).tuples
  unfolding drained places
  pop-end ts j h = sym (ap (λ (r : List ℤ). (drained (map size r) ts (columns_of n (d - j) s)).tuples) (drop_of_length-le l {i = j} h))

-- the columns that a pop leaves
pub drained-columns : (is : List ℕ) (ts : List Coord) (l : List (List Float)) → (drained is ts l).columns ≡ drop (length is) l
unfolding drained
drained-columns [] ts l = refl
drained-columns (i ∷ is) ts [] = refl
drained-columns (i ∷ is) ts (v ∷ l) = drained-columns is (stored i v ts) l

-- ---- all places

-- a pop that finds enough columns needs no NaN
pub popped-drained : (is : List ℕ) (ts : List Coord) (l : List (List Float)) → length is ≤ length l → popped on_numbers is ts l ≡ drained is ts l
unfolding popped drained
popped-drained [] ts l h = refl
popped-drained (i ∷ is) ts [] h = absurd (none h)
  where
    none : suc (length is) ≤ 0 → ⊥
    none h = omega arith
popped-drained (i ∷ is) ts (v ∷ l) h = popped-drained is (stored i v ts) l (omega arith)

-- so the act is one of popping, whatever it finds
acts-drained : (is : List ℕ) (m : State) → acted (pops is) m ≡ drained is m.tuples m.columns
unfolding acted acted_if moved starved too_few takes
acts-drained is m = go (ltb (length m.columns) (length is)) refl
  where
    go : (b : Bool) → ltb (length m.columns) (length is) ≡ b → acted_if b (pops is) m ≡ drained is m.tuples m.columns
    go true e = refl
    go false e = popped-drained is m.tuples m.columns (ltb-false (length m.columns) (length is) e)

-- the columns that are left stand in the store as they did
pub left-in-store : (l : List ℤ) (d : ℕ) (xs s xs' : List Float) → length xs' ≡ length xs
    → columns_of (length xs' / 4) (d - length l) s ≡ (drained (places l) (tuples xs) (columns_of (length xs / 4) d s)).columns
left-in-store l d xs s xs' len =
    ap (λ (z : ℕ). columns_of (z / 4) (d - length l) s) len
    ∙ sym (columns-drop (length xs / 4) d (length l) s)
    ∙ ap (λ (z : ℕ). drop z (columns_of (length xs / 4) d s)) (sym (places-length l))
    ∙ sym (drained-columns (places l) (tuples xs) (columns_of (length xs / 4) d s))

pub pop-acted : (l : List ℤ) (d : ℕ) (xs s xs' : List Float) → length xs' ≡ length xs
    → tuples xs' ≡ (drained (places l) (tuples xs) (columns_of (length xs / 4) d s)).tuples → Acted (pops (places l)) d xs s xs' s
unfolding held
pop-acted l d xs s xs' len h =
    let left = left-in-store l d xs s xs' len in
    acted-so (pops (places l)) d xs s (d - length l) xs' s
    ((λ i. record { tuples = h i; columns = left i }) ∙ sym (acts-drained (places l) (held xs s d)))
    refl
