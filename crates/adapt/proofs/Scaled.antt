-- An `adapt` step with its slots and factors made does what its arguments say, in either mode.
use mathlib.Core.Path.{◌≡◌, refl, sym, ap, ◌∙◌}
use Prim.Native.Nat.{ℕ, zero, suc, ◌+◌, ◌≤◌}
use mathlib.Core.Bool.{Bool, true, false}
use mathlib.Core.List.{List, [], ◌∷◌, map}
use native.Mathlib.Omega.{arith}
use borrow.Author.Tests.{eqb-true}
use lib.ListN.{length, take, get_or}
use lib.Dec.{eqb}
use lib.IntN.{ℤ}
use lib.Ieee.{Float, binary64, mul, div}
use Rattle.rules.specs.Operators.Arguments.{arg, is_order}
use Rattle.rules.specs.Operators.Adapt.{is_adapt, one, post, mult, output, sets, stays, noop, adapted_if, adapted}
use Rattle.rules.specs.Operators.Documented.{is_documented, sends_back, adapted_by_axis}
use Rattle.rules.specs.Operators.Numbers.{number, put}
use Rattle.rules.specs.declared.Coord.{Coord}
use Rattle.laws_lists.specs.Lists.{map_same}
use Rattle.laws_lists.specs.Tests.{and_left, and_right}
use Rattle.laws_records.specs.Operators.Adapt.Words.{Sized, order-sized}
use Rattle.columns.specs.Coords.{slot, slot_at, slots_of, picked, placed}
use Rattle.adapt.specs.Factors.{staying, all_staying, mults, overs, scaled_by, scaled, unscaled, scaled_if, factors_for, factors_by_axis}
use Rattle.columns.proofs.BySlot.{slot-number, slot-put}

-- the first four arguments
fours : (l : List ℤ) → length l ≡ 8 → take 4 l ≡ arg 1 l ∷ arg 2 l ∷ arg 3 l ∷ arg 4 l ∷ []
unfolding arg
fours [] h = absurd (none h)
  where
    none : ◌≡◌ {A = ℕ} 0 8 → ⊥
    none h = omega arith
fours (a ∷ []) h = absurd (none h)
  where
    none : ◌≡◌ {A = ℕ} 1 8 → ⊥
    none h = omega arith
fours (a ∷ b ∷ []) h = absurd (none h)
  where
    none : ◌≡◌ {A = ℕ} 2 8 → ⊥
    none h = omega arith
fours (a ∷ b ∷ c ∷ []) h = absurd (none h)
  where
    none : ◌≡◌ {A = ℕ} 3 8 → ⊥
    none h = omega arith
fours (a ∷ b ∷ c ∷ d ∷ l) h = refl

-- a place from 1 to 4 by its slot
slot-place : (i : ℕ) → 1 ≤ i → i ≤ 4 → slot i + 1 ≡ i
unfolding slot
slot-place zero h k = absurd (none h)
  where
    none : 1 ≤ 0 → ⊥
    none h = omega arith
slot-place (suc zero) h k = refl
slot-place (suc (suc zero)) h k = refl
slot-place (suc (suc (suc zero))) h k = refl
slot-place (suc (suc (suc (suc zero)))) h k = refl
slot-place (suc (suc (suc (suc (suc i))))) h k = absurd (over k)
  where
    over : suc (suc (suc (suc (suc i)))) ≤ 4 → ⊥
    over h = omega arith

-- a factor at a place from 1 to 4, under 1
over-at : (l : List ℤ) (i : ℕ) → 1 ≤ i → i ≤ 4 → number i (overs (mults l)) ≡ div binary64 one (mult l i)
unfolding number overs mults
over-at l zero h k = absurd (none h)
  where
    none : 1 ≤ 0 → ⊥
    none h = omega arith
over-at l (suc zero) h k = refl
over-at l (suc (suc zero)) h k = refl
over-at l (suc (suc (suc zero))) h k = refl
over-at l (suc (suc (suc (suc zero)))) h k = refl
over-at l (suc (suc (suc (suc (suc i))))) h k = absurd (over k)
  where
    over : suc (suc (suc (suc (suc i)))) ≤ 4 → ⊥
    over h = omega arith

-- what both modes ask of the arguments: there are eight, and the first four are an order
record Ordered (l : List ℤ) : Type 0 where
  long : length l ≡ 8
  order : is_order (take 4 l) ≡ true

crates-ordered : (l : List ℤ) → is_adapt l ≡ true → Ordered l
unfolding is_adapt
crates-ordered l h =
    record { long = eqb-true (length l) 8 (and_left (eqb (length l) 8) _ h); order = and_left (is_order (take 4 l)) _ (and_right (eqb (length l) 8) _ h) }

documented-ordered : (l : List ℤ) → is_documented l ≡ true → Ordered l
unfolding is_documented
documented-ordered l h =
    record { long = eqb-true (length l) 8 (and_left (eqb (length l) 8) _ h); order = and_left (is_order (take 4 l)) _ (and_right (eqb (length l) 8) _ h) }

module _ (l : List ℤ) (h : Ordered l) where
  -- the four places are from 1 to 4
  places-sized : Sized (arg 1 l) × Sized (arg 2 l) × Sized (arg 3 l) × Sized (arg 4 l)
  places-sized = order-sized (arg 1 l) (arg 2 l) (arg 3 l) (arg 4 l) (rw (fours l h.long) at h.order)

  -- the slots of a step
  abbrev slots : List ℕ
  slots = slot (post l 1) ∷ slot (post l 2) ∷ slot (post l 3) ∷ slot (post l 4) ∷ []

  slots-made : slots_of (take 4 l) ≡ slots
  unfolding slots_of slot_at post
  slots-made = ap slots_of (fours l h.long)

  module _ (c : Coord) where
    scale-made : scaled slots (mults l) c ≡ adapted_if false false l c
    unfolding scaled scaled_by picked mults adapted_if output
    scale-made =
        let at : (i : ℕ) → mul binary64 (number (slot (post l i) + 1) c) (mult l i) ≡ output l c i =
        λ i. ap (λ (x : Float). mul binary64 x (mult l i)) (slot-number (post l i) c) in
        λ i. record { a = at 1 i; b = at 2 i; c = at 3 i; d = at 4 i }

    -- one number back to its place
    back_one : (j : ℕ) {out out' : Coord} → 1 ≤ post l j → post l j ≤ 4 → out ≡ out'
        → put (slot (post l j) + 1) (mul binary64 (number j c) (number (slot (post l j) + 1) (overs (mults l)))) out ≡ sets l c j out'
    unfolding sets
    back_one j {out} {out'} p q e =
        let f = slot-number (post l j) (overs (mults l)) ∙ over-at l (post l j) p q in
        (λ i. put (slot (post l j) + 1) (mul binary64 (number j c) (f i)) (e i)) ∙ slot-put (post l j) _ out'

    unscale-made : unscaled slots (picked slots (overs (mults l))) c ≡ adapted_if false true l c
    unfolding unscaled scaled_by picked placed adapted_if number post
    unscale-made =
        let s = places-sized in
        back_one 4 s.3.least s.3.most
        (back_one 3 s.2.least s.2.most
        (back_one 2 s.1.least s.1.most
        (back_one 1 s.0.least s.0.most refl)))

    -- in the documented mode
    by-axis-scaled : scaled slots (mults l) c ≡ adapted_by_axis false l c
    unfolding adapted_by_axis adapted_if
    by-axis-scaled = scale-made

    sent-one : (j : ℕ) {out out' : Coord} → out ≡ out'
        → put (slot (post l j) + 1) (mul binary64 (number j c) (div binary64 one (mult l j))) out ≡ sends_back l c j out'
    unfolding sends_back
    sent-one j {out} {out'} e = ap (put (slot (post l j) + 1) (mul binary64 (number j c) (div binary64 one (mult l j)))) e ∙ slot-put (post l j) _ out'

    by-axis-unscaled : unscaled slots (overs (mults l)) c ≡ adapted_by_axis true l c
    unfolding unscaled scaled_by placed overs mults adapted_by_axis number
    by-axis-unscaled = sent-one 4 (sent-one 3 (sent-one 2 (sent-one 1 refl)))

  still-made : all_staying (slot (post l 1) + 1) (slot (post l 2) + 1) (slot (post l 3) + 1) (slot (post l 4) + 1) (mults l) ≡ noop l
  unfolding all_staying staying noop stays mults post
  still-made =
      let s = places-sized in
      let e1 = slot-place (post l 1) s.0.least s.0.most in
      let e2 = slot-place (post l 2) s.1.least s.1.most in
      let e3 = slot-place (post l 3) s.2.least s.2.most in
      let e4 = slot-place (post l 4) s.3.least s.3.most in
      λ i. all_staying (e1 i) (e2 i) (e3 i) (e4 i) (mults l)

-- ---- every coordinate of a list, from what the calls ensure

map-own : (f : Coord → Coord) → ((c : Coord) → c ≡ f c) → (ts : List Coord) → ts ≡ map f ts
map-own f e [] = refl
map-own f e (t ∷ ts) = λ i. e t i ∷ map-own f e ts i

module _ (l : List ℤ) (is : is_adapt l ≡ true) (o : List ℕ) (m : Coord) (b : Bool) (ts : List Coord) (named : o ≡ slots_of (take 4 l))
    (made : m ≡ mults l) (still : b ≡ all_staying (get_or o 0 0 + 1) (get_or o 1 0 + 1) (get_or o 2 0 + 1) (get_or o 3 0 + 1) m) where
  h : Ordered l
  h = crates-ordered l is

  same : o ≡ slots l h
  same = named ∙ slots-made l h

  noop-is : noop l ≡ b
  noop-is = sym (still ∙ (λ i. all_staying (get_or (same i) 0 0 + 1) (get_or (same i) 1 0 + 1) (get_or (same i) 2 0 + 1) (get_or (same i) 3 0 + 1) (made i)) ∙ still-made l h)

  by-noop : (back : Bool) (c : Coord) → adapted_if b back l c ≡ adapted back l c
  unfolding adapted
  by-noop back c = ap (λ (z : Bool). adapted_if z back l c) (sym noop-is)

  -- a no-op touches nothing
  pub all-still : (back : Bool) → b ≡ true → ts ≡ map (adapted back l) ts
  unfolding adapted_if
  all-still back e = map-own (adapted back l) (λ c. ap (λ (z : Bool). adapted_if z back l c) (sym e) ∙ by-noop back c) ts

  scaled-so : (back : Bool) (w : Coord) → w ≡ factors_for back o m → (c : Coord) → scaled_if back o w c ≡ adapted_if false back l c
  unfolding scaled_if factors_for
  scaled-so false w e c = (λ i. scaled (same i) ((e ∙ made) i) c) ∙ scale-made l h c
  scaled-so true w e c =
      let by : w ≡ picked (slots l h) (overs (mults l)) = e ∙ (λ i. picked (same i) (overs (made i))) in
      (λ i. unscaled (same i) (by i) c) ∙ unscale-made l h c

  -- else each tuple is scaled
  pub all-scaled : (back : Bool) (w : Coord) → b ≡ false → w ≡ factors_for back o m → map (scaled_if back o w) ts ≡ map (adapted back l) ts
  all-scaled back w e f =
      map_same (scaled_if back o w) (adapted back l) (λ c. scaled-so back w f c ∙ ap (λ (z : Bool). adapted_if z back l c) (sym e) ∙ by-noop back c) ts

-- ---- in the documented mode

module _ (l : List ℤ) (is : is_documented l ≡ true) (o : List ℕ) (m : Coord) (ts : List Coord) (named : o ≡ slots_of (take 4 l)) (made : m ≡ mults l) where
  axis-slots : o ≡ slots l (documented-ordered l is)
  axis-slots = named ∙ slots-made l (documented-ordered l is)

  axis-scaled-so : (back : Bool) (w : Coord) → w ≡ factors_by_axis back m → (c : Coord) → scaled_if back o w c ≡ adapted_by_axis back l c
  unfolding scaled_if factors_by_axis
  axis-scaled-so false w e c = (λ i. scaled (axis-slots i) ((e ∙ made) i) c) ∙ by-axis-scaled l (documented-ordered l is) c
  axis-scaled-so true w e c = (λ i. unscaled (axis-slots i) ((e ∙ ap overs made) i) c) ∙ by-axis-unscaled l (documented-ordered l is) c

  -- each tuple is scaled
  pub all-by-axis : (back : Bool) (w : Coord) → w ≡ factors_by_axis back m → map (scaled_if back o w) ts ≡ map (adapted_by_axis back l) ts
  all-by-axis back w f = map_same (scaled_if back o w) (adapted_by_axis back l) (axis-scaled-so back w f) ts
