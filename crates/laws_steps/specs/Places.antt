-- What the check's places tell of the numbers: a step moves numbers as it moves places, sign for sign.
use Rattle.std.specs.Prelude.{◌≡◌, Bool, cond, take, eqb, ℤ, Float}
use Rattle.std.proofs.Math.Path.{refl, ap}
use Rattle.std.proofs.Common.{◌∙◌, true≢false}
use Prim.Native.Nat.{ℕ, zero, suc, ◌-◌}
use Rattle.std.proofs.Math.Bool.{true, false, xor}
use mathlib.Core.List.{List, [], ◌∷◌, ◌++◌, map, map-map}
use Rattle.std.proofs.Math.ListN.{drop}
use Rattle.std.specs.Float.{nan, inf, fin}
use Rattle.std.specs.Float.Ieee.{neg}
use Rattle.rules.specs.Text.Decimal.{minus}
use Rattle.rules.specs.Operators.Arguments.{size}
use Rattle.rules.specs.Operators.Numbers.{number, put, turn}
use Rattle.rules.specs.Operators.Axisswap.{swap_from, unswap_from, reordered, swapped}
use Rattle.rules.specs.Operators.Acts.{Act, pushes, pops, pops_all, flips, rolls, swaps, drops, orders, adapts}
use Rattle.rules.specs.Pipeline.Columns.{rolled_once, rolled, swapped_top, pushed, popped, topped, flipped, moved}
use Rattle.rules.specs.Pipeline.Tuples.{State, on_numbers, column, stored}
use Rattle.rules.specs.Pipeline.Check.{Traced, on_places, four, nth, place, put_place, turn_place, adapting}
use Rattle.rules.specs.declared.Coord.{Coord}
use Rattle.rules.specs.declared.Place.{Place}

-- the number of a tuple that a place names, its sign kept or turned
unfoldable pub seen : Coord → Place → Float
seen t p = turn p.minus (number p.axis t)

-- the four numbers that four places name
unfoldable pub shown : Coord → List Place → Coord
shown t l = record { a = seen t (nth l 0); b = seen t (nth l 1); c = seen t (nth l 2); d = seen t (nth l 3) }

-- the machine that places tell of, over the tuples at the start
unfoldable pub told : List Coord → Traced → State
told ts p =
    record {
      tuples = map (λ (t : Coord). shown t p.tuples) ts;
      columns = map (λ (x : Place). map (λ (t : Coord). seen t x) ts) p.columns;
    }

-- ---- signs

pub neg-neg : (x : Float) → neg (neg x) ≡ x
unfolding neg
neg-neg nan = refl
neg-neg (inf true) = refl
neg-neg (inf false) = refl
neg-neg (fin true m e) = refl
neg-neg (fin false m e) = refl

turn-turn : (a b : Bool) (x : Float) → turn a (turn b x) ≡ turn (xor a b) x
unfolding turn xor
turn-turn true true x = neg-neg x
turn-turn true false x = refl
turn-turn false true x = refl
turn-turn false false x = refl

turn-seen : (t : Coord) (b : Bool) (p : Place) → turn b (seen t p) ≡ seen t (turn_place b p)
unfolding seen turn_place
turn-seen t b p = turn-turn b p.minus (number p.axis t)

-- ---- one tuple

pick4 : {X Y : Type 0} (f : X → Y) (b c d : Bool) (x y z w : X) → cond b (f x) (cond c (f y) (cond d (f z) (f w))) ≡ f (cond b x (cond c y (cond d z w)))
pick4 f true c d x y z w = refl
pick4 f false true d x y z w = refl
pick4 f false false true x y z w = refl
pick4 f false false false x y z w = refl

module _ (t : Coord) where
  pub number-shown : (i : ℕ) (l : List Place) → number i (shown t l) ≡ seen t (place i l)
  unfolding number shown place
  number-shown i l = pick4 (seen t) (eqb i 1) (eqb i 2) (eqb i 3) (nth l 0) (nth l 1) (nth l 2) (nth l 3)

  put-shown : (i : ℕ) (p : Place) (l : List Place) → put i (seen t p) (shown t l) ≡ shown t (put_place i p l)
  unfolding put shown put_place
  put-shown i p l =
      pick4 (shown t) (eqb i 1) (eqb i 2) (eqb i 3)
      (four p (nth l 1) (nth l 2) (nth l 3))
      (four (nth l 0) p (nth l 2) (nth l 3))
      (four (nth l 0) (nth l 1) p (nth l 3))
      (four (nth l 0) (nth l 1) (nth l 2) p)

  set-shown : (b : Bool) (i j : ℕ) (l out : List Place) → put j (turn b (number i (shown t l))) (shown t out) ≡ shown t (put_place j (turn_place b (place i l)) out)
  set-shown b i j l out = rw (number-shown i l, turn-seen t b (place i l)) (put-shown j (turn_place b (place i l)) out)

  swap-shown : (i : ℕ) (o : List ℤ) (l out : List Place) → swap_from number put turn i o (shown t l) (shown t out) ≡ shown t (swap_from place put_place turn_place i o l out)
  unfolding swap_from
  swap-shown i [] l out = refl
  swap-shown i (x ∷ o) l out = rw (set-shown (minus x) (size x) i l out) (swap-shown (suc i) o l (put_place i (turn_place (minus x) (place (size x) l)) out))

  unswap-shown : (i : ℕ) (o : List ℤ) (l out : List Place) → unswap_from number put turn i o (shown t l) (shown t out) ≡ shown t (unswap_from place put_place turn_place i o l out)
  unfolding unswap_from
  unswap-shown i [] l out = refl
  unswap-shown i (x ∷ o) l out = rw (set-shown (minus x) i (size x) l out) (unswap-shown (suc i) o l (put_place (size x) (turn_place (minus x) (place i l)) out))

  swapped-shown : (back : Bool) (o : List ℤ) (l : List Place) → swapped back o (shown t l) ≡ shown t (reordered place put_place turn_place back o l)
  unfolding swapped reordered
  swapped-shown false o l = swap-shown 1 o l l
  swapped-shown true o l = unswap-shown 1 o l l

-- ---- every tuple

module _ (ts : List Coord) where
  abbrev rows : List Place → List Coord
  rows l = map (λ (t : Coord). shown t l) ts

  abbrev line : Place → List Float
  line p = map (λ (t : Coord). seen t p) ts

  column-told : (i : ℕ) (l : List Place) → column i (rows l) ≡ line (place i l)
  unfolding column
  column-told i l = map-map (number i) (λ (t : Coord). shown t l) ts ∙ (λ k. map (λ (t : Coord). number-shown t i l k) ts)

  order-told : (back : Bool) (o : List ℤ) (l : List Place) → map (swapped back o) (rows l) ≡ rows (reordered place put_place turn_place back o l)
  order-told back o l = map-map (swapped back o) (λ (t : Coord). shown t l) ts ∙ (λ k. map (λ (t : Coord). swapped-shown t back o l k) ts)

store_told : (ts : List Coord) (i : ℕ) (p : Place) (l : List Place) → stored i (line ts p) (rows ts l) ≡ rows ts (put_place i p l)
unfolding stored
store_told [] i p l = refl
store_told (t ∷ ts) i p l = λ k. put-shown t i p l k ∷ store_told ts i p l k

-- ---- every step

module _ {A B : Type 0} (f : A → B) where
  map-take : (n : ℕ) (l : List A) → take n (map f l) ≡ map f (take n l)
  map-take zero l = refl
  map-take (suc n) [] = refl
  map-take (suc n) (x ∷ l) = ap (λ (r : List B). f x ∷ r) (map-take n l)

  map-drop : (n : ℕ) (l : List A) → drop n (map f l) ≡ map f (drop n l)
  map-drop zero l = refl
  map-drop (suc n) [] = refl
  map-drop (suc n) (x ∷ l) = map-drop n l

  map-join : (l m : List A) → map f l ++ map f m ≡ map f (l ++ m)
  map-join [] m = refl
  map-join (x ∷ l) m = ap (λ (r : List B). f x ∷ r) (map-join l m)

  once-map : (m : ℕ) (l : List A) → rolled_once m (map f l) ≡ map f (rolled_once m l)
  unfolding rolled_once
  once-map m [] = refl
  once-map m (v ∷ l) = (λ k. map-take (m - 1) l k ++ (f v ∷ map-drop (m - 1) l k)) ∙ map-join (take (m - 1) l) (v ∷ drop (m - 1) l)

  roll-map : (m n : ℕ) (l : List A) → rolled m n (map f l) ≡ map f (rolled m n l)
  unfolding rolled
  roll-map m zero l = refl
  roll-map m (suc n) l = ap (rolled m n) (once-map m l) ∙ roll-map m n (rolled_once m l)

  swap-map : (l : List A) → swapped_top (map f l) ≡ map f (swapped_top l)
  unfolding swapped_top
  swap-map [] = refl
  swap-map (v ∷ []) = refl
  swap-map (v ∷ w ∷ l) = refl

module _ (ts : List Coord) where
  push-told : (is : List ℕ) (l cs : List Place) → pushed on_numbers is (rows ts l) (map (line ts) cs) ≡ map (line ts) (pushed on_places is l cs)
  unfolding pushed
  push-told [] l cs = refl
  push-told (i ∷ is) l cs =
      ap (λ (v : List Float). pushed on_numbers is (rows ts l) (v ∷ map (line ts) cs)) (column-told ts i l)
      ∙ push-told is l (place i l ∷ cs)

  pop-told : (is : List ℕ) (l cs : List Place) → popped on_numbers is (rows ts l) (map (line ts) cs) ≡ told ts (popped on_places is l cs)
  unfolding popped told
  pop-told [] l cs = refl
  pop-told (i ∷ is) l [] = refl
  pop-told (i ∷ is) l (p ∷ cs) =
      ap (λ (r : List Coord). popped on_numbers is r (map (line ts) cs)) (store_told ts i p l)
      ∙ pop-told is (put_place i p l) cs

  flip-told : (is : List ℕ) (l cs : List Place) → flipped on_numbers is (rows ts l) (map (line ts) cs) ≡ told ts (flipped on_places is l cs)
  unfolding flipped told topped
  flip-told [] l cs = refl
  flip-told (i ∷ is) l [] = refl
  flip-told (i ∷ is) l (p ∷ cs) =
      (λ k. topped on_numbers (column-told ts i l k) (flipped on_numbers is (store_told ts i p l k) (map (line ts) cs)))
      ∙ ap (topped on_numbers (line ts (place i l))) (flip-told is (put_place i p l) cs)

  -- A movement of the numbers is the movement of the places that tell of them.
  pub moved_told : (a : Act) (p : Traced) → adapting a ≡ false → moved on_numbers a (told ts p) ≡ told ts (moved on_places a p)
  unfolding moved told adapting
  moved_told (pushes is) p h = λ k. record { tuples = rows ts p.tuples; columns = push-told is p.tuples p.columns k }
  moved_told (pops is) p h = pop-told is p.tuples p.columns
  moved_told (pops_all is) p h = pop-told is p.tuples p.columns
  moved_told (flips is) p h = flip-told is p.tuples p.columns
  moved_told (rolls w n) p h = λ k. record { tuples = rows ts p.tuples; columns = roll-map (line ts) w n p.columns k }
  moved_told swaps p h = λ k. record { tuples = rows ts p.tuples; columns = swap-map (line ts) p.columns k }
  moved_told drops p h = refl
  moved_told (orders back o) p h = λ k. record { tuples = order-told ts back o p.tuples k; columns = map (line ts) p.columns }
  moved_told (adapts mode back o) p h = absurd (true≢false h)
