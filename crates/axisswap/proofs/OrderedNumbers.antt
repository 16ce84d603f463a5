-- An `axisswap` step with its slots and signs made does what its arguments say.
use mathlib.Core.Path.{◌≡◌, refl, ap, ◌∙◌}
use Prim.Native.Nat.{ℕ, suc, ◌+◌, ◌<◌, ◌≤◌}
use mathlib.Core.Bool.{Bool, true, false, ◌&&◌}
use mathlib.Core.List.{List, [], ◌∷◌, map}
use native.Mathlib.Omega.{arith}
use borrow.Author.Tests.{leb-true, lt-ltb, le-ltb}
use lib.ListN.{length, get_or}
use lib.Dec.{leb}
use lib.IntN.{ℤ, pos}
use lib.Ieee.{Float}
use Rattle.rules.specs.Text.Lists.{all_of}
use Rattle.rules.specs.Text.Decimal.{minus}
use Rattle.rules.specs.Operators.Arguments.{size, is_distinct, is_order}
use Rattle.rules.specs.Operators.Axisswap.{swap_from, unswap_from, reordered, swapped}
use Rattle.rules.specs.Operators.Numbers.{number, put, turn}
use Rattle.rules.specs.declared.Coord.{Coord}
use Rattle.laws_lists.specs.Tests.{and_left, and_right}
use Rattle.laws_lists.specs.Lists.{map_same}
use Rattle.columns.specs.Coords.{slot, slot_at, slots_of, picked, placed}
use Rattle.axisswap.specs.Signs.{turn_at, turns_of, turned_by, ordered, unordered, ordered_by}
use Rattle.columns.proofs.BySlot.{slot-number, slot-put, put-own, put-above}

-- ---- from what the code tests

module _ (l : List ℤ) (i : ℕ) where
  pub turn-named : i < length l → turn_at l i ≡ minus (get_or l i (pos 0))
  unfolding turn_at
  turn-named h = rw (lt-ltb i (length l) h)

  pub turn-stays : length l ≤ i → turn_at l i ≡ false
  unfolding turn_at
  turn-stays h = rw (le-ltb i (length l) h)

-- ---- the rule of an order

-- from one to four arguments, each of a size from 1 to their number
record Rule (l : List ℤ) : Type 0 where
  least : 1 ≤ length l
  most : length l ≤ 4
  sizes : all_of (λ (x : ℤ). leb 1 (size x) && leb (size x) (length l)) l ≡ true

ruled : (l : List ℤ) → is_order l ≡ true → Rule l
unfolding is_order
ruled l h =
    let A = leb 1 (length l) in
    let B = leb (length l) 4 in
    let C = all_of (λ (x : ℤ). leb 1 (size x) && leb (size x) (length l)) l in
    let r = and_right A (B && (C && is_distinct l)) h in
    record {
      least = leb-true 1 (length l) (and_left A _ h);
      most = leb-true (length l) 4 (and_left B (C && is_distinct l) r);
      sizes = and_left C (is_distinct l) (and_right B (C && is_distinct l) r);
    }

-- ---- forward

module _ (c : Coord) where
  -- an output that the order names
  named : (x : ℤ) → turn (minus x) (number (slot (size x) + 1) c) ≡ turn (minus x) (number (size x) c)
  named x = ap (turn (minus x)) (slot-number (size x) c)

  order-made : (l : List ℤ) → Rule l → ordered (slots_of l) (turns_of l) c ≡ swapped false l c
  unfolding ordered turned_by picked slots_of slot_at turns_of turn_at swapped reordered swap_from number put turn
  order-made [] h = absurd (none h.least)
    where
      none : 1 ≤ 0 → ⊥
      none h = omega arith
  order-made (x ∷ []) h = λ i. record { a = named x i; b = c.b; c = c.c; d = c.d }
  order-made (x ∷ y ∷ []) h = λ i. record { a = named x i; b = named y i; c = c.c; d = c.d }
  order-made (x ∷ y ∷ z ∷ []) h = λ i. record { a = named x i; b = named y i; c = named z i; d = c.d }
  order-made (x ∷ y ∷ z ∷ w ∷ []) h = λ i. record { a = named x i; b = named y i; c = named z i; d = named w i }
  order-made (x ∷ y ∷ z ∷ w ∷ v ∷ l) h = absurd (over (length l) h.most)
    where
      over : (n : ℕ) → suc (suc (suc (suc (suc n)))) ≤ 4 → ⊥
      over n h = omega arith

-- ---- back

module _ (c : Coord) where
  -- a number above every size stays as it was
  above : (n j : ℕ) (l : List ℤ) (i : ℕ) (out : Coord) → all_of (λ (x : ℤ). leb 1 (size x) && leb (size x) n) l ≡ true → n < j → j ≤ 4
      → number j (unswap_from number put turn i l c out) ≡ number j out
  unfolding unswap_from all_of
  above n j [] i out s h k = refl
  above n j (x ∷ l) i out s h k =
      let A = leb 1 (size x) in
      let B = leb (size x) n in
      let one = and_left (A && B) (all_of (λ (x : ℤ). leb 1 (size x) && leb (size x) n) l) s in
      let low : 1 ≤ size x = leb-true 1 (size x) (and_left A B one) in
      let high : size x ≤ n = leb-true (size x) n (and_right A B one) in
      above n j l (suc i) _ (and_right (A && B) (all_of (λ (x : ℤ). leb 1 (size x) && leb (size x) n) l) s) h k
      ∙ put-above (size x) j (turn (minus x) (number i c)) out low (omega arith) k

  -- a number that the order places
  goes : (x : ℤ) (f : Float) {out out' : Coord} → out ≡ out' → put (slot (size x) + 1) f out ≡ put (size x) f out'
  goes x f {out} {out'} e = ap (put (slot (size x) + 1) f) e ∙ slot-put (size x) f out'

  -- and one that it does not
  stays : (l : List ℤ) → Rule l → (j : ℕ) (out : Coord) → length l < j → j ≤ 4 → out ≡ swapped true l c → put j (number j c) out ≡ swapped true l c
  unfolding swapped reordered
  stays l r j out h k e = ap (put j (number j c)) e ∙ put-own j (number j c) (swapped true l c) (above (length l) j l 1 c r.sizes h k)

  unorder-made : (l : List ℤ) → Rule l → unordered (slots_of l) (turns_of l) c ≡ swapped true l c
  unfolding unordered turned_by placed slots_of slot_at turns_of turn_at swapped reordered unswap_from number turn
  unorder-made [] h = absurd (none h.least)
    where
      none : 1 ≤ 0 → ⊥
      none h = omega arith
  unorder-made (x ∷ []) h =
      let l = x ∷ [] in
      stays l h 4 _ (omega arith) (omega arith) (stays l h 3 _ (omega arith) (omega arith) (stays l h 2 _ (omega arith) (omega arith) (goes x _ refl)))
  unorder-made (x ∷ y ∷ []) h =
      let l = x ∷ y ∷ [] in
      stays l h 4 _ (omega arith) (omega arith) (stays l h 3 _ (omega arith) (omega arith) (goes y _ (goes x _ refl)))
  unorder-made (x ∷ y ∷ z ∷ []) h =
      stays (x ∷ y ∷ z ∷ []) h 4 _ (omega arith) (omega arith) (goes z _ (goes y _ (goes x _ refl)))
  unorder-made (x ∷ y ∷ z ∷ w ∷ []) h = goes w _ (goes z _ (goes y _ (goes x _ refl)))
  unorder-made (x ∷ y ∷ z ∷ w ∷ v ∷ l) h = absurd (over (length l) h.most)
    where
      over : (n : ℕ) → suc (suc (suc (suc (suc n)))) ≤ 4 → ⊥
      over n h = omega arith

-- ---- forward or back

module _ (l : List ℤ) (h : is_order l ≡ true) (o : List ℕ) (t : List Bool) (slots : o ≡ slots_of l) (signs : t ≡ turns_of l) where
  made_so : (back : Bool) (c : Coord) → ordered_by back o t c ≡ swapped back l c
  unfolding ordered_by
  made_so false c = (λ i. ordered (slots i) (signs i) c) ∙ order-made c l (ruled l h)
  made_so true c = (λ i. unordered (slots i) (signs i) c) ∙ unorder-made c l (ruled l h)

  -- every coordinate of a list
  pub all-swapped : (back : Bool) (ts : List Coord) → map (ordered_by back o t) ts ≡ map (swapped back l) ts
  all-swapped back ts = map_same (ordered_by back o t) (swapped back l) (made_so back) ts
