-- The check's places are from 1 to 4 at every step, so each names one of a tuple's four numbers.
use Rattle.std.specs.Prelude.{◌≡◌, refl, ℕ, suc, ◌≤◌, Bool, true, false, cond, List, [], ◌∷◌, eqb, ℤ}
use Rattle.std.proofs.Common.{lit≤}
use Rattle.rules.specs.Text.Decimal.{minus}
use Rattle.rules.specs.Operators.Arguments.{size}
use Rattle.rules.specs.Operators.Axisswap.{swap_from, unswap_from, reordered}
use Rattle.rules.specs.Pipeline.Running.{Numbered}
use Rattle.rules.specs.Pipeline.Columns.{moved, after}
use Rattle.rules.specs.Pipeline.Check.{four, nth, place, put_place, turn_place, on_places, begin}
use Rattle.rules.specs.declared.Place.{Place}
use Rattle.laws_lists.specs.Lists.{Every}
use Rattle.laws_steps.specs.Keeps.{Holds, Keeps, moved_keeps, after-keeps}

pub record Named (p : Place) : Type 0 where
  pub least : 1 ≤ p.axis
  pub most : p.axis ≤ 4

-- four places, each named
pub record FourNamed (l : List Place) : Type 0 where
  pub are-four : l ≡ four (nth l 0) (nth l 1) (nth l 2) (nth l 3)
  pub first : Named (nth l 0)
  pub second : Named (nth l 1)
  pub third : Named (nth l 2)
  pub fourth : Named (nth l 3)

pub place-named : (i : ℕ) (l : List Place) → FourNamed l → Named (place i l)
unfolding place
place-named i l h = go (eqb i 1) (eqb i 2) (eqb i 3)
  where
    go : (a b c : Bool) → Named (cond a (nth l 0) (cond b (nth l 1) (cond c (nth l 2) (nth l 3))))
    go true b c = h.first
    go false true c = h.second
    go false false true = h.third
    go false false false = h.fourth

put-named : (i : ℕ) (p : Place) (l : List Place) → Named p → FourNamed l → FourNamed (put_place i p l)
unfolding put_place
put-named i p l n h = go (eqb i 1) (eqb i 2) (eqb i 3)
  where
    go : (a b c : Bool)
        → FourNamed (cond a (four p (nth l 1) (nth l 2) (nth l 3))
        (cond b (four (nth l 0) p (nth l 2) (nth l 3)) (cond c (four (nth l 0) (nth l 1) p (nth l 3)) (four (nth l 0) (nth l 1) (nth l 2) p))))
    go true b c = record { are-four = refl; first = n; second = h.second; third = h.third; fourth = h.fourth }
    go false true c = record { are-four = refl; first = h.first; second = n; third = h.third; fourth = h.fourth }
    go false false true = record { are-four = refl; first = h.first; second = h.second; third = n; fourth = h.fourth }
    go false false false = record { are-four = refl; first = h.first; second = h.second; third = h.third; fourth = n }

turn-named : (b : Bool) (p : Place) → Named p → Named (turn_place b p)
unfolding turn_place
turn-named b p h = record { least = h.least; most = h.most }

swap-named : (i : ℕ) (o : List ℤ) (l out : List Place) → FourNamed l → FourNamed out → FourNamed (swap_from place put_place turn_place i o l out)
unfolding swap_from
swap-named i [] l out h k = k
swap-named i (x ∷ o) l out h k = swap-named (suc i) o l _ h (put-named i _ out (turn-named (minus x) _ (place-named (size x) l h)) k)

unswap-named : (i : ℕ) (o : List ℤ) (l out : List Place) → FourNamed l → FourNamed out → FourNamed (unswap_from place put_place turn_place i o l out)
unfolding unswap_from
unswap-named i [] l out h k = k
unswap-named i (x ∷ o) l out h k = unswap-named (suc i) o l _ h (put-named (size x) _ out (turn-named (minus x) _ (place-named i l h)) k)

order-named : (back : Bool) (o : List ℤ) (l : List Place) → FourNamed l → FourNamed (reordered place put_place turn_place back o l)
unfolding reordered
order-named false o l h = swap-named 1 o l l h h
order-named true o l h = unswap-named 1 o l l h h

named-keeps : Keeps on_places FourNamed Named
named-keeps = record { column = place-named; store = put-named; order = order-named; adapt = λ mode back l t h. h }

named-begin : Holds FourNamed Named begin
unfolding Every
named-begin =
    let n : (i : ℕ) → 1 ≤ i → i ≤ 4 → Named (record { axis = i; minus = false }) = λ i a b. record { least = a; most = b } in
    record {
      tuples =
          record {
            are-four = refl;
            first = n 1 (lit≤ tt) (lit≤ tt);
            second = n 2 (lit≤ tt) (lit≤ tt);
            third = n 3 (lit≤ tt) (lit≤ tt);
            fourth = n 4 (lit≤ tt) (lit≤ tt);
          };
      columns = tt;
    }

-- After any steps, each of the four places and of the columns is from 1 to 4.
pub named-after : (l : List Numbered) → Holds FourNamed Named (after (moved on_places) l begin)
named-after l = after-keeps (moved on_places) (Holds FourNamed Named) (moved_keeps named-keeps) l begin named-begin
