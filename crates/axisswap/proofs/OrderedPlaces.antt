-- Four places reordered, one argument after the other.
use mathlib.Core.Path.{◌≡◌, refl, sym, ap, ◌∙◌}
use Prim.Native.Nat.{ℕ, ◌+◌, ◌≤◌, ◌<◌}
use mathlib.Core.Bool.{Bool, true, false}
use mathlib.Core.List.{List}
use native.Mathlib.Omega.{arith}
use native.Mathlib.Numerals.{add-one}
use lib.IntN.{ℤ, pos}
use lib.ListN.{length, get_or, set, take, drop, length-set}
use lib.Seq.{take_all}
use Rattle.rules.specs.Text.Decimal.{minus}
use Rattle.rules.specs.Operators.Arguments.{size}
use Rattle.rules.specs.Operators.Axisswap.{swap_from, unswap_from, reordered}
use Rattle.rules.specs.Pipeline.Check.{no_place, place, put_place, turn_place}
use Rattle.rules.specs.declared.Place.{Place}
use Rattle.laws_steps.specs.Walk.{swap-turn, unswap-turn}
use Rattle.numbers.specs.Axes.{AxisAt}
use Rattle.axisswap.specs.Places.{Ordered}
use Rattle.rules.specs.Operators.Acts.{orders}
use Rattle.rules.specs.Pipeline.Columns.{moved}
use Rattle.columns.specs.Traces.{machine, Whole, Moved}
use Rattle.columns.specs.declared.traced.Traced.{Traced}
use Rattle.laws_steps.specs.FourPlaces.{place_is, put_is}

-- the arguments so far, forward or back
pub record Sorting (from : ℕ → List ℤ → List Place → List Place → List Place) (l : List ℤ) (tuple out : List Place) (i : ℕ) : Type 0 where
  pub four : length out ≡ 4
  pub ahead : i ≤ length l
  pub same : out ≡ from 1 (take i l) tuple tuple

abbrev pub Swapping : List ℤ → List Place → List Place → ℕ → Type 0
Swapping = Sorting (swap_from place put_place turn_place)

abbrev pub Unswapping : List ℤ → List Place → List Place → ℕ → Type 0
Unswapping = Sorting (unswap_from place put_place turn_place)

pub swap-none : (l : List ℤ) (tuple : List Place) → length tuple ≡ 4 → Swapping l tuple tuple 0
unfolding swap_from
swap-none l tuple e = record { four = e; ahead = omega arith; same = refl }

pub unswap-none : (l : List ℤ) (tuple : List Place) → length tuple ≡ 4 → Unswapping l tuple tuple 0
unfolding unswap_from
unswap-none l tuple e = record { four = e; ahead = omega arith; same = refl }

module _ {l : List ℤ} {tuple out : List Place} {i k : ℕ} {b : Bool} {p : Place} (h : i < length l) (few : length l ≤ 4) (a : AxisAt l i k)
    (sign : b ≡ minus (get_or l i (pos 0))) where
  pub swap-next : Swapping l tuple out i → p ≡ turn_place b (get_or tuple k no_place) → Swapping l tuple (set out i p) (i + 1)
  swap-next s made =
      record {
        four = length-set out i p ∙ s.four;
        ahead = omega (arith, h);
        same =
            swap-turn place put_place turn_place i l (pos 0) tuple out (set out i p) h s.same
            (sym (put_is out p i s.four (omega (arith, h, few)))
            ∙ ap (λ (n : ℕ). put_place n p out) (sym (add-one i))
            ∙ ap (λ (q : Place). put_place (i + 1) q out)
            (made
            ∙ ap (λ (c : Bool). turn_place c (get_or tuple k no_place)) sign
            ∙ ap (turn_place (minus (get_or l i (pos 0)))) (sym (ap (λ (n : ℕ). place n tuple) a.named ∙ place_is tuple k a.below))));
      }

  pub unswap-next : Unswapping l tuple out i → p ≡ turn_place b (get_or tuple i no_place) → Unswapping l tuple (set out k p) (i + 1)
  unswap-next s made =
      record {
        four = length-set out k p ∙ s.four;
        ahead = omega (arith, h);
        same =
            unswap-turn place put_place turn_place i l (pos 0) tuple out (set out k p) h s.same
            (sym (put_is out p k s.four a.below)
            ∙ ap (λ (n : ℕ). put_place n p out) (sym a.named)
            ∙ ap (λ (q : Place). put_place (size (get_or l i (pos 0))) q out)
            (made
            ∙ ap (λ (c : Bool). turn_place c (get_or tuple i no_place)) sign
            ∙ ap (turn_place (minus (get_or l i (pos 0)))) (sym (ap (λ (n : ℕ). place n tuple) (add-one i) ∙ place_is tuple i (omega (arith, h, few))))));
      }

pub swap-all : {l : List ℤ} {tuple out : List Place} {i : ℕ} → Swapping l tuple out i → length l ≤ i → Ordered false l tuple out
unfolding reordered
swap-all {l} {tuple} {out} {i} s h = record { four = s.four; same = s.same ∙ ap (λ (m : List ℤ). swap_from place put_place turn_place 1 m tuple tuple) (take_all i l h) }

pub unswap-all : {l : List ℤ} {tuple out : List Place} {i : ℕ} → Unswapping l tuple out i → length l ≤ i → Ordered true l tuple out
unfolding reordered
unswap-all {l} {tuple} {out} {i} s h = record { four = s.four; same = s.same ∙ ap (λ (m : List ℤ). unswap_from place put_place turn_place 1 m tuple tuple) (take_all i l h) }

-- the four places are reordered, and nothing else
pub order-so : {t : Traced} {back : Bool} {l : List ℤ} {out : List Place} → Whole t → Ordered back l t.tuple out
    → Moved (orders back l) t (record { tuple = out; columns = t.columns; top = t.top })
unfolding moved machine
order-so {t} {back} {l} {out} w o =
    record {
      whole = record { four = o.four; most = w.most; within = w.within };
      same = ap (λ (u : List Place). record { tuples = u; columns = drop t.top t.columns }) o.same;
    }
