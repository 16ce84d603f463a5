-- A flip on signed places: what has been exchanged after some of them.
use mathlib.Core.Path.{◌≡◌, refl, sym, ap, ◌∙◌}
use Prim.Native.Nat.{ℕ, suc, ◌+◌, ◌≤◌, ◌<◌}
use mathlib.Core.List.{List}
use native.Mathlib.Nat.{add-zero, add_assoc}
use native.Mathlib.Omega.{arith}
use lib.IntN.{ℤ, pos}
use lib.ListN.{length, get_or, set, take, drop, length-set, length-drop}
use lib.Seq.{drop-drop, drop-set-lt, drop-set-add, get_or-drop, take_all}
use Rattle.rules.specs.Operators.Arguments.{size, places}
use Rattle.rules.specs.Operators.Acts.{flips}
use Rattle.rules.specs.Pipeline.Columns.{Machine, moved, flipped}
use Rattle.rules.specs.Pipeline.Check.{no_place, place, put_place, on_places}
use Rattle.rules.specs.declared.Place.{Place}
use Rattle.laws_steps.specs.PlacesOf.{places-many, places-more}
use Rattle.laws_steps.specs.Walk.{flipped-more}
use Rattle.laws_steps.specs.FourPlaces.{place_is, put_is}
use Rattle.columns.specs.declared.traced.Traced.{Traced}
use Rattle.columns.specs.Traces.{machine, Whole, Moved}
use Rattle.numbers.specs.Axes.{AxisAt}

pub record Flipping (tuple₀ columns₀ : List Place) (top : ℕ) (l : List ℤ) (tuple columns : List Place) (i : ℕ) : Type 0 where
  pub four : length tuple ≡ 4
  pub most : length columns ≡ 64
  pub ahead : i ≤ length l
  pub untouched : drop (top + i) columns ≡ drop (top + i) columns₀
  pub same : record { tuples = tuple; columns = drop top columns } ≡ flipped on_places (places (take i l)) tuple₀ (drop top columns₀)

pub flip-none : (tuple columns : List Place) (top : ℕ) (l : List ℤ) → length tuple ≡ 4 → length columns ≡ 64 → Flipping tuple columns top l tuple columns 0
unfolding flipped places
flip-none tuple columns top l e f = record { four = e; most = f; ahead = omega arith; untouched = refl; same = refl }

pub flip-turn : {tuple₀ columns₀ tuple columns : List Place} {top i k : ℕ} {l : List ℤ} → Flipping tuple₀ columns₀ top l tuple columns i
    → i < length l → top + length l ≤ 64 → length columns₀ ≡ 64 → AxisAt l i k
    → Flipping tuple₀ columns₀ top l (set tuple k (get_or columns (top + i) no_place)) (set columns (top + i) (get_or tuple k no_place)) (i + 1)
unfolding flipped
flip-turn {tuple₀} {columns₀} {tuple} {columns} {top} {i} {k} {l} p h room most a =
    let v = get_or columns (top + i) no_place in
    let x = get_or tuple k no_place in
    let is = places (take i l) in
    let j = size (get_or l i (pos 0)) in
    let m = flipped on_places is tuple₀ (drop top columns₀) in
    let so-many : length is ≡ i = places-many l i p.ahead in
    let deep : length is < length (drop top columns₀) = rw (length-drop, so-many, most) (omega (arith, h, room)) in
    let old : v ≡ get_or (drop top columns₀) i no_place =
    first columns (top + i) no_place
    ∙ ap (λ (r : List Place). get_or r 0 no_place) p.untouched
    ∙ sym (first columns₀ (top + i) no_place)
    ∙ sym (get_or-drop top columns₀ i no_place) in
    record {
      four = length-set tuple k v ∙ p.four;
      most = length-set columns (top + i) x ∙ p.most;
      ahead = omega (arith, h);
      untouched =
          drop-set-lt (top + (i + 1)) columns (top + i) x (omega arith)
          ∙ further columns
          ∙ ap (drop 1) p.untouched
          ∙ sym (further columns₀);
      same =
          ap (λ (u : List Place). record { tuples = u; columns = drop top (set columns (top + i) x) }) (sym (put_is tuple v k p.four a.below))
          ∙ ap (λ (c : List Place). record { tuples = put_place (suc k) v tuple; columns = c }) (drop-set-add top columns i x)
          ∙ ap (λ (y : Place). record { tuples = put_place (suc k) v tuple; columns = set (drop top columns) i y }) (sym (place_is tuple k a.below))
          ∙ ap (λ (n : ℕ). record { tuples = put_place n v tuple; columns = set (drop top columns) i (place n tuple) }) (sym a.named)
          ∙ ap (λ (m : Machine (List Place) Place). record { tuples = put_place j v m.tuples; columns = set m.columns i (place j m.tuples) }) p.same
          ∙ ap (λ (y : Place). record { tuples = put_place j y m.tuples; columns = set m.columns i (place j m.tuples) }) old
          ∙ ap (λ (n : ℕ). record { tuples = put_place j (get_or (drop top columns₀) n no_place) m.tuples; columns = set m.columns n (place j m.tuples) })
          (sym so-many)
          ∙ sym (flipped-more on_places is j no_place tuple₀ (drop top columns₀) deep)
          ∙ sym (ap (λ (ks : List ℕ). flipped on_places ks tuple₀ (drop top columns₀)) (places-more l i h));
    }
  where
    first : (c : List Place) (n : ℕ) (d : Place) → get_or c n d ≡ get_or (drop n c) 0 d
    first c n d = sym (get_or-drop n c 0 d ∙ ap (λ (m : ℕ). get_or c m d) (add-zero n))

    further : (c : List Place) → drop (top + (i + 1)) c ≡ drop 1 (drop (top + i) c)
    further c = ap (λ (n : ℕ). drop n c) (sym (add_assoc top i 1)) ∙ sym (drop-drop 1 (top + i) c)

-- the same of the whole machine, whose top stays
pub record Flips (t : Traced) (l : List ℤ) (r : Traced) (i : ℕ) : Type 0 where
  pub top : r.top ≡ t.top
  pub own : Flipping t.tuple t.columns t.top l r.tuple r.columns i

pub flips-none : (t : Traced) (l : List ℤ) → Whole t → Flips t l t 0
flips-none t l w = record { top = refl; own = flip-none t.tuple t.columns t.top l w.four w.most }

pub flips-turn : {t r : Traced} {l : List ℤ} {i k : ℕ} → Flips t l r i → i < length l → t.top + length l ≤ 64 → Whole t → AxisAt l i k
    → Flips t l (record { tuple = set r.tuple k (get_or r.columns (t.top + i) no_place); columns = set r.columns (t.top + i) (get_or r.tuple k no_place); top = r.top }) (i + 1)
flips-turn p h room w a = record { top = p.top; own = flip-turn p.own h room w.most a }

pub flips-end : {t r : Traced} {l : List ℤ} {i : ℕ} → Whole t → Flips t l r i → length l ≤ i → Moved (flips (places l)) t r
unfolding moved machine
flips-end {t} {r} {l} {i} w f h =
    let p = f.own in
    record {
      whole = record { four = p.four; most = p.most; within = omega (arith, f.top, w.within) };
      same =
          ap (λ (n : ℕ). record { tuples = r.tuple; columns = drop n r.columns }) f.top
          ∙ p.same ∙ ap (λ (m : List ℤ). flipped on_places (places m) t.tuple (drop t.top t.columns)) (take_all i l h);
    }
