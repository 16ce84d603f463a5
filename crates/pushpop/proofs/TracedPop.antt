-- A pop on signed places: what has been popped after some of them.
use mathlib.Core.Path.{◌≡◌, refl, sym, ap, ◌∙◌}
use Prim.Native.Nat.{ℕ, suc, ◌+◌, ◌≤◌, ◌<◌}
use mathlib.Core.List.{List, [], ◌∷◌}
use native.Mathlib.Omega.{arith}
use native.Mathlib.Numerals.{add-one}
use lib.IntN.{ℤ, pos}
use lib.ListN.{length, get_or, set, take, drop, length-set}
use lib.Seq.{drop-cons, take_all}
use Rattle.rules.specs.Operators.Arguments.{size, places}
use Rattle.rules.specs.Operators.Acts.{pops}
use Rattle.rules.specs.Pipeline.Columns.{Machine, moved, popped}
use Rattle.rules.specs.Pipeline.Check.{no_place, put_place, on_places}
use Rattle.rules.specs.declared.Place.{Place}
use Rattle.laws_steps.specs.PlacesOf.{places-more}
use Rattle.laws_steps.specs.Walk.{popped-more}
use Rattle.laws_steps.specs.FourPlaces.{put_is}
use Rattle.columns.specs.declared.traced.Traced.{Traced}
use Rattle.columns.specs.Traces.{machine, Whole, Moved}
use Rattle.numbers.specs.Axes.{AxisAt}

pub record Popping (t : Traced) (l : List ℤ) (r : Traced) (i : ℕ) : Type 0 where
  pub kept : r.columns ≡ t.columns
  pub four : length r.tuple ≡ 4
  pub count : r.top ≡ t.top + i
  pub ahead : i ≤ length l
  pub same : machine r ≡ popped on_places (places (take i l)) t.tuple (drop t.top t.columns)

pub pop-none : (t : Traced) (l : List ℤ) → Whole t → Popping t l t 0
unfolding popped places machine
pop-none t l w = record { kept = refl; four = w.four; count = omega arith; ahead = omega arith; same = refl }

pub pop-turn : {t r : Traced} {l : List ℤ} {i k : ℕ} → Popping t l r i → i < length l → t.top + length l ≤ 64 → Whole t → AxisAt l i k
    → Popping t l (record { tuple = set r.tuple k (get_or r.columns r.top no_place); columns = r.columns; top = r.top + 1 }) (i + 1)
unfolding popped machine
pop-turn {t} {r} {l} {i} {k} p h room w a =
    let c = r.columns in
    let top = r.top in
    let v = get_or c top no_place in
    let is = places (take i l) in
    let j = size (get_or l i (pos 0)) in
    let under : top < length c = omega (arith, p.count, h, room, ap length p.kept, w.most) in
    record {
      kept = p.kept;
      four = length-set r.tuple k v ∙ p.four;
      count = omega (arith, p.count);
      ahead = omega (arith, h);
      same =
          ap (λ (n : ℕ). record { tuples = set r.tuple k v; columns = drop n c }) (add-one top)
          ∙ ap (λ (u : List Place). record { tuples = u; columns = drop (suc top) c }) (sym (put_is r.tuple v k p.four a.below))
          ∙ ap (λ (n : ℕ). record { tuples = put_place n v r.tuple; columns = drop (suc top) c }) (sym a.named)
          ∙ sym (ap (popped on_places (j ∷ []) r.tuple) (drop-cons c top no_place under))
          ∙ ap (λ (m : Machine (List Place) Place). popped on_places (j ∷ []) m.tuples m.columns) p.same
          ∙ sym (popped-more on_places is (j ∷ []) t.tuple (drop t.top t.columns))
          ∙ sym (ap (λ (ks : List ℕ). popped on_places ks t.tuple (drop t.top t.columns)) (places-more l i h));
    }

pub pop-end : {t r : Traced} {l : List ℤ} {i : ℕ} → Whole t → Popping t l r i → length l ≤ i → t.top + length l ≤ 64 → Moved (pops (places l)) t r
unfolding moved machine
pop-end {t} {r} {l} {i} w p h room =
    record {
      whole = record { four = p.four; most = ap length p.kept ∙ w.most; within = omega (arith, p.count, p.ahead, room) };
      same = p.same ∙ ap (λ (m : List ℤ). popped on_places (places m) t.tuple (drop t.top t.columns)) (take_all i l h);
    }
