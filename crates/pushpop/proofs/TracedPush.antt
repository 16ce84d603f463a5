-- A push on signed places: what has been pushed after some of them.
use mathlib.Core.Path.{◌≡◌, refl, sym, ap, ◌∙◌}
use Prim.Native.Nat.{ℕ, suc, ◌+◌, ◌≤◌, ◌<◌, ◌-◌}
use mathlib.Core.List.{List, [], ◌∷◌}
use native.Mathlib.Omega.{arith}
use lib.IntN.{ℤ, pos}
use lib.ListN.{length, get_or, set, take, drop, length-set}
use lib.Seq.{take_all}
use Rattle.rules.specs.Operators.Arguments.{size, places}
use Rattle.rules.specs.Operators.Acts.{pushes}
use Rattle.rules.specs.Pipeline.Columns.{moved, pushed}
use Rattle.rules.specs.Pipeline.Check.{no_place, place, on_places}
use Rattle.rules.specs.declared.Place.{Place}
use Rattle.laws_steps.specs.PlacesOf.{places-more}
use Rattle.laws_steps.specs.Walk.{pushed_more}
use Rattle.laws_steps.specs.FourPlaces.{place_is}
use Rattle.columns.specs.declared.traced.Traced.{Traced}
use Rattle.columns.specs.Traces.{machine, Whole, Moved}
use Rattle.columns.proofs.StoredPlace.{drop-set}
use Rattle.numbers.specs.Axes.{AxisAt}

pub record Pushing (t : Traced) (l : List ℤ) (r : Traced) (i : ℕ) : Type 0 where
  pub kept : r.tuple ≡ t.tuple
  pub most : length r.columns ≡ 64
  pub count : r.top + i ≡ t.top
  pub ahead : i ≤ length l
  pub same : drop r.top r.columns ≡ pushed on_places (places (take i l)) t.tuple (drop t.top t.columns)

pub push-none : (t : Traced) (l : List ℤ) → Whole t → Pushing t l t 0
unfolding pushed places
push-none t l w = record { kept = refl; most = w.most; count = omega arith; ahead = omega arith; same = refl }

pub push-turn : {t r : Traced} {l : List ℤ} {i k : ℕ} → Pushing t l r i → i < length l → length l ≤ t.top → t.top ≤ 64 → AxisAt l i k
    → Pushing t l (record { tuple = r.tuple; columns = set r.columns (r.top - 1) (get_or r.tuple k no_place); top = r.top - 1 }) (i + 1)
unfolding pushed
push-turn {t} {r} {l} {i} {k} p h room within a =
    let v = get_or r.tuple k no_place in
    let c = r.columns in
    let before = drop t.top t.columns in
    let rest = pushed on_places (places (take i l)) t.tuple before in
    record {
      kept = p.kept;
      most = length-set c (r.top - 1) v ∙ p.most;
      count = omega (arith, p.count, h, room);
      ahead = omega (arith, h);
      same =
          drop-set c (r.top - 1) v (omega (arith, p.count, p.most, h, room, within))
          ∙ ap (λ (j : ℕ). v ∷ drop j c) (above r.top (omega (arith, p.count, h, room)))
          ∙ ap (λ (m : List Place). v ∷ m) p.same
          ∙ ap (λ (u : List Place). get_or u k no_place ∷ rest) p.kept
          ∙ ap (λ (x : Place). x ∷ rest) (sym (ap (λ (j : ℕ). place j t.tuple) a.named ∙ place_is t.tuple k a.below))
          ∙ sym (ap (λ (is : List ℕ). pushed on_places is t.tuple before) (places-more l i h)
          ∙ pushed_more on_places (places (take i l)) (size (get_or l i (pos 0)) ∷ []) t.tuple before);
    }
  where
    above : (top : ℕ) → 0 < top → suc (top - 1) ≡ top
    above top h = omega (arith, h)

pub push-end : {t r : Traced} {l : List ℤ} {i : ℕ} → Whole t → Pushing t l r i → length l ≤ i → Moved (pushes (places l)) t r
unfolding moved machine
push-end {t} {r} {l} {i} w p h =
    record {
      whole = record { four = ap length p.kept ∙ w.four; most = p.most; within = omega (arith, p.count, w.within) };
      same =
          ap (λ (u : List Place). record { tuples = u; columns = drop r.top r.columns }) p.kept
          ∙ ap (λ (c : List Place). record { tuples = t.tuple; columns = c })
          (p.same ∙ ap (λ (m : List ℤ). pushed on_places (places m) t.tuple (drop t.top t.columns)) (take_all i l h));
    }
