-- A loop that reads each tuple of a list, changes it and puts it back: what it has done after some turns, and at the end.
use mathlib.Core.Path.{◌≡◌, refl, sym, ◌∙◌}
use Prim.Native.Nat.{ℕ, ◌+◌, ◌/◌, ◌<◌, ◌≤◌}
use mathlib.Core.List.{List}
use native.Mathlib.Omega.{arith}
use lib.Ieee.{Float}
use lib.ListN.{length, get_or, set}
use Rattle.rules.specs.Pipeline.Tuples.{tuples}
use Rattle.rules.specs.declared.Coord.{Coord}
use Rattle.laws_steps.specs.Lengths.{tuples-length}
use Rattle.columns.specs.Coords.{no_tuple}
use Rattle.columns.proofs.Firsts.{each_from, firsts_from, firsts-none, firsts-turn, firsts-all}

-- f has changed the first k tuples, each by its place and itself, and the others are as they were
pub record Each (f : ℕ → Coord → Coord) (xs₀ xs : List Float) (k : ℕ) : Type 0 where
  pub changed : tuples xs ≡ firsts_from 0 k f (tuples xs₀)
  pub same_length : length xs ≡ length xs₀

pub each_none : (f : ℕ → Coord → Coord) (xs : List Float) → Each f xs xs 0
each_none f xs = record { changed = sym (firsts-none 0 f (tuples xs)); same_length = refl }

pub each_turn : {f : ℕ → Coord → Coord} {xs₀ xs xs' : List Float} {k : ℕ} {x y : Coord} → Each f xs₀ xs k → k < length xs₀ / 4
    → x ≡ get_or (tuples xs) k no_tuple → y ≡ f k x → length xs' ≡ length xs → tuples xs' ≡ set (tuples xs) k y → Each f xs₀ xs' (k + 1)
each_turn {f} {xs₀} {xs} {xs'} {k} {x} {y} e h read made len put =
    record {
      changed = firsts-turn k f (tuples xs₀) (tuples xs) (tuples xs') no_tuple x y e.changed (omega (arith, tuples-length xs₀)) read made put;
      same_length = len ∙ e.same_length;
    }

pub each-end : {f : ℕ → Coord → Coord} {xs₀ xs : List Float} {k : ℕ} → Each f xs₀ xs k → length xs₀ / 4 ≤ k → tuples xs ≡ each_from 0 f (tuples xs₀)
each-end {f} {xs₀} {xs} {k} e h = e.changed ∙ firsts-all 0 k f (tuples xs₀) (omega (arith, tuples-length xs₀))
