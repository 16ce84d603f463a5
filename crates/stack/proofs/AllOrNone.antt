-- An action that finds too few columns makes every number NaN; one that finds enough does what the operator `pop` would.
use mathlib.Core.Path.{◌≡◌, refl, sym, ◌∙◌}
use Prim.Native.Nat.{ℕ, ◌<◌, ◌≤◌}
use mathlib.Core.List.{List, map}
use native.Mathlib.Omega.{arith}
use lib.ListN.{length}
use lib.IntN.{ℤ}
use lib.Ieee.{Float}
use Rattle.rules.specs.Operators.Acts.{pops, pops_all, flips, rolls}
use Rattle.rules.specs.Operators.Arguments.{places}
use Rattle.rules.specs.Pipeline.Columns.{moved, takes}
use Rattle.rules.specs.Pipeline.Tuples.{tuples, starved}
use Rattle.rules.specs.declared.Coord.{Coord}
use Rattle.laws_steps.specs.Depth.{depth_after}
use Rattle.laws_steps.specs.PlacesOf.{places-length}
use Rattle.columns.specs.Coords.{no_tuple}
use Rattle.columns.specs.Machine.{Acted}
use Rattle.columns.proofs.Acted.{acted-so, enough-so, stomped-so}

module _ (d : ℕ) (xs s xs' : List Float) (len : length xs' ≡ length xs) (h : tuples xs' ≡ map (λ (_ : Coord). no_tuple) (tuples xs)) where
  pub pop-all-few : (l : List ℤ) → d < length l → Acted (pops_all (places l)) d xs s xs' s
  unfolding takes starved
  pop-all-few l few = stomped-so (pops_all (places l)) d xs s xs' (omega (arith, places-length l)) refl len h

  pub flip-few : (l : List ℤ) → d < length l → Acted (flips (places l)) d xs s xs' s
  unfolding takes starved
  flip-few l few = stomped-so (flips (places l)) d xs s xs' (omega (arith, places-length l)) refl len h

  pub roll-few : (m n : ℕ) → d < m → Acted (rolls m n) d xs s xs' s
  unfolding takes starved
  roll-few m n few = stomped-so (rolls m n) d xs s xs' few refl len h

-- a pop that finds enough columns
pub pop-all-acted : (l : List ℤ) (d : ℕ) (xs s xs' s' : List Float) → length l ≤ d → Acted (pops (places l)) d xs s xs' s' → Acted (pops_all (places l)) d xs s xs' s'
unfolding takes moved
pop-all-acted l d xs s xs' s' enough h =
    acted-so (pops_all (places l)) d xs s (depth_after (pops (places l)) d) xs' s'
    (h.machine
    ∙ enough-so (pops (places l)) d xs s (omega (arith, places-length l))
    ∙ sym (enough-so (pops_all (places l)) d xs s (omega (arith, places-length l))))
    h.beyond
