-- What a function leaves in list and store is what an act does: the depth after it need not be looked up, it is that of
-- the columns.
use mathlib.Core.Path.{◌≡◌, refl, sym, ap, ◌∙◌, subst}
use Prim.Native.Nat.{ℕ, ◌*◌, ◌/◌, ◌<◌, ◌≤◌, max}
use mathlib.Core.Bool.{Bool}
use mathlib.Core.List.{List, map}
use borrow.Author.Tests.{lt-ltb, le-ltb}
use lib.Ieee.{Float}
use lib.ListN.{length, drop}
use Rattle.rules.specs.Operators.Acts.{Act}
use Rattle.rules.specs.Pipeline.Columns.{moved, takes, too_few}
use Rattle.rules.specs.Pipeline.Tuples.{State, tuples, on_numbers, stomped, starved, acted_if, acted}
use Rattle.rules.specs.declared.Coord.{Coord}
use Rattle.laws_steps.specs.Depth.{depth_after, acted-depth}
use Rattle.laws_steps.specs.Verdict.{acted-moved}
use Rattle.columns.specs.Coords.{no_tuple}
use Rattle.columns.specs.Stores.{columns_of, held}
use Rattle.columns.specs.Machine.{Acted}
use Rattle.columns.proofs.InStore.{held-depth}

module _ (a : Act) (d : ℕ) (xs s : List Float) where
  abbrev before : State
  before = held xs s d

  -- e columns stand there after it
  pub acted-so : (e : ℕ) (xs' s' : List Float) → held xs' s' e ≡ acted a before
      → drop (max d e * (length xs / 4)) s' ≡ drop (max d e * (length xs / 4)) s → Acted a d xs s xs' s'
  acted-so e xs' s' h k =
      let deep : e ≡ depth_after a d =
      sym (held-depth xs' s' e)
      ∙ ap (λ (m : State). length m.columns) h
      ∙ acted-depth a before
      ∙ ap (depth_after a) (held-depth xs s d) in
      record {
        machine = ap (held xs' s') (sym deep) ∙ h;
        beyond = subst (λ (z : ℕ). drop (max d z * (length xs / 4)) s' ≡ drop (max d z * (length xs / 4)) s) deep k;
      }

  -- an act that finds enough columns
  pub enough-so : takes a ≤ d → acted a before ≡ moved on_numbers a before
  unfolding too_few
  enough-so h = acted-moved a before (le-ltb (length before.columns) (takes a) (subst (λ (z : ℕ). takes a ≤ z) (sym (held-depth xs s d)) h))

  -- one that finds too few
  pub few-so : d < takes a → acted a before ≡ starved a before
  unfolding acted acted_if starved too_few
  few-so h = ap (λ (b : Bool). acted_if b a before) (lt-ltb (length before.columns) (takes a) (subst (λ (z : ℕ). z < takes a) (sym (held-depth xs s d)) h))

  -- the tuples alone are changed
  pub tuples-so : (f : List Coord → List Coord) (xs' : List Float) → acted a before ≡ record { tuples = f (tuples xs); columns = before.columns }
      → length xs' ≡ length xs → tuples xs' ≡ f (tuples xs) → Acted a d xs s xs' s
  unfolding held
  tuples-so f xs' gone len did =
      acted-so d xs' s ((λ i. record { tuples = did i; columns = columns_of (len i / 4) d s }) ∙ sym gone) refl

  -- every number is NaN
  pub stomped-so : (xs' : List Float) → d < takes a → starved a before ≡ stomped before
      → length xs' ≡ length xs → tuples xs' ≡ map (λ (_ : Coord). no_tuple) (tuples xs) → Acted a d xs s xs' s
  unfolding stomped held
  stomped-so xs' h g len did = tuples-so (map (λ (_ : Coord). no_tuple)) xs' (few-so h ∙ g) len did
