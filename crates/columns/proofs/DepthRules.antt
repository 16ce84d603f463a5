-- The depth rules of an act, by what the code has found out of it.
use mathlib.Core.Path.{◌≡◌, refl, sym, ap, ◌∙◌}
use Prim.Native.Nat.{ℕ, ◌+◌, ◌-◌, ◌<◌, ◌≤◌}
use mathlib.Core.Bool.{Bool, true, false, cond}
use mathlib.Core.List.{List, [], ◌∷◌}
use native.Mathlib.Omega.{arith}
use borrow.Author.Tests.{lt-ltb, le-ltb}
use lib.Dec.{ltb}
use lib.IntN.{ℤ}
use lib.ListN.{length, take}
use Rattle.rules.specs.Operators.Acts as rules
use Rattle.rules.specs.Operators.Arguments.{places}
use Rattle.rules.specs.Pipeline.Columns.{takes, too_few}
use Rattle.rules.specs.Pipeline.Tuples.{counts_none}
use Rattle.laws_steps.specs.Depth.{grown, left, depth_after}
use Rattle.laws_steps.specs.PlacesOf.{places-many}
use Rattle.columns.specs.Doings.{does, doing}
use Rattle.columns.specs.declared.acts.Act.{Act}
use Rattle.columns.specs.declared.acts.Act.TheVariants.{Pushes, Pops, PopsAll, Flips, Rolls, Swaps, Drops, Orders, Adapts}
use Rattle.columns.specs.declared.acts.Doing.{Doing}
use Rattle.columns.proofs.ActVariants.{By, Found, found}

module _ (l : List ℤ) where
  -- pop, pop all and flip
  pub takes-places : (a : Act) → Found (1 ∷ 2 ∷ 3 ∷ []) a → length (places l) ≡ takes (does a l)
  unfolding does takes
  takes-places a h = go a (found (1 ∷ 2 ∷ 3 ∷ []) a h)
    where
      go : (a : Act) → By (1 ∷ 2 ∷ 3 ∷ []) a → length (places l) ≡ takes (does a l)
      go Pushes h = absurd h
      go Pops h = refl
      go PopsAll h = refl
      go Flips h = refl
      go (Rolls m n) h = absurd h
      go Swaps h = absurd h
      go Drops h = absurd h
      go (Orders back) h = absurd h
      go (Adapts mode back) h = absurd h

  -- what asks for no column: a push, the exchange and the drop, a reordering and an adapting
  pub takes_none : (a : Act) → Found (0 ∷ 5 ∷ 6 ∷ 7 ∷ 8 ∷ []) a → 0 ≡ takes (does a l)
  unfolding does takes
  takes_none a h = go a (found (0 ∷ 5 ∷ 6 ∷ 7 ∷ 8 ∷ []) a h)
    where
      go : (a : Act) → By (0 ∷ 5 ∷ 6 ∷ 7 ∷ 8 ∷ []) a → 0 ≡ takes (does a l)
      go Pushes h = refl
      go Pops h = absurd h
      go PopsAll h = absurd h
      go Flips h = absurd h
      go (Rolls m n) h = absurd h
      go Swaps h = refl
      go Drops h = refl
      go (Orders back) h = refl
      go (Adapts mode back) h = refl

  -- all but swap and drop: where it finds too few columns
  pub counts-few : (depth : ℕ) (a : Act) → Found (0 ∷ 1 ∷ 2 ∷ 3 ∷ 4 ∷ 7 ∷ 8 ∷ []) a → ltb depth (takes (does a l)) ≡ counts_none (does a l) depth
  unfolding does takes counts_none too_few
  counts-few depth a h = go a (found (0 ∷ 1 ∷ 2 ∷ 3 ∷ 4 ∷ 7 ∷ 8 ∷ []) a h)
    where
      go : (a : Act) → By (0 ∷ 1 ∷ 2 ∷ 3 ∷ 4 ∷ 7 ∷ 8 ∷ []) a → ltb depth (takes (does a l)) ≡ counts_none (does a l) depth
      go Pushes h = le-ltb depth 0 (omega arith)
      go Pops h = refl
      go PopsAll h = refl
      go Flips h = refl
      go (Rolls m n) h = refl
      go Swaps h = absurd h
      go Drops h = absurd h
      go (Orders back) h = le-ltb depth 0 (omega arith)
      go (Adapts mode back) h = le-ltb depth 0 (omega arith)

  same : (b : Bool) (x : ℕ) → cond b x x ≡ x
  same true x = refl
  same false x = refl

  -- a flip, a roll, the exchange and the drop, a reordering and an adapting leave as many columns as they find
  pub depth-stays : (depth : ℕ) (a : Act) → Found (3 ∷ 4 ∷ 5 ∷ 6 ∷ 7 ∷ 8 ∷ []) a → depth ≡ depth_after (does a l) depth
  unfolding does depth_after grown left
  depth-stays depth a h = go a (found (3 ∷ 4 ∷ 5 ∷ 6 ∷ 7 ∷ 8 ∷ []) a h)
    where
      go : (a : Act) → By (3 ∷ 4 ∷ 5 ∷ 6 ∷ 7 ∷ 8 ∷ []) a → depth ≡ depth_after (does a l) depth
      go Pushes h = absurd h
      go Pops h = absurd h
      go PopsAll h = absurd h
      go Flips h = sym (same (too_few (rules.flips (places l)) depth) depth)
      go (Rolls m n) h = sym (same (too_few (rules.rolls m n) depth) depth)
      go Swaps h = sym (same (too_few rules.swaps depth) depth)
      go Drops h = sym (same (too_few rules.drops depth) depth)
      go (Orders back) h = sym (same (too_few (rules.orders back l) depth) depth)
      go (Adapts mode back) h = sym (same (too_few (rules.adapts mode back l) depth) depth)

-- ---- of a doing

module _ (d : Doing) (full : length d.args ≡ 8) (few : d.n ≤ 8) where
  pub long : length (places (take d.n d.args)) ≡ d.n
  long = places-many d.args d.n (omega (arith, full, few))

  -- of the act that a match found
  by : {x : Act} {A : Type 0} (f : rules.Act → A) → d.act ≡ x → f (does x (take d.n d.args)) ≡ f (doing d)
  unfolding doing
  by f e = sym (ap (λ (a : Act). f (does a (take d.n d.args))) e)

  module _ (depth : ℕ) where
    deep : rules.Act → ℕ
    deep a = depth_after a depth

    pub after-pushes : d.act ≡ Pushes → d.n + depth ≡ depth_after (doing d) depth
    unfolding depth_after does grown left too_few takes deep
    after-pushes e = rw (le-ltb depth 0 (omega arith)) (ap (λ (n : ℕ). n + depth) (sym long)) ∙ by deep e

    pub after-pops : d.act ≡ Pops → depth - d.n ≡ depth_after (doing d) depth
    unfolding depth_after does grown left deep
    after-pops e = ap (λ (n : ℕ). depth - n) (sym long) ∙ sym (same (take d.n d.args) (too_few (rules.pops (places (take d.n d.args))) depth) _) ∙ by deep e

    pub after-pops_all-few : d.act ≡ PopsAll → depth < d.n → depth ≡ depth_after (doing d) depth
    unfolding depth_after does grown left too_few takes deep
    after-pops_all-few e h = rw (long, lt-ltb depth d.n h) refl ∙ by deep e

    pub after-pops_all : d.act ≡ PopsAll → d.n ≤ depth → depth - d.n ≡ depth_after (doing d) depth
    unfolding depth_after does grown left too_few takes deep
    after-pops_all e h = rw (long, le-ltb depth d.n h) refl ∙ by deep e
