-- The depths of a run: what a pass without numbers tells of refusals 16 and 17.
use Rattle.rules.specs.declared.Refusal.{Refusal}
use Rattle.rules.specs.declared.Finished.{Finished}
use Rattle.std.specs.Prelude.{◌≡◌, ℕ, ◌*◌, ◌/◌, ◌≤◌, max, min, Bool, false, cond, List, [], ◌∷◌, length, drop, ltb, Float, Option, None, Some, Result}
use Rattle.rules.specs.Pipeline.Running.{act, Numbered, omitted}
use Rattle.rules.specs.Pipeline.Tuples.{State, acted, counts_none}
use Rattle.rules.specs.Pipeline.Columns.{after}
use Rattle.rules.specs.Pipeline.Run.{start, count, Outcome}
use Rattle.rules.specs.declared.Step.{Step}
use Rattle.rules.specs.declared.Direction.{Direction}
use Rattle.laws_steps.specs.Depth.{depth_after}
use Rattle.columns.specs.Stores.{held}
use Rattle.pipeline.specs.declared.Stood.{Stood}

-- ---- one step, which may be omitted

unfoldable pub depth_stepped : Direction → Step → ℕ → ℕ
depth_stepped d s depth = cond (omitted d s) depth (depth_after (act d s) depth)

unfoldable pub stepped : Direction → Step → State → State
stepped d s m = cond (omitted d s) m (acted (act d s) m)

-- does it count none of the tuples?
unfoldable pub none_stepped : Direction → Step → ℕ → Bool
none_stepped d s depth = cond (omitted d s) false (counts_none (act d s) depth)

-- the count after it, from the count before; `tuples` is their number
unfoldable pub count_stepped : Direction → Step → ℕ → ℕ → ℕ → ℕ
count_stepped d s depth tuples count = cond (omitted d s) count (min count (cond (counts_none (act d s) depth) 0 tuples))

-- ---- the depths of a run that finds `depth` columns

-- 16: the place of the first step after which there are more than 64
unfoldable pub passes_from : List Numbered → ℕ → Option ℕ
passes_from [] depth = None
passes_from (s ∷ l) depth =
    let d = depth_after s.does depth in
    let rest = passes_from l d in
    cond (ltb 64 d) (Some s.place) rest

unfoldable pub deepest_from : List Numbered → ℕ → ℕ
deepest_from [] depth = 0
deepest_from (s ∷ l) depth = max (depth_after s.does depth) (deepest_from l (depth_after s.does depth))

-- ---- the run

-- what a step of the table leaves in list and store: the machine, and the store untouched beyond
pub record Stepped (d : Direction) (s : Step) (depth : ℕ) (xs store xs' store' : List Float) : Type 0 where
  pub machine : held xs' store' (depth_stepped d s depth) ≡ stepped d s (held xs store depth)
  pub beyond : drop (max depth (depth_stepped d s depth) * (length xs / 4)) store' ≡ drop (max depth (depth_stepped d s depth) * (length xs / 4)) store

-- and what is known after it
pub record Stands (d : Direction) (s : Step) (depth : ℕ) (xs store xs' store' : List Float) (r : Stood) : Type 0 where
  pub deep : r.depth ≡ depth_stepped d s depth
  pub counts : r.none ≡ none_stepped d s depth
  pub leaves : Stepped d s depth xs store xs' store'

-- what a call answers and leaves is a given outcome
pub record Gives (o : Outcome) (result : Result Finished Refusal) (xs store : List Float) : Type 0 where
  pub exactly : ◌≡◌ {A = Outcome} (record { answer = result; list = xs; store = store }) o

-- what the steps of a run leave, `deepest` columns deep at the most: the machine, the count, and the store untouched beyond
pub record Ends (l : List Numbered) (deepest : ℕ) (xs store : List Float) (c left : ℕ) (xs' store' : List Float) : Type 0 where
  pub machine : held xs' store' left ≡ after acted l (start xs)
  pub counted : c ≡ count l (start xs)
  pub low : left ≤ deepest
  pub beyond : drop (deepest * (length xs / 4)) store' ≡ drop (deepest * (length xs / 4)) store
