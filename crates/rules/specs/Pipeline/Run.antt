-- The run of a step table over a list and a column store.
use Rattle.rules.specs.declared.Refusal.{Refusal}
use Rattle.rules.specs.declared.Finished.{Finished}
use Rattle.rules.specs.Text.Refusal.{refusal}
use Rattle.std.specs.Prelude.{◌≡◌, ℕ, ◌-◌, ◌*◌, ◌/◌, ◌%◌, min, Bool, true, false, cond, not, ◌||◌, length, drop, replicate, ltb, eqb, pos, Float, Option, None, Some, Result, Ok}
use mathlib.Core.List.{List, [], ◌∷◌, ◌++◌, reverse, flat_map}
use Rattle.std.specs.Float.{fin}
use Rattle.rules.specs.Pipeline.Record.{refusal18}
use Rattle.rules.specs.Pipeline.Running.{Numbered, running}
use Rattle.rules.specs.Pipeline.Columns.{after, depths, deepest}
use Rattle.rules.specs.Pipeline.Tuples.{State, tuples, numbers, acted, counts}
use Rattle.rules.specs.declared.Step.{Step}
use Rattle.rules.specs.declared.Direction.{Direction}

-- "The count is the least over steps run, or the tuple count if none ran." No step counts more than the tuples, so the
-- least is taken from their number on.
unfoldable pub count_from : ℕ → List Numbered → State → ℕ
count_from c [] m = c
count_from c (s ∷ l) m = count_from (min c (counts s.does m)) l (acted s.does m)

unfoldable pub count : List Numbered → State → ℕ
count l m = count_from (length m.tuples) l m

-- 16: "depth would pass 64": the place of the first step after which there are more than 64 columns
unfoldable pub passes64 : List Numbered → State → Option ℕ
passes64 [] m = None
passes64 (s ∷ l) m =
    let m' = acted s.does m in
    let rest = passes64 l m' in
    cond (ltb 64 (length m'.columns)) (Some s.place) rest

-- 15: "list length not a multiple of 4, or over 65,536 tuples"
unfoldable pub bad_list : List Float → Bool
bad_list xs = not (eqb (length xs % 4) 0) || ltb 65536 (length xs / 4)

-- "After a run the columns left stand whole, bottom first, in the store, each tuple by tuple; the rest of deepest times
-- tuples is zero; beyond is untouched." `used` is deepest times tuples.
unfoldable pub store_after : ℕ → List (List Float) → List Float → List Float
store_after used columns store =
    let left = flat_map (λ (v : List Float). v) (reverse columns) in
    left ++ (replicate (used - length left) (fin false 0 (pos 0)) ++ drop used store)

-- an answer with this count and so many columns left
abbrev pub done : ℕ → ℕ → Result Finished Refusal
done count left = Ok (record { count = count; left = left })

-- what a run answers, and what it leaves in the list and in the store
pub record Outcome : Type 0 where
  pub answer : Result Finished Refusal
  pub list : List Float
  pub store : List Float

-- "A refusal leaves .. tuples and columns as they were at the call"
unfoldable pub refused : ℕ → ℕ → List Float → List Float → Outcome
refused number place xs store = record { answer = refusal number place; list = xs; store = store }

-- the tuples of the list, and no columns
abbrev pub start : List Float → State
start xs = record { tuples = tuples xs; columns = [] }

-- 17: "column store shorter than deepest times tuples"; else "The run also returns how many are left."
unfoldable pub finished : List Numbered → List Float → List Float → ℕ → Outcome
finished l xs store used =
    let end = after acted l (start xs) in
    cond (ltb (length store) used)
    (refused 17 0 xs store)
    (record {
      answer = done (count l (start xs)) (length end.columns);
      list = numbers end.tuples;
      store = store_after used end.columns store;
    })

unfoldable pub unless16 : Option ℕ → List Numbered → List Float → List Float → Outcome
unless16 (Some place) l xs store = refused 16 place xs store
unless16 None l xs store = finished l xs store (deepest (depths acted l (start xs)) * (length xs / 4))

unfoldable pub unless15 : Bool → List Numbered → List Float → List Float → Outcome
unless15 true l xs store = refused 15 0 xs store
unless15 false l xs store = unless16 (passes64 l (start xs)) l xs store

unfoldable pub unless18 : Option ℕ → Direction → List Step → List Float → List Float → Outcome
unless18 (Some place) d t xs store = refused 18 place xs store
unless18 None d t xs store = unless15 (bad_list xs) (running d t) xs store

-- "Run tries 18, 15, 16, 17."
unfoldable pub runs : Direction → List Step → List Float → List Float → Outcome
runs d t xs store = unless18 (refusal18 t) d t xs store

-- what a run promises of its result, the list and the store, before and after
pub record Runs (d : Direction) (t : List Step) (xs store : List Float) (result : Result Finished Refusal) (xs' store' : List Float) : Type 0 where
  pub exactly : ◌≡◌ {A = Outcome} (record { answer = result; list = xs'; store = store' }) (runs d t xs store)
