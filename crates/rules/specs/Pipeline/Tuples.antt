-- One step on tuples and columns of numbers.
use Rattle.std.specs.Prelude.{ℕ, Bool, true, false, cond, List, [], ◌∷◌, map, length, eqb, Float}
use Rattle.std.specs.Float.{nan}
use Rattle.rules.specs.Operators.Numbers.{number, put}
use Rattle.rules.specs.Operators.Axisswap.{swapped}
use Rattle.rules.specs.Operators.Documented.{adapted_in}
use Rattle.rules.specs.Operators.Acts.{Act, pushes, pops, pops_all, flips, rolls, swaps, drops, orders, adapts}
use Rattle.rules.specs.Pipeline.Columns.{Machine, Kit, moved, too_few}
use Rattle.rules.specs.declared.Coord.{Coord}

-- ---- "a list is four numbers per tuple"

-- (up to three numbers at the end are in no tuple)
unfoldable pub tuples : List Float → List Coord
tuples [] = []
tuples (a ∷ []) = []
tuples (a ∷ b ∷ []) = []
tuples (a ∷ b ∷ c ∷ []) = []
tuples (a ∷ b ∷ c ∷ d ∷ l) = record { a = a; b = b; c = c; d = d } ∷ tuples l

unfoldable pub numbers : List Coord → List Float
numbers [] = []
numbers (t ∷ ts) = t.a ∷ t.b ∷ t.c ∷ t.d ∷ numbers ts

-- ---- a step on tuples and columns of numbers

abbrev pub State : Type 0
State = Machine (List Coord) (List Float)

-- number i of every tuple, and every tuple with its number of a column as number i
unfoldable pub column : ℕ → List Coord → List Float
column i ts = map (number i) ts

unfoldable pub stored : ℕ → List Float → List Coord → List Coord
stored i v [] = []
stored i [] (t ∷ ts) = t ∷ ts
stored i (x ∷ v) (t ∷ ts) = put i x t ∷ stored i v ts

abbrev pub on_numbers : Kit (List Coord) (List Float)
on_numbers =
    record {
      column = column;
      store = stored;
      order = λ back l ts. map (swapped back l) ts;
      adapt = λ mode back l ts. map (adapted_in mode back l) ts;
    }

-- pop: "on an empty stack that axis is NaN for all tuples, the step stops"
unfoldable pub drained : List ℕ → List Coord → List (List Float) → State
drained [] ts l = record { tuples = ts; columns = l }
drained (i ∷ is) ts [] = record { tuples = map (put i nan) ts; columns = [] }
drained (i ∷ is) ts (v ∷ l) = drained is (stored i v ts) l

-- stack: "too few columns, or fewer than m for a roll, make every number NaN .., columns untouched"
unfoldable pub stomped : State → State
stomped m =
    record {
      tuples = map (λ (t : Coord). record { a = nan; b = nan; c = nan; d = nan }) m.tuples;
      columns = m.columns;
    }

-- a step that finds too few columns (push, swap, drop, axisswap and adapt take none, and never do)
unfoldable pub starved : Act → State → State
starved (pushes is) m = m
starved (pops is) m = drained is m.tuples m.columns
starved (pops_all is) m = stomped m
starved (flips is) m = stomped m
starved (rolls w n) m = stomped m
starved swaps m = m
starved drops m = m
starved (orders back l) m = m
starved (adapts mode back l) m = m

unfoldable pub acted_if : Bool → Act → State → State
acted_if true a m = starved a m
acted_if false a m = moved on_numbers a m

-- what one step does
unfoldable pub acted : Act → State → State
acted a m = acted_if (too_few a (length m.columns)) a m

-- Does the step count 0? Where it finds too few columns; "swap .. counts 0 only on an empty stack. drop .. counts 0."
unfoldable pub counts_none : Act → ℕ → Bool
counts_none (pushes is) depth = false
counts_none (pops is) depth = too_few (pops is) depth
counts_none (pops_all is) depth = too_few (pops_all is) depth
counts_none (flips is) depth = too_few (flips is) depth
counts_none (rolls w n) depth = too_few (rolls w n) depth
counts_none swaps depth = eqb depth 0
counts_none drops depth = true
counts_none (orders back l) depth = false
counts_none (adapts mode back l) depth = false

unfoldable pub counts : Act → State → ℕ
counts a m = cond (counts_none a (length m.columns)) 0 (length m.tuples)
