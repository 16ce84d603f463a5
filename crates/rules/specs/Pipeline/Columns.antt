-- Tuples and columns, the top column first, and how a step moves them where it finds enough columns. The run moves
-- numbers; the check moves signed places in the same way.
use Rattle.std.specs.Prelude.{ℕ, zero, suc, ◌-◌, max, Bool, List, [], ◌∷◌, ◌++◌, length, take, drop, ltb, ℤ}
use Rattle.rules.specs.Operators.Acts.{Act, pushes, pops, pops_all, flips, rolls, swaps, drops, orders, adapts}
use Rattle.rules.specs.Pipeline.Running.{Numbered}
use Rattle.rules.specs.declared.Mode.{Mode}

pub record Machine (T C : Type 0) : Type 0 where
  pub tuples : T
  pub columns : List C

-- how tuples T give and take a column C at a place, and how they are reordered and adapted
pub record Kit (T C : Type 0) : Type 0 where
  pub column : ℕ → T → C
  pub store : ℕ → C → T → T
  pub order : Bool → List ℤ → T → T
  pub adapt : Mode → Bool → List ℤ → T → T

-- ---- columns alone

module _ {C : Type 0} where
  -- "The top column goes under the top m"
  unfoldable pub rolled_once : ℕ → List C → List C
  rolled_once m [] = []
  rolled_once m (v ∷ l) = take (m - 1) l ++ (v ∷ drop (m - 1) l)

  -- "n times"
  unfoldable pub rolled : ℕ → ℕ → List C → List C
  rolled m zero l = l
  rolled m (suc n) l = rolled m n (rolled_once m l)

  -- "swap does nothing below two columns"
  unfoldable pub swapped_top : List C → List C
  swapped_top [] = []
  swapped_top (v ∷ []) = v ∷ []
  swapped_top (v ∷ w ∷ l) = w ∷ v ∷ l

-- ---- tuples and columns

module _ {T C : Type 0} (k : Kit T C) where
  -- push: the number at each place, in this order, becomes the top column
  unfoldable pub pushed : List ℕ → T → List C → List C
  pushed [] t l = l
  pushed (i ∷ is) t l = pushed is t (k.column i t ∷ l)

  -- pop: the top column goes into each place, in this order (a step with too few columns is not moved so: see `too_few`)
  unfoldable pub popped : List ℕ → T → List C → Machine T C
  popped [] t l = record { tuples = t; columns = l }
  popped (i ∷ is) t [] = record { tuples = t; columns = [] }
  popped (i ∷ is) t (v ∷ l) = popped is (k.store i v t) l

  -- one column more, on top
  unfoldable pub topped : C → Machine T C → Machine T C
  topped v m = record { tuples = m.tuples; columns = v ∷ m.columns }

  -- flip: each place, in this order, exchanged with its column, the top one first
  unfoldable pub flipped : List ℕ → T → List C → Machine T C
  flipped [] t l = record { tuples = t; columns = l }
  flipped (i ∷ is) t [] = record { tuples = t; columns = [] }
  flipped (i ∷ is) t (v ∷ l) = topped (k.column i t) (flipped is (k.store i v t) l)

  -- what a step does where it finds enough columns; drop "does nothing"
  unfoldable pub moved : Act → Machine T C → Machine T C
  moved (pushes is) m = record { tuples = m.tuples; columns = pushed is m.tuples m.columns }
  moved (pops is) m = popped is m.tuples m.columns
  moved (pops_all is) m = popped is m.tuples m.columns
  moved (flips is) m = flipped is m.tuples m.columns
  moved (rolls w n) m = record { tuples = m.tuples; columns = rolled w n m.columns }
  moved swaps m = record { tuples = m.tuples; columns = swapped_top m.columns }
  moved drops m = m
  moved (orders back l) m = record { tuples = k.order back l m.tuples; columns = m.columns }
  moved (adapts mode back l) m = record { tuples = k.adapt mode back l m.tuples; columns = m.columns }

-- ---- too few columns

-- how many columns a step takes; swap and drop: "Neither takes columns."
unfoldable pub takes : Act → ℕ
takes (pushes is) = 0
takes (pops is) = length is
takes (pops_all is) = length is
takes (flips is) = length is
takes (rolls w n) = w
takes swaps = 0
takes drops = 0
takes (orders back l) = 0
takes (adapts mode back l) = 0

-- does a step that finds `depth` columns find "fewer columns than it takes"?
unfoldable pub too_few : Act → ℕ → Bool
too_few a depth = ltb depth (takes a)

-- ---- steps one after the other

module _ {T C : Type 0} (f : Act → Machine T C → Machine T C) where
  -- the machine after the last step
  unfoldable pub after : List Numbered → Machine T C → Machine T C
  after [] m = m
  after (s ∷ l) m = after l (f s.does m)

  -- "the depth after each step"
  unfoldable pub depths : List Numbered → Machine T C → List ℕ
  depths [] m = []
  depths (s ∷ l) m = let m' = f s.does m in length m'.columns ∷ depths l m'

-- the deepest of them, 0 if there is none
unfoldable pub deepest : List ℕ → ℕ
deepest [] = 0
deepest (d ∷ l) = max d (deepest l)
