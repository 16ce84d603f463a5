-- The depth after a step depends on the step and the depth before it alone, not on what is moved: a first pass without
-- numbers can tell refusals 16 and 17.
use Rattle.std.specs.Prelude.{◌≡◌, Bool, true, false, cond, length, Float}
use Rattle.std.proofs.Math.Path.{refl, ap}
use Rattle.std.proofs.Common.{◌∙◌, length-append, length-drop}
use Prim.Native.Nat.{ℕ, zero, suc, ◌+◌, ◌-◌, min}
use mathlib.Core.List.{List, [], ◌∷◌}
use native.Mathlib.Omega.{arith}
use Rattle.std.proofs.Math.ListN.{length-take}
use Rattle.rules.specs.Operators.Acts.{Act, pushes, pops, pops_all, flips, rolls, swaps, drops, orders, adapts}
use Rattle.rules.specs.Pipeline.Columns.{Machine, Kit, rolled_once, rolled, swapped_top, pushed, popped, topped, flipped, moved, too_few}
use Rattle.rules.specs.Pipeline.Tuples.{State, on_numbers, stored, drained, stomped, starved, acted_if, acted}
use Rattle.rules.specs.declared.Coord.{Coord}

-- the depth after a step that finds enough columns
unfoldable pub grown : Act → ℕ → ℕ
grown (pushes is) d = length is + d
grown (pops is) d = d - length is
grown (pops_all is) d = d - length is
grown (flips is) d = d
grown (rolls w n) d = d
grown swaps d = d
grown drops d = d
grown (orders back l) d = d
grown (adapts mode back l) d = d

-- the depth after a step that finds too few
unfoldable pub left : Act → ℕ → ℕ
left (pushes is) d = d
left (pops is) d = d - length is
left (pops_all is) d = d
left (flips is) d = d
left (rolls w n) d = d
left swaps d = d
left drops d = d
left (orders back l) d = d
left (adapts mode back l) d = d

-- the depth after a step of the run
unfoldable pub depth_after : Act → ℕ → ℕ
depth_after a d = cond (too_few a d) (left a d) (grown a d)

-- ---- columns alone

module _ {C : Type 0} where
  once-length : (m : ℕ) (l : List C) → length (rolled_once m l) ≡ length l
  unfolding rolled_once
  once-length m [] = refl
  once-length m (v ∷ l) = simp (length-append, length-take, length-drop) (fits (m - 1) (length l))
    where
      fits : (k n : ℕ) → min k n + suc (n - k) ≡ suc n
      fits k n = omega arith

  roll-length : (m n : ℕ) (l : List C) → length (rolled m n l) ≡ length l
  unfolding rolled
  roll-length m zero l = refl
  roll-length m (suc n) l = roll-length m n (rolled_once m l) ∙ once-length m l

  swap-length : (l : List C) → length (swapped_top l) ≡ length l
  unfolding swapped_top
  swap-length [] = refl
  swap-length (v ∷ []) = refl
  swap-length (v ∷ w ∷ l) = refl

-- ---- any kit

module _ {T C : Type 0} (k : Kit T C) where
  push-length : (is : List ℕ) (t : T) (l : List C) → length (pushed k is t l) ≡ length is + length l
  unfolding pushed
  push-length [] t l = omega arith
  push-length (i ∷ is) t l = omega (arith, push-length is t (k.column i t ∷ l))

  pop-length : (is : List ℕ) (t : T) (l : List C) → length (popped k is t l).columns ≡ length l - length is
  unfolding popped
  pop-length [] t l = omega arith
  pop-length (i ∷ is) t [] = omega arith
  pop-length (i ∷ is) t (v ∷ l) = omega (arith, pop-length is (k.store i v t) l)

  flip-length : (is : List ℕ) (t : T) (l : List C) → length (flipped k is t l).columns ≡ length l
  unfolding flipped topped
  flip-length [] t l = refl
  flip-length (i ∷ is) t [] = refl
  flip-length (i ∷ is) t (v ∷ l) = ap suc (flip-length is (k.store i v t) l)

  -- A step that finds enough columns: the numbers of the run and the places of the check grow alike.
  pub moved-depth : (a : Act) (m : Machine T C) → length (moved k a m).columns ≡ grown a (length m.columns)
  unfolding moved grown
  moved-depth (pushes is) m = push-length is m.tuples m.columns
  moved-depth (pops is) m = pop-length is m.tuples m.columns
  moved-depth (pops_all is) m = pop-length is m.tuples m.columns
  moved-depth (flips is) m = flip-length is m.tuples m.columns
  moved-depth (rolls w n) m = roll-length w n m.columns
  moved-depth swaps m = swap-length m.columns
  moved-depth drops m = refl
  moved-depth (orders back l) m = refl
  moved-depth (adapts mode back l) m = refl

-- ---- the run

drained-length : (is : List ℕ) (ts : List Coord) (l : List (List Float)) → length (drained is ts l).columns ≡ length l - length is
unfolding drained
drained-length [] ts l = omega arith
drained-length (i ∷ is) ts [] = omega arith
drained-length (i ∷ is) ts (v ∷ l) = omega (arith, drained-length is (stored i v ts) l)

starved-depth : (a : Act) (m : State) → length (starved a m).columns ≡ left a (length m.columns)
unfolding starved stomped left
starved-depth (pushes is) m = refl
starved-depth (pops is) m = drained-length is m.tuples m.columns
starved-depth (pops_all is) m = refl
starved-depth (flips is) m = refl
starved-depth (rolls w n) m = refl
starved-depth swaps m = refl
starved-depth drops m = refl
starved-depth (orders back l) m = refl
starved-depth (adapts mode back l) m = refl

-- A step of the run, whatever it finds.
pub acted-depth : (a : Act) (m : State) → length (acted a m).columns ≡ depth_after a (length m.columns)
unfolding acted acted_if depth_after
acted-depth a m = go (too_few a (length m.columns))
  where
    go : (b : Bool) → length (acted_if b a m).columns ≡ cond b (left a (length m.columns)) (grown a (length m.columns))
    go true = starved-depth a m
    go false = moved-depth on_numbers a m
