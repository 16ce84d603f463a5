-- The run keeps lengths: the tuples stay as many, each column has one number for each tuple, and list and store stay as
-- long as they were.
use Rattle.std.specs.Prelude.{◌≡◌, refl, ℕ, suc, ◌*◌, ◌/◌, ◌%◌, max, ◌≤◌, Bool, length, Float}
use Rattle.std.proofs.Common.{sym, ap, ◌∙◌, zero-mul, suc-mul, mul-le-mul_right, arith, length-append, length-drop}
use Rattle.std.proofs.Math.Bool.{true, false}
use mathlib.Core.List.{List, [], ◌∷◌, reverse, reverse_aux, flat_map}
use Rattle.std.proofs.Math.ListN.{length-map}
use Rattle.std.proofs.lemmas.List.{length-replicate, length-reverse}
use Rattle.rules.specs.Operators.Acts.{Act, pushes, pops, pops_all, flips, rolls, swaps, drops, orders, adapts}
use Rattle.rules.specs.Pipeline.Running.{Numbered}
use Rattle.rules.specs.Pipeline.Columns.{too_few, after, depths, deepest}
use Rattle.rules.specs.Pipeline.Tuples.{State, tuples, numbers, column, stored, on_numbers, drained, stomped, starved, acted_if, acted}
use Rattle.rules.specs.Pipeline.Run.{start, store_after}
use Rattle.rules.specs.declared.Coord.{Coord}
use Rattle.laws_lists.specs.Lists.{Every}
use Rattle.laws_steps.specs.Keeps.{Holds, Keeps, moved_keeps, after-keeps}

-- ---- the list and its tuples

pub tuples-length : (xs : List Float) → length (tuples xs) ≡ length xs / 4
unfolding tuples
tuples-length [] = refl
tuples-length (a ∷ []) = refl
tuples-length (a ∷ b ∷ []) = refl
tuples-length (a ∷ b ∷ c ∷ []) = refl
tuples-length (a ∷ b ∷ c ∷ d ∷ l) = omega (arith, tuples-length l)

pub numbers-length : (ts : List Coord) → length (numbers ts) ≡ 4 * length ts
unfolding numbers
numbers-length [] = refl
numbers-length (t ∷ ts) = omega (arith, numbers-length ts)

-- a list of whole tuples is their numbers
pub numbers-tuples : (xs : List Float) → length xs % 4 ≡ 0 → numbers (tuples xs) ≡ xs
unfolding numbers tuples
numbers-tuples [] h = refl
numbers-tuples (a ∷ []) h = absurd (none h)
  where
    none : ◌≡◌ {A = ℕ} 1 0 → ⊥
    none h = omega arith
numbers-tuples (a ∷ b ∷ []) h = absurd (none h)
  where
    none : ◌≡◌ {A = ℕ} 2 0 → ⊥
    none h = omega arith
numbers-tuples (a ∷ b ∷ c ∷ []) h = absurd (none h)
  where
    none : ◌≡◌ {A = ℕ} 3 0 → ⊥
    none h = omega arith
numbers-tuples (a ∷ b ∷ c ∷ d ∷ l) h = rw (numbers-tuples l (omega arith))

-- ---- the tuples and the columns

pub stored-length : (i : ℕ) (v : List Float) (ts : List Coord) → length (stored i v ts) ≡ length ts
unfolding stored
stored-length i v [] = refl
stored-length i [] (t ∷ ts) = refl
stored-length i (x ∷ v) (t ∷ ts) = ap suc (stored-length i v ts)

module _ (n : ℕ) where
  -- n tuples
  abbrev pub Many : List Coord → Type 0
  Many ts = length ts ≡ n

  -- a column of n numbers
  abbrev pub Long : List Float → Type 0
  Long v = length v ≡ n

  long-keeps : Keeps on_numbers Many Long
  unfolding column
  long-keeps =
      record {
        column = λ i ts h. length-map ts _ ∙ h;
        store = λ i v ts q h. stored-length i v ts ∙ h;
        order = λ back l ts h. length-map ts _ ∙ h;
        adapt = λ mode back l ts h. length-map ts _ ∙ h;
      }

  drained-long : (is : List ℕ) (ts : List Coord) (l : List (List Float)) → Many ts → Every Long l → Holds Many Long (drained is ts l)
  unfolding drained Every
  drained-long [] ts l p q = record { tuples = p; columns = q }
  drained-long (i ∷ is) ts [] p q = record { tuples = length-map ts _ ∙ p; columns = tt }
  drained-long (i ∷ is) ts (v ∷ l) p q = drained-long is (stored i v ts) l (stored-length i v ts ∙ p) q.1

  stomped-long : (m : State) → Holds Many Long m → Holds Many Long (stomped m)
  unfolding stomped
  stomped-long m h = record { tuples = length-map m.tuples _ ∙ h.tuples; columns = h.columns }

  starved-long : (a : Act) (m : State) → Holds Many Long m → Holds Many Long (starved a m)
  unfolding starved
  starved-long (pushes is) m h = h
  starved-long (pops is) m h = drained-long is m.tuples m.columns h.tuples h.columns
  starved-long (pops_all is) m h = stomped-long m h
  starved-long (flips is) m h = stomped-long m h
  starved-long (rolls w k) m h = stomped-long m h
  starved-long swaps m h = h
  starved-long drops m h = h
  starved-long (orders back l) m h = h
  starved-long (adapts mode back l) m h = h

  pub acted-long : (a : Act) (m : State) → Holds Many Long m → Holds Many Long (acted a m)
  unfolding acted acted_if
  acted-long a m h = go (too_few a (length m.columns))
    where
      go : (b : Bool) → Holds Many Long (acted_if b a m)
      go true = starved-long a m h
      go false = moved_keeps long-keeps a m h

-- After any steps there are as many tuples as the list has, and each column has one number for each.
pub run_long : (l : List Numbered) (xs : List Float) → Holds (Many (length xs / 4)) (Long (length xs / 4)) (after acted l (start xs))
unfolding Every
run_long l xs =
    after-keeps acted (Holds (Many (length xs / 4)) (Long (length xs / 4))) (acted-long (length xs / 4)) l (start xs)
    (record { tuples = tuples-length xs; columns = tt })

-- The list stays as long as it was.
pub list_length : (l : List Numbered) (xs : List Float) → length xs % 4 ≡ 0 → length (numbers (after acted l (start xs)).tuples) ≡ length xs
list_length l xs h = omega (arith, numbers-length (after acted l (start xs)).tuples, (run_long l xs).tuples)

-- ---- the store

-- the columns one after the other
flat-length : (n : ℕ) (l : List (List Float)) → Every (Long n) l → length (flat_map (λ (v : List Float). v) l) ≡ length l * n
unfolding Every flat_map
flat-length n [] h = sym (zero-mul n)
flat-length n (v ∷ l) h = length-append v (flat_map (λ (v : List Float). v) l) ∙ omega (arith, h.0, flat-length n l h.1, suc-mul (length l) n)

every-reverse : (n : ℕ) (l r : List (List Float)) → Every (Long n) l → Every (Long n) r → Every (Long n) (reverse_aux l r)
unfolding Every
every-reverse n [] r h k = k
every-reverse n (v ∷ l) r h k = every-reverse n l (v ∷ r) h.1 (h.0, k)

-- no more columns are left than there were at the deepest
pub left-deepest : (l : List Numbered) (m : State) → length (after acted l m).columns ≤ max (deepest (depths acted l m)) (length m.columns)
unfolding after depths deepest
left-deepest [] m = omega arith
left-deepest (s ∷ l) m = omega (arith, left-deepest l (acted s.does m))

columns-store : (n used : ℕ) (columns : List (List Float)) (store : List Float) → Every (Long n) columns → length columns * n ≤ used → used ≤ length store
    → length (store_after used columns store) ≡ length store
unfolding store_after Every
columns-store n used columns store h k r =
    let left = flat_map (λ (v : List Float). v) (reverse columns) in
    let e : length left ≡ length columns * n = flat-length n (reverse columns) (every-reverse n columns [] h tt) ∙ ap (λ (x : ℕ). x * n) (length-reverse columns) in
    simp (length-append, length-replicate, length-drop) (omega arith)

-- The store of a run that has room for the deepest stays as long as it was.
pub store_length : (l : List Numbered) (xs store : List Float) → deepest (depths acted l (start xs)) * (length xs / 4) ≤ length store
    → length (store_after (deepest (depths acted l (start xs)) * (length xs / 4)) (after acted l (start xs)).columns store) ≡ length store
store_length l xs store h =
    let n = length xs / 4 in
    let few : length (after acted l (start xs)).columns ≤ deepest (depths acted l (start xs)) = omega (arith, left-deepest l (start xs)) in
    columns-store n (deepest (depths acted l (start xs)) * n) (after acted l (start xs)).columns store (run_long l xs).columns (mul-le-mul_right n few) h
