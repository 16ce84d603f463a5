-- The walk over a table, one step further.
use mathlib.Core.Path.{◌≡◌, refl, ap, ◌∙◌}
use Prim.Native.Nat.{ℕ, suc, ◌+◌, ◌-◌, ◌<◌, ◌≤◌}
use mathlib.Core.Bool.{cond}
use mathlib.Core.List.{List, [], ◌∷◌}
use native.Mathlib.Omega.{arith}
use native.Mathlib.Numerals.{add-one}
use lib.ListN.{length, get_or, take, drop, drop_of_length-le}
use lib.Seq.{take-suc, drop-cons, take-length, length-take-le}
use Rattle.rules.specs.Pipeline.Running.{act, omitted, running_from, running}
use Rattle.rules.specs.declared.Step.{Step}
use Rattle.rules.specs.declared.Direction.{Direction}
use Rattle.rules.specs.declared.Direction.TheVariants.{Forward, Inverse}
use Rattle.laws_steps.specs.Walk.{running-first, running-last}
use Rattle.record.specs.Visits.{visited, left_from}

-- before the first step, all are left
pub left-all : (d : Direction) (l : List Step) → left_from d 0 l ≡ running d l
unfolding left_from running
left-all Forward l = refl
left-all Inverse l = ap (λ (n : ℕ). running_from 1 Inverse (take n l)) (whole (length l)) ∙ ap (running_from 1 Inverse) (take-length l)
  where
    whole : (n : ℕ) → n - 0 ≡ n
    whole n = omega arith

-- after the last, none
pub left-none : (d : Direction) (l : List Step) (i : ℕ) → length l ≤ i → left_from d i l ≡ []
unfolding left_from running_from
left-none Forward l i h = ap (running_from (suc i) Forward) (drop_of_length-le l {i = i} h)
left-none Inverse l i h = ap (λ (n : ℕ). running_from 1 Inverse (take n l)) (none (length l) i h)
  where
    none : (n i : ℕ) → n ≤ i → n - i ≡ 0
    none n i h = omega (arith, h)

-- the next one
pub left-next : (d : Direction) (l : List Step) (i : ℕ) (z : Step) → i < length l
    → left_from d i l
    ≡ cond (omitted d (get_or l (visited d i (length l)) z)) (left_from d (i + 1) l)
    (record { place = visited d i (length l) + 1; does = act d (get_or l (visited d i (length l)) z) } ∷ left_from d (i + 1) l)
unfolding left_from visited
left-next Forward l i z h =
    ap (running_from (suc i) Forward) (drop-cons l i z h)
    ∙ rw (add-one i) (running-first (suc i) (get_or l i z) (drop (suc i) l))
left-next Inverse l i z h =
    let k = length l - 1 - i in
    let s = get_or l k z in
    ap (λ (n : ℕ). running_from 1 Inverse (take n l)) (more (length l) i h)
    ∙ ap (running_from 1 Inverse) (take-suc l k z (below (length l) i h))
    ∙ running-last 1 (take k l) s
    ∙ rw (length-take-le k l (under (length l) i), one k, last (length l) i) refl
  where
    more : (n i : ℕ) → i < n → n - i ≡ suc (n - 1 - i)
    more n i h = omega (arith, h)

    below : (n i : ℕ) → i < n → n - 1 - i < n
    below n i h = omega (arith, h)

    under : (n i : ℕ) → n - 1 - i ≤ n
    under n i = omega arith

    one : (k : ℕ) → 1 + k ≡ k + 1
    one k = omega arith

    last : (n i : ℕ) → n - (i + 1) ≡ n - 1 - i
    last n i = omega arith
