-- How large the numbers can be that the check answers: the place of a step is one of the table's, and after a pass no depth is above 64.
use Rattle.std.specs.Prelude.{◌≡◌, refl, ℕ, suc, ◌+◌, ◌≤◌, max, Bool, true, false, cond, List, [], ◌∷◌, length, ltb, Float, None, Some}
use Rattle.std.proofs.Common.{arith, ltb-false}
use Rattle.rules.specs.Pipeline.Running.{Numbered, act, omitted, ordered, running_from, running}
use Rattle.rules.specs.Pipeline.Columns.{after, depths, deepest}
use Rattle.rules.specs.Pipeline.Tuples.{State, acted}
use Rattle.rules.specs.Pipeline.Run.{start, passes64}
use Rattle.rules.specs.Pipeline.Check.{check}
use Rattle.rules.specs.Face.Demands.{FirstAtFault}
use Rattle.rules.specs.declared.Step.{Step}
use Rattle.rules.specs.declared.Direction.{Direction}
use Rattle.rules.specs.declared.Direction.TheVariants.{Forward, Inverse}
use Rattle.rules.specs.declared.Verdict.TheVariants.{Passes, TooFew, TooMany}
use Rattle.laws_lists.specs.Lists.{Every, every_append, every-middle}
use Rattle.laws_lists.specs.Tests.{never}
use Rattle.laws_steps.specs.Foretold.{foretells}
use Rattle.laws_steps.specs.Exactly.{few-exactly, many-exactly}

-- ---- the places of the steps that run

every-ordered : (P : Numbered → Type 0) (d : Direction) (k : Numbered) (l : List Numbered) → P k → Every P l → Every P (ordered d k l)
unfolding Every ordered
every-ordered P Forward k l h r = (h, r)
every-ordered P Inverse k l h r = every_append P l (k ∷ []) r (h, tt)

-- a step at one of the places up to the last
abbrev UpTo : ℕ → Numbered → Type 0
UpTo last s = s.place ≤ last

running-within : (last place : ℕ) (d : Direction) (l : List Step) → place + length l ≤ suc last → Every (UpTo last) (running_from place d l)
unfolding Every running_from
running-within last place d [] h = tt
running-within last place d (s ∷ l) h = go (omitted d s) (running-within last (suc place) d l (omega arith))
  where
    here : Numbered
    here = record { place = place; does = act d s }

    go : (b : Bool) → Every (UpTo last) (running_from (suc place) d l) → Every (UpTo last) (cond b (running_from (suc place) d l) (ordered d here (running_from (suc place) d l)))
    go true r = r
    go false r = every-ordered (UpTo last) d here (running_from (suc place) d l) (omega arith) r

module _ (d : Direction) (t : List Step) where
  first-within : {fault : List Numbered → Numbered → Type 0} {k : ℕ} {xs : List Float} → FirstAtFault fault k (running d t) xs → k ≤ length t
  unfolding running
  first-within f =
      rw (← f.at_place)
      (every-middle (UpTo (length t)) f.before f.step f.rest (rw f.in_order at (running-within (length t) 1 d t (omega arith))))

  -- a check that fails names a step of the table
  pub few-within : (k : ℕ) → (check d t).verdict ≡ TooFew k → k ≤ length t
  few-within k h = first-within ((few-exactly d t [] k).0 h).1

  pub many-within : (k : ℕ) → (check d t).verdict ≡ TooMany k → k ≤ length t
  many-within k h = first-within ((many-exactly d t [] k).0 h).1

-- ---- the depths of a pass

-- where no step leaves more than 64 columns, none is deeper
none-deeper : (l : List Numbered) (m : State) → length m.columns ≤ 64 → passes64 l m ≡ None
    → (deepest (depths acted l m) ≤ 64) × (length (after acted l m).columns ≤ 64)
unfolding passes64 depths deepest after
none-deeper [] m h e = (omega arith, h)
none-deeper (s ∷ l) m h e = go (ltb 64 (length m'.columns)) refl e (none-deeper l m')
  where
    m' : State
    m' = acted s.does m

    go : (b : Bool) → ltb 64 (length m'.columns) ≡ b → cond b (Some s.place) (passes64 l m') ≡ None
        → (length m'.columns ≤ 64 → passes64 l m' ≡ None → (deepest (depths acted l m') ≤ 64) × (length (after acted l m').columns ≤ 64))
        → (max (length m'.columns) (deepest (depths acted l m')) ≤ 64) × (length (after acted l m').columns ≤ 64)
    go true f e r = absurd (never (cc e))
    go false f e r = let k = ltb-false 64 (length m'.columns) f in let g = r k e in (omega (arith, g.0), g.1)

pub pass-within : (d : Direction) (t : List Step) → (check d t).verdict ≡ Passes → ((check d t).deepest ≤ 64) × ((check d t).left ≤ 64)
pass-within d t h =
    let f = foretells d t [] h in
    let g = none-deeper (running d t) (start []) (omega arith) f.within in
    (rw (← f.deepest-after) g.0, rw (← f.left_after) g.1)
