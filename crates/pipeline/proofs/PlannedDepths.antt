-- The walk over a table's steps in running order, and the depths that it tells.
use Rattle.std.specs.Prelude.{None, Some}
use mathlib.Core.Path.{◌≡◌, refl, sym, ap, subst, ◌∙◌}
use Prim.Native.Nat.{ℕ, ◌+◌, ◌*◌, ◌/◌, ◌<◌, ◌≤◌, max}
use mathlib.Core.Bool.{Bool, true, false, cond}
use mathlib.Core.List.{List, [], ◌∷◌}
use native.Mathlib.Omega.{arith}
use borrow.Author.Tests.{lt-ltb, le-ltb}
use lib.Dec.{ltb}
use lib.ListN.{length, get_or, take}
use lib.Seq.{get_or-take}
use lib.Ieee.{Float}
use Rattle.rules.specs.Pipeline.Record.{made, refusal18, listed}
use Rattle.rules.specs.Pipeline.Running.{Numbered, act, omitted, running}
use Rattle.rules.specs.Pipeline.Columns.{depths, deepest}
use Rattle.rules.specs.Pipeline.Tuples.{State, acted}
use Rattle.rules.specs.Pipeline.Run.{passes64}
use Rattle.rules.specs.declared.Step.{Step}
use Rattle.rules.specs.declared.Table.{Table}
use Rattle.rules.specs.declared.Direction.{Direction}
use Rattle.laws_lists.specs.Tests.{never}
use Rattle.laws_steps.specs.Depth.{depth_after, acted-depth}
use Rattle.record.specs.Visits.{visited, left_from}
use Rattle.record.proofs.SoundTable.{sound-so}
use Rattle.record.proofs.RunningOrder.{left-all, left-none, left-next}
use Rattle.pipeline.specs.Plans.{depth_stepped, passes_from, deepest_from}

-- ---- a table that is not refused 18

module _ (t : Table) (full : length t.steps ≡ 64) (h : refusal18 (listed t) ≡ None) where
  pub table-few : t.n ≤ 64
  table-few = (sound-so t full h).few

  pub table-steps : listed t ≡ take t.n t.steps
  table-steps = (sound-so t full h).rows

  pub steps-length : length (take t.n t.steps) ≡ t.n
  steps-length = (sound-so t full h).many

  pub table-made : (k : ℕ) (x : Step) → k < t.n → made (get_or t.steps k x) ≡ true
  table-made k x b = (sound-so t full h).each k x b

-- a run over no tuples has room in any store
pub no_room : (depth : ℕ) (xs s : List Float) → length xs ≡ 0 → depth * (length xs / 4) ≤ length s
no_room depth xs s e = subst (λ (n : ℕ). depth * (n / 4) ≤ length s) (sym e) (omega arith)

-- ---- the depths of the written run

pub passes_same : (l : List Numbered) (m : State) → passes64 l m ≡ passes_from l (length m.columns)
unfolding passes64 passes_from
passes_same [] m = refl
passes_same (s ∷ l) m =
    let e = acted-depth s.does m in
    (λ i. cond (ltb 64 (e i)) (Some s.place) ((passes_same l (acted s.does m) ∙ ap (passes_from l) e) i))

pub deepest-same : (l : List Numbered) (m : State) → deepest (depths acted l m) ≡ deepest_from l (length m.columns)
unfolding depths deepest deepest_from
deepest-same [] m = refl
deepest-same (s ∷ l) m =
    let e = acted-depth s.does m in
    λ i. max (e i) ((deepest-same l (acted s.does m) ∙ ap (deepest_from l) e) i)

-- ---- the pass over the steps

-- i steps have been visited
pub record Planning (d : Direction) (l : List Step) (depth deepest i : ℕ) : Type 0 where
  pub passes : passes_from (running d l) 0 ≡ passes_from (left_from d i l) depth
  pub deep : deepest_from (running d l) 0 ≡ max deepest (deepest_from (left_from d i l) depth)
  pub within : depth ≤ 64
  pub below : depth ≤ deepest
  pub upto : i ≤ length l

module _ (d : Direction) (l : List Step) where
  pub plan-none : Planning d l 0 0 0
  plan-none =
      record {
        passes = ap (λ (r : List Numbered). passes_from r 0) (sym (left-all d l));
        deep = ap (λ (r : List Numbered). deepest_from r 0) (sym (left-all d l)) ∙ own (deepest_from (left_from d 0 l) 0);
        within = omega arith;
        below = omega arith;
        upto = omega arith;
      }
    where
      own : (n : ℕ) → n ≡ max 0 n
      own n = omega arith

  module _ (depth deep i : ℕ) (x : Step) (inv : Planning d l depth deep i) (h : i < length l) where
    abbrev s : Step
    s = get_or l (visited d i (length l)) x

    -- what is left, where the step is omitted, and where it runs
    passes-next : (depth' : ℕ) → depth' ≤ 64 → (b : Bool) → depth' ≡ cond b depth (depth_after (act d s) depth) → (r : List Numbered) (k : ℕ)
        → passes_from (cond b r (record { place = k; does = act d s } ∷ r)) depth ≡ passes_from r depth'
    unfolding passes_from
    passes-next depth' w true e r k = ap (passes_from r) (sym e)
    passes-next depth' w false e r k = rw (← e, le-ltb 64 depth' w)

    deepest-next : (depth' : ℕ) (b : Bool) → depth' ≡ cond b depth (depth_after (act d s) depth) → (r : List Numbered) (k : ℕ)
        → max deep (deepest_from (cond b r (record { place = k; does = act d s } ∷ r)) depth) ≡ max (max deep depth') (deepest_from r depth')
    unfolding deepest_from
    deepest-next depth' true e r k = rw e (omega (arith, inv.below))
    deepest-next depth' false e r k = rw (← e) (omega arith)

    passes_over : (depth' : ℕ) → 64 < depth' → (b : Bool) → depth' ≡ cond b depth (depth_after (act d s) depth) → (r : List Numbered) (k : ℕ)
        → passes_from (cond b r (record { place = k; does = act d s } ∷ r)) depth ≡ Some k
    unfolding passes_from
    passes_over depth' w true e r k = absurd (never (omega (arith, inv.within, e)))
    passes_over depth' w false e r k = rw (← e, lt-ltb 64 depth' w)

    pub plan-turn : (depth' deep' : ℕ) → depth' ≡ depth_stepped d s depth → depth' ≤ 64 → deep' ≡ max deep depth' → Planning d l depth' deep' (i + 1)
    unfolding depth_stepped
    plan-turn depth' deep' e w f =
        let next = left-next d l i x h in
        let r = left_from d (i + 1) l in
        let k = visited d i (length l) + 1 in
        record {
          passes = inv.passes ∙ ap (λ (z : List Numbered). passes_from z depth) next ∙ passes-next depth' w (omitted d s) e r k;
          deep =
              inv.deep
              ∙ ap (λ (z : List Numbered). max deep (deepest_from z depth)) next
              ∙ deepest-next depth' (omitted d s) e r k
              ∙ ap (λ (z : ℕ). max z (deepest_from r depth')) (sym f);
          within = w;
          below = omega arith;
          upto = omega arith;
        }

    pub plan-over : (depth' k : ℕ) → depth' ≡ depth_stepped d s depth → 64 < depth' → k ≡ visited d i (length l)
        → passes_from (running d l) 0 ≡ Some (k + 1)
    unfolding depth_stepped
    plan-over depth' k e w f =
        inv.passes
        ∙ ap (λ (z : List Numbered). passes_from z depth) (left-next d l i x h)
        ∙ passes_over depth' w (omitted d s) e (left_from d (i + 1) l) (visited d i (length l) + 1)
        ∙ ap (λ (z : ℕ). Some (z + 1)) (sym f)

  pub plan-end : (depth deep i : ℕ) → Planning d l depth deep i → length l ≤ i → (passes_from (running d l) 0 ≡ None) × (deep ≡ deepest_from (running d l) 0)
  unfolding passes_from deepest_from
  plan-end depth deep i inv h =
      let e = left-none d l i h in
      let p : passes_from (running d l) 0 ≡ None = inv.passes ∙ ap (λ (z : List Numbered). passes_from z depth) e in
      let q : deepest_from (running d l) 0 ≡ deep = inv.deep ∙ ap (λ (z : List Numbered). max deep (deepest_from z depth)) e ∙ own deep in
      (p, sym q)
    where
      own : (n : ℕ) → max n 0 ≡ n
      own n = omega arith

-- ---- the same of a table

module _ (t : Table) (full : length t.steps ≡ 64) (h : refusal18 (listed t) ≡ None) (d : Direction) where
  abbrev steps : List Step
  steps = take t.n t.steps

  -- the step that the code reads
  pub step_is : (i k : ℕ) (x : Step) → k ≡ visited d i t.n → k < t.n → get_or t.steps k x ≡ get_or steps (visited d i (length steps)) x
  step_is i k x e b =
      sym (get_or-take t.n t.steps k x b)
      ∙ ap (λ (z : ℕ). get_or steps z x) (e ∙ ap (visited d i) (sym (steps-length t full h)))

  module _ (depth deep i k : ℕ) (x : Step) (inv : Planning d steps depth deep i) (b : i < t.n) (e : k ≡ visited d i t.n) (w : k < t.n) (depth' : ℕ)
      (did : depth' ≡ depth_stepped d (get_or t.steps k x) depth) where
    pub table-turn : (deep' : ℕ) → depth' ≤ 64 → deep' ≡ max deep depth' → Planning d steps depth' deep' (i + 1)
    table-turn deep' f g =
        plan-turn d steps depth deep i x inv (omega (arith, steps-length t full h)) depth' deep' (did ∙ ap (λ (s : Step). depth_stepped d s depth) (step_is i k x e w)) f g

    pub table-over : 64 < depth' → passes_from (running d (listed t)) 0 ≡ Some (k + 1)
    table-over f =
        rw (table-steps t full h)
        (plan-over d steps depth deep i x inv (omega (arith, steps-length t full h)) depth' k
        (did ∙ ap (λ (s : Step). depth_stepped d s depth) (step_is i k x e w)) f (e ∙ ap (visited d i) (sym (steps-length t full h))))

  pub table-end : (depth deep i : ℕ) → Planning d steps depth deep i → t.n ≤ i → (passes_from (running d (listed t)) 0 ≡ None) × (deep ≡ deepest_from (running d (listed t)) 0)
  table-end depth deep i inv b = rw (table-steps t full h) (plan-end d steps depth deep i inv (omega (arith, steps-length t full h)))
