-- The loop of the run: what has been done, and what is left, make the written run.
use Rattle.std.specs.Prelude.{None, Some}
use mathlib.Core.Path.{◌≡◌, refl, sym, ap, ◌∙◌, subst}
use Prim.Native.Nat.{ℕ, ◌+◌, ◌-◌, ◌*◌, ◌/◌, ◌<◌, ◌≤◌, max, min}
use mathlib.Core.Bool.{Bool, true, false, cond}
use mathlib.Core.List.{List, ◌∷◌}
use native.Mathlib.Nat.{mul-le-mul_right}
use native.Mathlib.Omega.{arith}
use borrow.Author.Tests.{ltb-false}
use lib.Dec.{ltb}
use lib.ListN.{length, get_or, take, drop}
use lib.Seq.{drop-drop}
use lib.Ieee.{Float}
use Rattle.rules.specs.Pipeline.Record.{refusal18, listed}
use Rattle.rules.specs.Pipeline.Running.{Numbered, act, omitted, running}
use Rattle.rules.specs.Pipeline.Columns.{after}
use Rattle.rules.specs.Pipeline.Tuples.{acted, counts_none, counts}
use Rattle.rules.specs.Pipeline.Run.{count_from, count, start}
use Rattle.rules.specs.declared.Step.{Step}
use Rattle.rules.specs.declared.Table.{Table}
use Rattle.rules.specs.declared.Direction.{Direction}
use Rattle.laws_lists.specs.Tests.{never}
use Rattle.laws_steps.specs.Depth.{depth_after}
use Rattle.laws_steps.specs.Lengths.{tuples-length}
use Rattle.columns.specs.Stores.{columns_of, held}
use Rattle.columns.proofs.InStore.{held-depth}
use Rattle.record.specs.Visits.{visited, left_from}
use Rattle.record.proofs.RunningOrder.{left-all, left-none, left-next}
use Rattle.pipeline.specs.Plans.{depth_stepped, stepped, count_stepped, passes_from, deepest_from, Stepped, Ends}
use Rattle.pipeline.proofs.PlannedDepths.{table-steps, steps-length, step_is}

-- what is alike from a place on is alike from any place after it
drop-further : (a b : ℕ) (l l' : List Float) → a ≤ b → drop a l ≡ drop a l' → drop b l ≡ drop b l'
drop-further a b l l' h e =
    let r : a + (b - a) ≡ b = omega arith in
    subst (λ (k : ℕ). drop k l ≡ drop k l') r (sym (drop-drop (b - a) a l) ∙ ap (drop (b - a)) e ∙ drop-drop (b - a) a l')

-- i steps have been visited
pub record Running (d : Direction) (l : List Step) (deepest : ℕ) (xs₀ s₀ xs s : List Float) (c depth i : ℕ) : Type 0 where
  pub machine : after acted (left_from d i l) (held xs s depth) ≡ after acted (running d l) (start xs₀)
  pub counted : count_from c (left_from d i l) (held xs s depth) ≡ count (running d l) (start xs₀)
  pub passes : passes_from (left_from d i l) depth ≡ None
  pub deep : max depth (deepest_from (left_from d i l) depth) ≤ deepest
  pub within : depth ≤ 64
  pub beyond : drop (deepest * (length xs₀ / 4)) s ≡ drop (deepest * (length xs₀ / 4)) s₀
  pub list_length : length xs ≡ length xs₀
  pub store_length : length s ≡ length s₀
  pub few : c ≤ length xs₀ / 4
  pub upto : i ≤ length l

module _ (d : Direction) (l : List Step) (deepest : ℕ) (xs₀ s₀ : List Float) where
  pub run_none : passes_from (running d l) 0 ≡ None → deepest ≡ deepest_from (running d l) 0 → Running d l deepest xs₀ s₀ xs₀ s₀ (length xs₀ / 4) 0 0
  unfolding held columns_of count
  run_none p q =
      let e = left-all d l in
      record {
        machine = ap (λ (r : List Numbered). after acted r (start xs₀)) e;
        counted = (λ t. count_from (sym (tuples-length xs₀) t) (e t) (start xs₀));
        passes = ap (λ (r : List Numbered). passes_from r 0) e ∙ p;
        deep = subst (λ (r : List Numbered). max 0 (deepest_from r 0) ≤ deepest) (sym e) (omega arith);
        within = omega arith;
        beyond = refl;
        list_length = refl;
        store_length = refl;
        few = omega arith;
        upto = omega arith;
      }

  module _ (xs s : List Float) (c depth i : ℕ) (x : Step) (inv : Running d l deepest xs₀ s₀ xs s c depth i) (h : i < length l) where
    abbrev step : Step
    step = get_or l (visited d i (length l)) x

    -- what the next step tells of the depths
    record Next (depth' : ℕ) (r : List Numbered) : Type 0 where
      within : depth' ≤ 64
      below : max depth depth' ≤ deepest
      passes : passes_from r depth' ≡ None
      deep : max depth' (deepest_from r depth') ≤ deepest

    next-if : (b : Bool) (k : ℕ) (r : List Numbered) → passes_from (cond b r (record { place = k; does = act d step } ∷ r)) depth ≡ None
        → max depth (deepest_from (cond b r (record { place = k; does = act d step } ∷ r)) depth) ≤ deepest → Next (cond b depth (depth_after (act d step) depth)) r
    unfolding passes_from deepest_from
    next-if true k r p q = record { within = inv.within; below = omega arith; passes = p; deep = q }
    next-if false k r p q = go (ltb 64 (depth_after (act d step) depth)) refl p
      where
        go : (b : Bool) → ltb 64 (depth_after (act d step) depth) ≡ b → cond b (Some k) (passes_from r (depth_after (act d step) depth)) ≡ None → Next (depth_after (act d step) depth) r
        go true e p = absurd (never (cc p))
        go false e p = record { within = ltb-false 64 (depth_after (act d step) depth) e; below = omega arith; passes = p; deep = omega arith }

    next : Next (depth_stepped d step depth) (left_from d (i + 1) l)
    unfolding depth_stepped
    next =
        let e = left-next d l i x h in
        next-if (omitted d step) (visited d i (length l) + 1) (left_from d (i + 1) l)
        (subst (λ (r : List Numbered). passes_from r depth ≡ None) e inv.passes)
        (subst (λ (r : List Numbered). max depth (deepest_from r depth) ≤ deepest) e inv.deep)

    -- room for the columns before the step, and after it
    pub room-before : deepest * (length xs₀ / 4) ≤ length s₀ → depth * (length xs / 4) ≤ length s
    room-before r =
        subst (λ (n : ℕ). depth * (n / 4) ≤ length s) (sym inv.list_length)
        (omega (arith, mul-le-mul_right {m = depth} {n = deepest} (length xs₀ / 4) (omega (arith, next.below)), inv.store_length))

    pub room_after : deepest * (length xs₀ / 4) ≤ length s₀ → depth_stepped d step depth * (length xs / 4) ≤ length s
    room_after r =
        subst (λ (n : ℕ). depth_stepped d step depth * (n / 4) ≤ length s) (sym inv.list_length)
        (omega (arith, mul-le-mul_right {m = depth_stepped d step depth} {n = deepest} (length xs₀ / 4) (omega (arith, next.below)), inv.store_length))

    -- a step of the written run, omitted or not
    after-if : (b : Bool) (k : ℕ) (r : List Numbered) → after acted (cond b r (record { place = k; does = act d step } ∷ r)) (held xs s depth)
        ≡ after acted r (cond b (held xs s depth) (acted (act d step) (held xs s depth)))
    unfolding after
    after-if true k r = refl
    after-if false k r = refl

    count-if : (b : Bool) (k : ℕ) (r : List Numbered) → count_from c (cond b r (record { place = k; does = act d step } ∷ r)) (held xs s depth)
        ≡ count_from (cond b c (min c (cond (counts_none (act d step) depth) 0 (length xs₀ / 4)))) r (cond b (held xs s depth) (acted (act d step) (held xs s depth)))
    unfolding count_from counts held
    count-if true k r = refl
    count-if false k r =
        λ t. count_from (min c (cond (counts_none (act d step) (held-depth xs s depth t)) 0 ((tuples-length xs ∙ ap (λ (n : ℕ). n / 4) inv.list_length) t))) r
        (acted (act d step) (held xs s depth))

    pub run-turn : (xs' s' : List Float) (c' depth' : ℕ) → Stepped d step depth xs s xs' s' → length xs' ≡ length xs → length s' ≡ length s
        → c' ≡ count_stepped d step depth (length xs₀ / 4) c → c' ≤ length xs₀ / 4 → depth' ≡ depth_stepped d step depth
        → Running d l deepest xs₀ s₀ xs' s' c' depth' (i + 1)
    unfolding stepped depth_stepped count_stepped
    run-turn xs' s' c' depth' did len-xs len-s ec few ed =
        let r = left_from d (i + 1) l in
        let k = visited d i (length l) + 1 in
        let e = left-next d l i x h in
        let now : held xs' s' depth' ≡ stepped d step (held xs s depth) = ap (held xs' s') ed ∙ did.machine in
        let n = next in
        let same : length xs / 4 ≡ length xs₀ / 4 = ap (λ (z : ℕ). z / 4) inv.list_length in
        record {
          machine = ap (after acted r) now ∙ sym (after-if (omitted d step) k r) ∙ ap (λ (z : List Numbered). after acted z (held xs s depth)) (sym e) ∙ inv.machine;
          counted =
              (λ t. count_from (ec t) r (now t))
              ∙ sym (count-if (omitted d step) k r)
              ∙ ap (λ (z : List Numbered). count_from c z (held xs s depth)) (sym e)
              ∙ inv.counted;
          passes = ap (passes_from r) ed ∙ n.passes;
          deep = subst (λ (z : ℕ). max z (deepest_from r z) ≤ deepest) (sym ed) n.deep;
          within = omega (arith, n.within);
          beyond =
              drop-further (max depth (depth_stepped d step depth) * (length xs₀ / 4)) (deepest * (length xs₀ / 4)) s' s (mul-le-mul_right (length xs₀ / 4) n.below)
              (subst (λ (z : ℕ). drop (max depth (depth_stepped d step depth) * z) s' ≡ drop (max depth (depth_stepped d step depth) * z) s) same did.beyond)
              ∙ inv.beyond;
          list_length = len-xs ∙ inv.list_length;
          store_length = len-s ∙ inv.store_length;
          few = few;
          upto = omega arith;
        }

  pub run_end : (xs s : List Float) (c depth i : ℕ) → Running d l deepest xs₀ s₀ xs s c depth i → length l ≤ i
      → Ends (running d l) deepest xs₀ s₀ c depth xs s
  unfolding after count_from
  run_end xs s c depth i inv h =
      let e = left-none d l i h in
      record {
        machine = sym (ap (λ (r : List Numbered). after acted r (held xs s depth)) e) ∙ inv.machine;
        counted = sym (ap (λ (r : List Numbered). count_from c r (held xs s depth)) e) ∙ inv.counted;
        low = omega (arith, inv.deep);
        beyond = inv.beyond;
      }

-- ---- the same of a table

module _ (t : Table) (full : length t.steps ≡ 64) (h : refusal18 (listed t) ≡ None) (d : Direction) (deepest : ℕ) (xs₀ s₀ : List Float) where
  abbrev steps : List Step
  steps = take t.n t.steps

  pub table_none : passes_from (running d (listed t)) 0 ≡ None → deepest ≡ deepest_from (running d (listed t)) 0 → Running d steps deepest xs₀ s₀ xs₀ s₀ (length xs₀ / 4) 0 0
  table_none p q = run_none d steps deepest xs₀ s₀ (rw (table-steps t full h) at p) (rw (table-steps t full h) at q)

  module _ (xs s : List Float) (c depth i k : ℕ) (x : Step) (inv : Running d steps deepest xs₀ s₀ xs s c depth i) (b : i < t.n) (e : k ≡ visited d i t.n) (w : k < t.n) where
    b' : i < length steps
    b' = omega (arith, steps-length t full h)

    here : get_or t.steps k x ≡ get_or steps (visited d i (length steps)) x
    here = step_is t full h d i k x e w

    pub table_before : deepest * (length xs₀ / 4) ≤ length s₀ → depth * (length xs / 4) ≤ length s
    table_before r = room-before d steps deepest xs₀ s₀ xs s c depth i x inv b' r

    pub table-after : deepest * (length xs₀ / 4) ≤ length s₀ → depth_stepped d (get_or t.steps k x) depth * (length xs / 4) ≤ length s
    table-after r = subst (λ (z : Step). depth_stepped d z depth * (length xs / 4) ≤ length s) (sym here) (room_after d steps deepest xs₀ s₀ xs s c depth i x inv b' r)

    pub table_step : (xs' s' : List Float) (c' depth' : ℕ) → Stepped d (get_or t.steps k x) depth xs s xs' s' → length xs' ≡ length xs → length s' ≡ length s
        → c' ≡ count_stepped d (get_or t.steps k x) depth (length xs₀ / 4) c → c' ≤ length xs₀ / 4 → depth' ≡ depth_stepped d (get_or t.steps k x) depth
        → Running d steps deepest xs₀ s₀ xs' s' c' depth' (i + 1)
    table_step xs' s' c' depth' did lx ls ec few ed =
        run-turn d steps deepest xs₀ s₀ xs s c depth i x inv b' xs' s' c' depth' (subst (λ (z : Step). Stepped d z depth xs s xs' s') here did) lx ls
        (ec ∙ ap (λ (z : Step). count_stepped d z depth (length xs₀ / 4) c) here) few (ed ∙ ap (λ (z : Step). depth_stepped d z depth) here)

  pub table-ends : (xs s : List Float) (c depth i : ℕ) → Running d steps deepest xs₀ s₀ xs s c depth i → t.n ≤ i
      → Ends (running d (listed t)) deepest xs₀ s₀ c depth xs s
  table-ends xs s c depth i inv b = rw (table-steps t full h) (run_end d steps deepest xs₀ s₀ xs s c depth i inv (omega (arith, steps-length t full h)))
