-- What the run answers and leaves at the end, and each refusal.
use Rattle.rules.specs.declared.Refusal.{Refusal}
use Rattle.rules.specs.declared.Finished.{Finished}
use Rattle.rules.specs.Text.Refusal.{refusal}
use Rattle.std.specs.Prelude.{Option, None, Some, Result}
use mathlib.Core.Path.{◌≡◌, refl, sym, ap, ◌∙◌}
use Prim.Native.Nat.{ℕ, ◌-◌, ◌*◌, ◌/◌, ◌%◌, ◌<◌, ◌≤◌, max}
use mathlib.Core.Bool.{Bool, true, false, cond, not}
use mathlib.Core.List.{List, [], ◌∷◌, ◌++◌, reverse, flat_map}
use native.Mathlib.Nat.{mul-le-mul_right}
use native.Mathlib.Omega.{arith}
use borrow.Author.Tests.{lt-ltb, le-ltb, ltb-false, eqb-true, not-false}
use lib.Dec.{ltb, eqb}
use lib.ListN.{length, take, drop, replicate}
use lib.Seq.{length-take-le}
use lib.IntN.{pos}
use lib.Ieee.{Float, fin}
use Rattle.rules.specs.Pipeline.Record.{refusal18}
use Rattle.rules.specs.Pipeline.Running.{Numbered, running}
use Rattle.rules.specs.Pipeline.Columns.{after, deepest}
use Rattle.rules.specs.Pipeline.Tuples.{State, numbers, acted}
use Rattle.rules.specs.Pipeline.Run.{start, bad_list, store_after, refused, finished, unless16, unless15, unless18, runs, Runs, done}
use Rattle.rules.specs.declared.Step.{Step}
use Rattle.rules.specs.declared.Direction.{Direction}
use Rattle.laws_lists.specs.Tests.{or_left, or_right, never}
use Rattle.laws_steps.specs.Depth.{depth_after}
use Rattle.laws_steps.specs.Lengths.{numbers-tuples}
use Rattle.columns.specs.Stores.{columns_of, held}
use Rattle.columns.proofs.InStore.{columns-length}
use Rattle.columns.proofs.Zeros.{columns-flat}
use Rattle.pipeline.specs.Plans.{passes_from, deepest_from, Gives, Ends}
use Rattle.pipeline.proofs.PlannedDepths.{passes_same, deepest-same}

-- ---- sizes

-- 15 is not given: whole tuples, and no more than 65,536
module _ (xs : List Float) (h : bad_list xs ≡ false) where
  pub fourfold : length xs % 4 ≡ 0
  unfolding bad_list
  fourfold = eqb-true (length xs % 4) 0 (not-false (eqb (length xs % 4) 0) (or_left (not (eqb (length xs % 4) 0)) _ h))

  pub tuples-few : length xs / 4 ≤ 65536
  unfolding bad_list
  tuples-few = ltb-false 65536 (length xs / 4) (or_right (not (eqb (length xs % 4) 0)) (ltb 65536 (length xs / 4)) h)

-- a run that is not refused 16 goes no deeper than 64
deepest-64 : (l : List Numbered) (d : ℕ) → passes_from l d ≡ None → deepest_from l d ≤ 64
unfolding passes_from deepest_from
deepest-64 [] d h = omega arith
deepest-64 (s ∷ l) d h = both (ltb 64 d') refl h (deepest-64 l d')
  where
    d' : ℕ
    d' = depth_after s.does d

    both : (b : Bool) → ltb 64 d' ≡ b → cond b (Some s.place) (passes_from l d') ≡ None → (passes_from l d' ≡ None → deepest_from l d' ≤ 64) → max d' (deepest_from l d') ≤ 64
    both true e h f = absurd (never (cc h))
    both false e h f = omega (arith, ltb-false 64 d' e, f h)

-- the store in use
pub used-few : (l : List Numbered) (deepest n : ℕ) → passes_from l 0 ≡ None → deepest ≡ deepest_from l 0 → n ≤ 65536 → deepest * n ≤ 4194304
used-few l deepest n p q h = omega (arith, mul-le-mul_right {m = deepest} {n = 64} n (omega (arith, deepest-64 l 0 p)))

-- ---- refusals

pub refuses-17 : (l : List Numbered) (xs store : List Float) (used : ℕ) → length store < used → Gives (finished l xs store used) (refusal 17 0) xs store
unfolding finished refused
refuses-17 l xs store used h = record { exactly = rw (lt-ltb (length store) used h) }

pub refuses-16 : (l : List Numbered) (xs store : List Float) (place : ℕ) → passes_from l 0 ≡ Some place → Gives (unless15 false l xs store) (refusal 16 place) xs store
unfolding unless15 unless16 refused
refuses-16 l xs store place h = record { exactly = rw (passes_same l (start xs), h) }

pub refuses-15 : (l : List Numbered) (xs store : List Float) → bad_list xs ≡ true → Gives (unless15 (bad_list xs) l xs store) (refusal 15 0) xs store
unfolding unless15 refused
refuses-15 l xs store h = record { exactly = rw h }

pub refuses-18 : (d : Direction) (t : List Step) (xs store : List Float) (place : ℕ) → refusal18 t ≡ Some place → Runs d t xs store (refusal 18 place) xs store
unfolding runs unless18 refused
refuses-18 d t xs store place h = record { exactly = rw h }

-- ---- past a refusal that is not given

pub past-16 : (l : List Numbered) (xs store : List Float) (deep : ℕ) (r : Result Finished Refusal) (xs' store' : List Float) → passes_from l 0 ≡ None → deep ≡ deepest_from l 0
    → Gives (finished l xs store (deep * (length xs / 4))) r xs' store' → Gives (unless15 false l xs store) r xs' store'
unfolding unless15 unless16
past-16 l xs store deep r xs' store' p q h =
    record {
      exactly =
          h.exactly
          ∙ ap (λ (n : ℕ). finished l xs store (n * (length xs / 4))) (q ∙ sym (deepest-same l (start xs)))
          ∙ ap (λ (o : Option ℕ). unless16 o l xs store) (sym (passes_same l (start xs) ∙ p));
    }

pub past-15 : (l : List Numbered) (xs store : List Float) (r : Result Finished Refusal) (xs' store' : List Float) → bad_list xs ≡ false → Gives (unless15 false l xs store) r xs' store'
    → Gives (unless15 (bad_list xs) l xs store) r xs' store'
past-15 l xs store r xs' store' h g = record { exactly = g.exactly ∙ ap (λ (b : Bool). unless15 b l xs store) (sym h) }

pub past-18 : (d : Direction) (t : List Step) (xs store : List Float) (r : Result Finished Refusal) (xs' store' : List Float) → refusal18 t ≡ None → Gives (unless15 (bad_list xs) (running d t) xs store) r xs' store'
    → Runs d t xs store r xs' store'
unfolding runs unless18
past-18 d t xs store r xs' store' h g = record { exactly = g.exactly ∙ ap (λ (o : Option ℕ). unless18 o d t xs store) (sym h) }

-- ---- the end

-- the columns left, then zeros, then what the store held
pub finishes : (l : List Numbered) (deep : ℕ) (xs s xs' s' s'' : List Float) (c left : ℕ) → bad_list xs ≡ false → length xs' ≡ length xs → length s' ≡ length s
    → deep * (length xs / 4) ≤ length s → Ends l deep xs s c left xs' s'
    → s'' ≡ take (left * (length xs / 4)) s' ++ (replicate (deep * (length xs / 4) - left * (length xs / 4)) (fin false 0 (pos 0)) ++ drop (deep * (length xs / 4)) s')
    → Gives (finished l xs s (deep * (length xs / 4))) (done c left) xs' s''
unfolding finished store_after held
finishes l deep xs s xs' s' s'' c left bad lx ls room e z =
    let n = length xs / 4 in
    let used = deep * n in
    let end = after acted l (start xs) in
    let same : length xs' / 4 ≡ n = ap (λ (k : ℕ). k / 4) lx in
    let cols : columns_of n left s' ≡ end.columns = ap (λ (k : ℕ). columns_of k left s') (sym same) ∙ ap (λ (m : State). m.columns) e.machine in
    let gone : left ≡ length end.columns = sym (columns-length n left s') ∙ ap length cols in
    let list : xs' ≡ numbers end.tuples = sym (numbers-tuples xs' (omega (arith, fourfold xs bad))) ∙ ap (λ (m : State). numbers m.tuples) e.machine in
    let low : left * n ≤ used = mul-le-mul_right {m = left} {n = deep} n e.low in
    let flat : take (left * n) s' ≡ flat_map (λ (v : List Float). v) (reverse end.columns) =
    sym (columns-flat n left s') ∙ ap (λ (c : List (List Float)). flat_map (λ (v : List Float). v) (reverse c)) cols in
    let long : left * n ≡ length (flat_map (λ (v : List Float). v) (reverse end.columns)) = sym (length-take-le (left * n) s' (omega arith)) ∙ ap length flat in
    let store : s'' ≡ store_after used end.columns s = z ∙ (λ i. flat i ++ (replicate (used - long i) (fin false 0 (pos 0)) ++ e.beyond i)) in
    record { exactly = rw (le-ltb (length s) used room) (λ i. record { answer = done (e.counted i) (gone i); list = list i; store = store i }) }
