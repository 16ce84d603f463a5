-- A step of the table, omitted or not: from what the calls ensure of its act.
use mathlib.Core.Path.{◌≡◌, refl, sym, ap, ◌∙◌, subst}
use Prim.Native.Nat.{ℕ, ◌*◌, ◌/◌, ◌≤◌, max, min}
use mathlib.Core.Bool.{Bool, true, false, cond}
use mathlib.Core.List.{List}
use native.Mathlib.Omega.{arith}
use lib.ListN.{length, drop}
use lib.Ieee.{Float}
use Rattle.rules.specs.Operators.Acts as rules
use Rattle.rules.specs.Pipeline.Running.{act, omitted}
use Rattle.rules.specs.Pipeline.Tuples.{acted, counts_none}
use Rattle.rules.specs.declared.Step.{Step}
use Rattle.rules.specs.declared.Direction.{Direction}
use Rattle.laws_steps.specs.Depth.{depth_after}
use Rattle.columns.specs.Doings.{doing, Does}
use Rattle.columns.specs.declared.acts.Doing.{Doing}
use Rattle.columns.specs.Stores.{held}
use Rattle.pipeline.specs.Plans.{depth_stepped, none_stepped, stepped, count_stepped, Stepped}
use Rattle.columns.specs.Machine.{Acted}

-- the act of a step is what its doing does
pub own : {a : rules.Act} {r : Doing} → Does a r → Does (doing r) r
own h = record { same = refl; slots = h.slots; rule = h.rule }

pub count-few : (tuples count : ℕ) → count ≤ tuples → (none : Bool) → cond none 0 count ≤ tuples
count-few tuples count b true = omega arith
count-few tuples count b false = b

module _ (d : Direction) (s : Step) (depth : ℕ) where
  pub depth-omitted : omitted d s ≡ true → depth ≡ depth_stepped d s depth
  unfolding depth_stepped
  depth-omitted e = rw e

  pub depth-run : {a : rules.Act} (r : ℕ) → omitted d s ≡ false → a ≡ act d s → r ≡ depth_after a depth → r ≡ depth_stepped d s depth
  unfolding depth_stepped
  depth-run r e f h = rw e (h ∙ ap (λ (z : rules.Act). depth_after z depth) f)

  pub depth_is : {a : rules.Act} → omitted d s ≡ false → a ≡ act d s → depth_after a depth ≡ depth_stepped d s depth
  depth_is {a} e f = depth-run (depth_after a depth) e f refl

  pub none-omitted : omitted d s ≡ true → false ≡ none_stepped d s depth
  unfolding none_stepped
  none-omitted e = rw e

  pub none-run : {a : rules.Act} (r : Bool) → omitted d s ≡ false → a ≡ act d s → r ≡ counts_none a depth → r ≡ none_stepped d s depth
  unfolding none_stepped
  none-run r e f h = rw e (h ∙ ap (λ (z : rules.Act). counts_none z depth) f)

  module _ (tuples count : ℕ) (b : count ≤ tuples) (r : Bool) where
    pub count-is : r ≡ none_stepped d s depth → cond r 0 count ≡ count_stepped d s depth tuples count
    unfolding none_stepped count_stepped
    count-is e = ap (λ (z : Bool). cond z 0 count) e ∙ go (omitted d s) (counts_none (act d s) depth)
      where
        go : (o n : Bool) → cond (cond o false n) 0 count ≡ cond o count (min count (cond n 0 tuples))
        go true n = refl
        go false true = omega arith
        go false false = omega (arith, b)

  module _ (xs store : List Float) where
    pub step-omitted : omitted d s ≡ true → Stepped d s depth xs store xs store
    unfolding stepped depth_stepped
    step-omitted e = record { machine = rw e; beyond = refl }

    pub step_run : {a : rules.Act} (xs' store' : List Float) → omitted d s ≡ false → a ≡ act d s → Acted a depth xs store xs' store' → Stepped d s depth xs store xs' store'
    unfolding stepped
    step_run {a} xs' store' e f h =
        let g = depth_is e f in
        record {
          machine = ap (held xs' store') (sym g) ∙ h.machine ∙ rw e (ap (λ (z : rules.Act). acted z (held xs store depth)) f);
          beyond = subst (λ (z : ℕ). drop (max depth z * (length xs / 4)) store' ≡ drop (max depth z * (length xs / 4)) store) g h.beyond;
        }
