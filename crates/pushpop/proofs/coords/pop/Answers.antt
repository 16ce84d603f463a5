use Rattle.std.proofs.Common.{rules, List, get_or, pos, SFits, w32, to_z-of_z}
use lib.Ieee.{Float}
use Rattle.columns.proofs.Lent.{lent-length, lent-col}
use Rattle.pushpop.proofs.Popped.{pop-none, pop-turn, pop-stops, pop-end, pop-acted}
use Rattle.columns.proofs.InStore.{under}
use Rattle.rules.specs.Pipeline.Tuples.{State, tuples, stored}
use native.Mathlib.Omega.{arith}
use lib.ListN.{length}
use Prim.Native.Nat.{ℕ, ◌-◌, ◌/◌}
use mathlib.Core.Path.{◌≡◌, refl, sym, ap, ◌∙◌}
use Rattle.pushpop.proofs.coords.pop.Goals as goal

pub loop-j-init : goal.loop-j-init
loop-j-init c = (pop-none _ _ _ _ _, refl)

pub returns-then-depth-j : goal.returns-then-depth-j
returns-then-depth-j c =
    let n = length c.args.xs.now / 4 in
    let f : SFits w32 (get_or c.args.args.now c.loop-j.j (pos 0)) = search rules in
    pop-acted c.args.args.now c.args.depth c.args.xs.now c.args.store.now _ (c.nan_column.auto.xs ∙ c.loop-j.invariant.1)
    (pop-stops n c.args.depth c.args.args.now c.args.store.now (tuples c.loop-j.xs) _ c.loop-j.j _ (omega arith) (simp (to_z-of_z f) at c.size_of-i.ensures) (omega arith) c.nan_column.ensures
    ∙ ap (λ (z : State). z.tuples) c.loop-j.invariant.0)

pub pop_column-requires : goal.pop_column-requires
pop_column-requires c =
    let n = length c.args.xs.now / 4 in
    let many : length c.loop-j.xs / 4 ≡ n = ap (λ (k : ℕ). k / 4) c.loop-j.invariant.1 in
    lent-length n (c.args.depth - 1 - c.loop-j.j) c.args.store.now (omega (arith, under (c.args.depth - 1 - c.loop-j.j) c.args.depth n (omega arith))) ∙ sym many

pub loop-j-preserved : goal.loop-j-preserved
loop-j-preserved c =
    let n = length c.args.xs.now / 4 in
    let q = c.args.depth - 1 - c.loop-j.j in
    let ts = tuples c.loop-j.xs in
    let f : SFits w32 (get_or c.args.args.now c.loop-j.j (pos 0)) = search rules in
    let made = c.pop_column.ensures ∙ ap (λ (v : List Float). stored c.size_of-i.result v ts) (lent-col n q c.args.store.now) in (
      sym (pop-turn n c.args.depth c.args.args.now c.args.store.now ts _ c.loop-j.j c.size_of-i.result (omega arith) (simp (to_z-of_z f) at c.size_of-i.ensures) (omega arith) made)
          ∙ c.loop-j.invariant.0,
      c.pop_column.auto.xs ∙ c.loop-j.invariant.1,
    )

pub returns : goal.returns
returns c =
    pop-acted c.args.args.now c.args.depth c.args.xs.now c.args.store.now _ c.loop-j.invariant.1
    (pop-end (length c.args.xs.now / 4) c.args.depth c.args.args.now c.args.store.now (tuples c.loop-j.xs) c.loop-j.j (omega arith) ∙ ap (λ (z : State). z.tuples) c.loop-j.invariant.0)
