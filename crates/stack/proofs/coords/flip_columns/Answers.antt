use Rattle.std.proofs.Common.{rules, get_or, pos, SFits, w32, to_z-of_z, ◌+◌, ◌≤◌, List, sym}
use Rattle.columns.proofs.Lent.{lent-length, lent-col, lent-put, lent-keeps}
use Rattle.columns.proofs.OneNumber.{column-length}
use lib.Ieee.{Float}
use Rattle.stack.proofs.Flipped.{flip-none, flip-turn, flip-end}
use Rattle.laws_steps.specs.Lengths.{tuples-length}
use Rattle.columns.proofs.InStore.{under}
use Rattle.rules.specs.Pipeline.Tuples.{tuples, stored}
use native.Mathlib.Omega.{arith}
use lib.ListN.{length}
use Prim.Native.Nat.{ℕ, ◌-◌, ◌*◌, ◌/◌}
use mathlib.Core.Path.{◌≡◌, refl, ap, ◌∙◌}
use Rattle.stack.proofs.coords.flip_columns.Goals as goal

pub loop-j-init : goal.loop-j-init
loop-j-init c = (flip-none _ _ _ _ _, refl)

pub flip_column-requires : goal.flip_column-requires
flip_column-requires c =
    let n = length c.args.xs.now / 4 in
    let q = c.args.depth - 1 - c.loop-j.j in
    let many : length c.loop-j.xs / 4 ≡ n = ap (λ (k : ℕ). k / 4) c.loop-j.invariant.1 in
    lent-length n q c.loop-j.store (omega (arith, under q c.args.depth n (omega arith), c.loop-j.invariant.0.same_length)) ∙ sym many

pub loop-j-preserved : goal.loop-j-preserved
loop-j-preserved c =
    let n = length c.args.xs.now / 4 in
    let q = c.args.depth - 1 - c.loop-j.j in
    let r = c.size_of.result in
    let ts = tuples c.loop-j.xs in
    let f : SFits w32 (get_or c.args.args.now c.loop-j.j (pos 0)) = search rules in
    let same : length c.loop-j.xs / 4 ≡ n = ap (λ (k : ℕ). k / 4) c.loop-j.invariant.1 in
    let room : q * n + n ≤ length c.loop-j.store = omega (arith, under q c.args.depth n (omega arith), c.loop-j.invariant.0.same_length) in
    let back = c.flip_column.ensures.column in
    let long = column-length r c.loop-j.xs ∙ same in (
      flip-turn n c.args.depth c.args.args.now (tuples c.args.xs.now) c.args.store.now ts _ c.loop-j.store _ c.loop-j.j r c.loop-j.invariant.0 (omega arith)
          (omega arith) (tuples-length c.loop-j.xs ∙ same) c.requires.xs_in_bounds (simp (to_z-of_z f) at c.size_of.ensures) (lent-keeps n q c.loop-j.store room back long)
          (c.flip_column.ensures.tuples ∙ ap (λ (v : List Float). stored r v ts) (lent-col n q c.loop-j.store)) (lent-put n q c.loop-j.store room back long),
      c.flip_column.auto.xs ∙ c.loop-j.invariant.1,
    )

pub returns : goal.returns
returns c =
    flip-end (length c.args.xs.now / 4) c.args.depth c.args.args.now (tuples c.args.xs.now) c.args.store.now _ _ c.loop-j.j c.loop-j.invariant.0 (omega arith)
