use Rattle.std.proofs.Common.{rules, ◌+◌, ◌*◌, ◌/◌, get_or, pos, SFits, w32, to_z-of_z, ◌≤◌, length}
use Rattle.columns.proofs.Lent.{lent-length, lent-keeps, lent-put}
use Rattle.columns.proofs.OneNumber.{column-length}
use Rattle.pushpop.proofs.Pushed.{push-none, push-turn, push-end, push-acted}
use Rattle.laws_steps.specs.Lengths.{tuples-length}
use Rattle.columns.proofs.InStore.{under}
use Rattle.rules.specs.Pipeline.Tuples.{tuples}
use native.Mathlib.Omega.{arith}
use lib.ListN.{length}
use Prim.Native.Nat.{◌+◌, ◌/◌}
use Rattle.pushpop.proofs.coords.push.Goals as goal

pub loop-j-init : goal.loop-j-init
loop-j-init c = push-none _ _ _ _ _

pub push_column-requires : goal.push_column-requires
push_column-requires c =
    let n = length c.args.xs.now / 4 in
    lent-length n (c.args.depth + c.loop-j.j) c.loop-j.store (omega (arith, under (c.args.depth + c.loop-j.j) (length c.args.args.now + c.args.depth) n (omega arith), c.loop-j.invariant.same_length))

pub loop-j-preserved : goal.loop-j-preserved
loop-j-preserved c =
    let n = length c.args.xs.now / 4 in
    let q = c.args.depth + c.loop-j.j in
    let f : SFits w32 (get_or c.args.args.now c.loop-j.j (pos 0)) = search rules in
    let room : q * n + n ≤ length c.loop-j.store = omega (arith, under q (length c.args.args.now + c.args.depth) n (omega arith), c.loop-j.invariant.same_length) in
    let long = column-length c.size_of.result c.args.xs.now in
    push-turn n c.args.depth c.args.args.now (tuples c.args.xs.now) c.args.store.now c.loop-j.store _ c.loop-j.j _
    c.loop-j.invariant (omega arith) (tuples-length c.args.xs.now) c.requires.xs_in_bounds (simp (to_z-of_z f) at c.size_of.ensures)
    (lent-keeps n q c.loop-j.store room c.push_column.ensures long) (lent-put n q c.loop-j.store room c.push_column.ensures long)

pub returns : goal.returns
returns c =
    push-acted c.args.args.now c.args.depth c.args.xs.now c.args.store.now _
    (push-end (length c.args.xs.now / 4) c.args.depth c.args.args.now (tuples c.args.xs.now) c.args.store.now _ c.loop-j.j c.loop-j.invariant (omega arith))
