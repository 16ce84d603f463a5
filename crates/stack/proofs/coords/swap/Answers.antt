-- `swap`: with fewer than two columns there is nothing to exchange, and the act leaves all as it is; else the two top columns are
-- exchanged.
use Prim.Native.Nat.{◌-◌, ◌/◌}
use native.Mathlib.Omega.{arith}
use lib.ListN.{length}
use Rattle.columns.proofs.InStore.{under}
use Rattle.stack.proofs.Swapped.{swap-few, swap-end, swap-acted}
use Rattle.stack.proofs.coords.swap.Goals as goal

pub returns-then-depth-lt2 : goal.returns-then-depth-lt2
returns-then-depth-lt2 c =
    swap-acted c.args.depth c.args.xs.now c.args.store.now _ (swap-few (length c.args.xs.now / 4) c.args.depth c.args.store.now c.if-depth-lt2.true)

pub overflow_mul-depth : goal.overflow_mul-depth
overflow_mul-depth c =
    omega (arith, under (c.args.depth - 2) c.args.depth (length c.args.xs.now / 4) (omega arith))

pub overflow_mul-depth-2 : goal.overflow_mul-depth-2
overflow_mul-depth-2 c =
    omega (arith, under (c.args.depth - 1) c.args.depth (length c.args.xs.now / 4) (omega arith))

pub exchange-requires : goal.exchange-requires
exchange-requires c =
    let n = length c.args.xs.now / 4 in record { n_bound = under (c.args.depth - 2) (c.args.depth - 1) n (omega arith); n_in_bounds = omega (arith, under (c.args.depth - 1) c.args.depth n (omega arith)) }

pub returns : goal.returns
returns c =
    swap-acted c.args.depth c.args.xs.now c.args.store.now _
    (swap-end (length c.args.xs.now / 4) c.args.depth c.args.store.now _ c.if-depth-lt2.false c.requires c.exchange.auto.store
    c.exchange.ensures)
