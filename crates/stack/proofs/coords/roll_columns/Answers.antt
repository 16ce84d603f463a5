-- `roll_columns`: the top r columns turned round, then the others of the m, and then all m: so the two parts change places and each is in
-- its own order again (`roll-end`).
use Rattle.stack.proofs.Rolled.{roll-end}
use Rattle.columns.proofs.InStore.{not-over}
use Prim.Native.Nat.{◌-◌}
use native.Mathlib.Omega.{arith}
use Rattle.stack.proofs.coords.roll_columns.Goals as goal

pub reverse-requires-2 : goal.reverse-requires-2
reverse-requires-2 c = record { from_le_to = omega arith; to_bound = omega arith; n_in_bounds = omega (arith, not-over (c.args.depth - c.args.r) c.args.depth c.args.n (omega arith), c.reverse.auto.store) }

pub returns : goal.returns
returns c =
    roll-end c.args.n c.args.depth c.args.m c.args.r c.args.store.now _ _ _ c.requires.r_le_m.0 c.requires.r_le_m.1.0 c.requires.n_in_bounds c.reverse.ensures c.reverse-2.ensures
    c.reverse-3.ensures c.reverse.auto.store c.reverse-2.auto.store c.reverse-3.auto.store
