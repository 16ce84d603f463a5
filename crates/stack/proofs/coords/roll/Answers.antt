-- `roll`: with fewer than m columns every number becomes NaN, as the act says; else rolling n times is rolling as often as remains of n
-- without full turns.
use native.Mathlib.Omega.{arith}
use Rattle.stack.proofs.AllOrNone.{roll-few}
use Rattle.stack.proofs.Rolled.{roll-acted}
use Rattle.stack.proofs.coords.roll.Goals as goal

pub returns-then-depth-m : goal.returns-then-depth-m
returns-then-depth-m c =
    roll-few c.args.depth c.args.xs.now c.args.store.now _ c.nan_all.auto.xs c.nan_all.ensures c.args.m c.args.n c.if-depth-m.true

pub roll_columns-requires : goal.roll_columns-requires
roll_columns-requires c = record { r_le_m = (omega (arith, c.turns.ensures.below), (c.if-depth-m.false, c.requires.depth_bound)); n_in_bounds = c.requires.xs_in_bounds }

pub returns : goal.returns
returns c =
    roll-acted c.args.m c.args.n _ c.args.depth c.args.xs.now c.args.store.now _ c.if-depth-m.false c.turns.ensures c.roll_columns.ensures
