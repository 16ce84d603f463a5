-- `run_act`: each arm knows which act it has, and there the act of the doing is what the operator's own call ensures (`found`). What a call
-- requires of its arguments is the rule that the doing keeps.
use mathlib.Core.Path.{◌≡◌, sym}
use Prim.Native.Nat.{◌≤◌}
use native.Mathlib.Omega.{arith}
use lib.ListN.{length, take}
use Rattle.columns.specs.Doings.{does, doing, Does}
use Rattle.pipeline.proofs.ActedSo.{found, long, push-room, roll-times, order-rule, adapt-rule, drop-acted, order-acted, adapt-acted}
use borrow.Author.Rules.{rules}
use Rattle.pipeline.proofs.run_act.Goals as goal
use Rattle.pipeline.proofs.run_act.Goals.{Start}

-- eight slots, and as many arguments as the doing says
full : (c : Start) → length c.args.d.args ≡ 8
full c = (let e : length c.args.d.args ≡ 8 = search rules in e)

does-so : (c : Start) → Does (doing c.args.d) c.args.d
does-so c = c.requires.does

shared : (c : Start) → c.args.d.n ≤ length c.args.d.args
shared c = omega (arith, full c, (does-so c).slots)

many : (c : Start) → c.args.d.n ≡ length (take c.args.d.n c.args.d.args)
many c = sym (long c.args.d (full c) (does-so c))

pub slice_bounds-l-end : goal.slice_bounds-l-end
slice_bounds-l-end c = many (goal.at.slice_bounds-l-end c).Start

pub push-requires : goal.push-requires
push-requires c = record { depth_bound = c.requires.depth_bound; args_len_bound = omega (arith, long c.args.d (full (goal.at.push-requires c).Start) (does-so (goal.at.push-requires c).Start), (does-so (goal.at.push-requires c).Start).slots); xs_in_bounds = push-room c.args.d (full (goal.at.push-requires c).Start) (does-so (goal.at.push-requires c).Start) c.args.depth _ _ c.in-Pushes.is c.requires.tuples_in_bounds_2 }

pub roll-requires : goal.roll-requires
roll-requires c = record { depth_bound = c.requires.depth_bound; n_bound = roll-times c.args.d (full (goal.at.roll-requires c).Start) (does-so (goal.at.roll-requires c).Start) c.in-Rolls.is; xs_in_bounds = c.requires.tuples_in_bounds }

pub axisswap-requires : goal.axisswap-requires
axisswap-requires c =
    order-rule c.args.d (full (goal.at.axisswap-requires c).Start) (does-so (goal.at.axisswap-requires c).Start) c.in-Orders.is

pub adapt-requires : goal.adapt-requires
adapt-requires c =
    adapt-rule c.args.d (full (goal.at.adapt-requires c).Start) (does-so (goal.at.adapt-requires c).Start) c.in-Adapts.is

pub returns-in-Pushes : goal.returns-in-Pushes
unfolding does
returns-in-Pushes c =
    found c.args.d c.in-Pushes.is c.push.ensures

pub returns-in-Pops : goal.returns-in-Pops
unfolding does
returns-in-Pops c =
    found c.args.d c.in-Pops.is c.pop.ensures

pub returns-in-PopsAll : goal.returns-in-PopsAll
unfolding does
returns-in-PopsAll c =
    found c.args.d c.in-PopsAll.is c.pop_all.ensures

pub returns-in-Flips : goal.returns-in-Flips
unfolding does
returns-in-Flips c =
    found c.args.d c.in-Flips.is c.flip.ensures

pub returns-in-Rolls : goal.returns-in-Rolls
unfolding does
returns-in-Rolls c =
    found c.args.d c.in-Rolls.is c.roll.ensures

pub returns-in-Swaps : goal.returns-in-Swaps
unfolding does
returns-in-Swaps c =
    found c.args.d c.in-Swaps.is c.swap.ensures

pub returns-in-Drops : goal.returns-in-Drops
returns-in-Drops c =
    drop-acted c.args.d (full (goal.at.returns-in-Drops c).Start) (does-so (goal.at.returns-in-Drops c).Start) c.args.depth c.args.tuples.now c.args.columns.now c.in-Drops.is

pub returns-in-Orders : goal.returns-in-Orders
returns-in-Orders c =
    order-acted c.args.d (full (goal.at.returns-in-Orders c).Start) (does-so (goal.at.returns-in-Orders c).Start) c.args.depth c.args.tuples.now c.args.columns.now _ c.in-Orders.is
    c.axisswap.auto.xs c.axisswap.ensures

pub returns-in-Adapts : goal.returns-in-Adapts
returns-in-Adapts c =
    adapt-acted c.args.d (full (goal.at.returns-in-Adapts c).Start) (does-so (goal.at.returns-in-Adapts c).Start) c.args.depth c.args.tuples.now c.args.columns.now _ c.in-Adapts.is
    c.adapt.auto.xs c.adapt.ensures
