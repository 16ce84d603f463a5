-- `forward`: each arm knows the operator's number, and with it the action: so the act, its arguments and their rule are what the rules say.
use mathlib.Core.Path.{sym}
use native.Mathlib.Omega.{arith}
use Rattle.stack.proofs.LastAction.{the_last}
use lib.Seq.{length-take-le}
use Rattle.stack.proofs.Directions.{forward-push, forward-pop, forward-flip, forward-roll, forward-unroll, forward-swap, forward-drop, roll-rule, unroll-rule}
use Rattle.stack.proofs.acts.forward.Goals as goal

pub slice_bounds-rolling-end : goal.slice_bounds-rolling-end
slice_bounds-rolling-end c =
    sym (length-take-le c.args.n c.args.args (omega (arith, c.requires.slots, c.well_formed.1.0.1.0.1)))

pub rolling-requires : goal.rolling-requires
rolling-requires c = roll-rule c.requires c.in-5.is

pub slice_bounds-unrolling-end : goal.slice_bounds-unrolling-end
slice_bounds-unrolling-end c =
    sym (length-take-le c.args.n c.args.args (omega (arith, c.requires.slots, c.well_formed.1.0.1.0.1)))

pub unrolling-requires : goal.unrolling-requires
unrolling-requires c = unroll-rule c.requires c.in-6.is

pub returns-in-2 : goal.returns-in-2
returns-in-2 c = forward-push c.requires c.in-2.is c.doing.ensures

pub returns-in-3 : goal.returns-in-3
returns-in-3 c = forward-pop c.requires c.in-3.is c.doing-in-3.ensures

pub returns-in-4 : goal.returns-in-4
returns-in-4 c = forward-flip c.requires c.in-4.is c.doing-in-4.ensures

pub returns-in-5 : goal.returns-in-5
returns-in-5 c =
    forward-roll c.requires c.in-5.is c.rolling.ensures c.doing-in-5.ensures

pub returns-in-6 : goal.returns-in-6
returns-in-6 c =
    forward-unroll c.requires c.in-6.is c.unrolling.ensures c.doing-in-6.ensures

pub returns-in-7 : goal.returns-in-7
returns-in-7 c = forward-swap c.requires c.in-7.is c.doing-in-7.ensures

pub returns-in_default : goal.returns-in_default
returns-in_default c =
    forward-drop c.requires (the_last _ (c.requires.least, c.requires.most) c.in_default.in_default-own.rest.0.0.0.0.0.1 c.in_default.in_default-own.rest.0.0.0.0.1
    c.in_default.in_default-own.rest.0.0.0.1 c.in_default.in_default-own.rest.0.0.1 c.in_default.in_default-own.rest.0.1 c.in_default.in_default-own.rest.1)
    c.doing-in_default.ensures
