-- The rule goes by the name; that of `adapt` knows the mode.
use mathlib.Core.Path.{ap}
use Rattle.rules.specs.Text.Refusal.{answers}
use Rattle.prepare.proofs.OwnRules.{own-push, own-pop}
use Rattle.prepare.proofs.own.own_rule.Goals as goal

pub own_stack-requires : goal.own_stack-requires
own_stack-requires c = record { lowers = rw c.in-Stack.is at c.requires.lowers; number_value = c.requires.number_value }

pub own_order-requires : goal.own_order-requires
own_order-requires c = record { lowers = rw c.in-Axisswap.is at c.requires.lowers; number_value = c.requires.number_value }

pub returns-in-Push : goal.returns-in-Push
returns-in-Push c = rw c.in-Push.is (own-push _ _ c.axes_of.ensures (ap answers c.recorded.ensures))

pub returns-in-Pop : goal.returns-in-Pop
returns-in-Pop c = rw c.in-Pop.is (own-pop _ _ c.axes_of-in-Pop.ensures (ap answers c.recorded-in-Pop.ensures))

pub returns-in-Stack : goal.returns-in-Stack
returns-in-Stack c = rw c.in-Stack.is (c.own_stack.ensures _)

pub returns-in-Axisswap : goal.returns-in-Axisswap
returns-in-Axisswap c = rw c.in-Axisswap.is (c.own_order.ensures _)

pub returns-in-Adapt : goal.returns-in-Adapt
returns-in-Adapt c = rw c.in-Adapt.is c.own_adapt.ensures
