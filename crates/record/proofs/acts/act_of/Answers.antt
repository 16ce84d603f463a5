-- `act_of`: each arm knows which operators it has, and a record that passes `made` keeps their rule on arguments; so what the operator's
-- own call ensures in the step's own direction is what the rules say.
use mathlib.Core.Path.{refl}
use native.Mathlib.Omega.{arith}
use Rattle.rules.specs.Operators.Documented.{adapt_in}
use Rattle.rules.specs.Pipeline.Record.{args}
use Rattle.rules.specs.declared.Mode.TheVariants as mode-is
use Rattle.laws_records.specs.MadeSo.{made_so}
use Rattle.columns.proofs.DoesSo.{does-as}
use Rattle.record.proofs.OperatorRules.{the_last}
use Rattle.record.proofs.Directed.{flags-rule, action-rule, order-rule, adapt-rule, the-order, the-documented, does-so}
use Rattle.record.proofs.acts.act_of.Goals as goal

pub act_of-requires : goal.act_of-requires
unfolding args
act_of-requires c = record { n_bound = (made_so _ c.requires).slots; args_value = order-rule _ c.requires c.in-9.is }

pub act_of-requires-in-11 : goal.act_of-requires-in-11
unfolding args adapt_in
act_of-requires-in-11 c = record { n_bound = (made_so _ c.requires).slots; args_value = adapt-rule _ c.requires mode-is.Documented (the-documented c.in-11.is) }

pub act_of-requires-in-0 : goal.act_of-requires-in-0
unfolding args
act_of-requires-in-0 c = record { operator_bound = omega arith; n_bound = (made_so _ c.requires).slots; args_value = flags-rule _ c.requires (omega arith) }

pub act_of-requires-in-2-to-8 : goal.act_of-requires-in-2-to-8
act_of-requires-in-2-to-8 c = action-rule _ c.requires (omega arith) (omega arith)

pub act_of-requires-in_default : goal.act_of-requires-in_default
unfolding args adapt_in
act_of-requires-in_default c = record { n_bound = (made_so _ c.requires).slots; args_value = adapt-rule _ c.requires mode-is.Crate (the_last _ (omega arith) c.in_default.in_default-own.rest.0.1 c.in_default.in_default-own.rest.1) }

pub returns-in-9 : goal.returns-in-9
unfolding args
returns-in-9 c =
    does-as (does-so c.args.direction c.args.step (the-order c.in-9.is) c.directed-own.ensures) c.act_of.ensures

pub returns-in-11 : goal.returns-in-11
unfolding args adapt_in
returns-in-11 c =
    does-as (does-so c.args.direction c.args.step (the-documented c.in-11.is) c.directed-own.ensures) c.act_of-in-11.ensures

pub returns-in-0 : goal.returns-in-0
unfolding args
returns-in-0 c =
    does-as (does-so c.args.direction c.args.step refl c.directed-own.ensures) c.act_of-in-0.ensures

pub returns-in-2-to-8 : goal.returns-in-2-to-8
unfolding args
returns-in-2-to-8 c =
    does-as (does-so c.args.direction c.args.step refl c.directed-own.ensures) c.act_of-in-2-to-8.ensures

pub returns-in_default : goal.returns-in_default
unfolding args adapt_in
returns-in_default c =
    does-as (does-so c.args.direction c.args.step (the_last _ (omega arith) c.in_default.in_default-own.rest.0.1 c.in_default.in_default-own.rest.1) c.directed-own.ensures) c.act_of-in_default.ensures
