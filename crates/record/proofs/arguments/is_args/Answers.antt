-- `is_args`: each arm knows which operators it has, and there `is_args` is the rule that the operator's own call tests.
use mathlib.Core.Path.{◌∙◌}
use native.Mathlib.Omega.{arith}
use Rattle.record.proofs.OperatorRules.{args-flags, args-order, args-documented, args-adapt}
use Rattle.record.proofs.arguments.is_args.Goals as goal

pub returns-in-9 : goal.returns-in-9
returns-in-9 c = c.is_order.ensures ∙ args-order _ c.in-9.is

pub returns-in-11 : goal.returns-in-11
returns-in-11 c = c.is_documented.ensures ∙ args-documented _ c.in-11.is

pub returns-in-0 : goal.returns-in-0
returns-in-0 c = c.is_rising.ensures ∙ args-flags _ _ (omega arith)

pub returns-in_default : goal.returns-in_default
returns-in_default c =
    c.is_adapt.ensures ∙ args-adapt _ _ (omega arith) c.in_default.in_default-own.rest.0.1 c.in_default.in_default-own.rest.1
