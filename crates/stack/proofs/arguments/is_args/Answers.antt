-- `is_args`: each arm knows which numbers it has, and with them the rule: places, a roll, or no arguments at all.
use mathlib.Core.Path.{◌∙◌}
use native.Mathlib.Omega.{arith}
use Rattle.stack.proofs.ActionRules.{args-places, args-roll, args_none}
use Rattle.stack.proofs.arguments.is_args.Goals as goal
use Rattle.stack.proofs.arguments.is_args.Goals.{in_default-via-then-operator-lt2, in_default-via-else-operator-lt2+else-operator-lt5+else-operator-lt7}

pub returns-in-2 : goal.returns-in-2
returns-in-2 c = c.is_places.ensures ∙ args-places _ _ (omega arith) (omega arith)

pub returns-in-5 : goal.returns-in-5
returns-in-5 c = c.is_roll.ensures ∙ args-roll _ _ (omega arith) (omega arith)

pub returns-in_default : goal.returns-in_default
returns-in_default c =
    elim c.in_default.branch [
      | in_default-via-then-operator-lt2 w ↦ absurd (omega arith)
      | in_default-via-else-operator-lt2+else-operator-lt5+else-operator-lt7 w ↦ (c.is_empty.ensures ∙ args_none _ _ (omega arith) c.requires.1)
    ]
