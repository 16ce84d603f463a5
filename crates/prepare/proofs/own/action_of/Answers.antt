-- The seven actions in the order of their operators, whose numbers follow each other from 2 on.
use mathlib.Core.Path.{refl}
use lib.Dec.{lit≤}
use Rattle.rules.specs.Text.Ascii.{ascii}
use Rattle.rules.specs.Operators.Stack.{actions}
use Rattle.prepare.specs.Actions.{action_at, key_at}
use Rattle.prepare.proofs.OneAction.{chosen_none}
use Rattle.prepare.proofs.own.action_of.Goals as goal

pub with_action-a-requires : goal.with_action-a-requires
unfolding key_at action_at actions ascii
with_action-a-requires c = record { le_operator = (lit≤ tt, lit≤ tt); key_value = refl; chosen = chosen_none _ }

pub with_action-b-requires : goal.with_action-b-requires
unfolding key_at action_at actions ascii
with_action-b-requires c = record { le_operator = (lit≤ tt, lit≤ tt); key_value = refl; chosen = c.with_action-a.ensures }

pub with_action-c-requires : goal.with_action-c-requires
unfolding key_at action_at actions ascii
with_action-c-requires c = record { le_operator = (lit≤ tt, lit≤ tt); key_value = refl; chosen = c.with_action-b.ensures }

pub with_action-d-requires : goal.with_action-d-requires
unfolding key_at action_at actions ascii
with_action-d-requires c = record { le_operator = (lit≤ tt, lit≤ tt); key_value = refl; chosen = c.with_action-c.ensures }

pub with_action-e-requires : goal.with_action-e-requires
unfolding key_at action_at actions ascii
with_action-e-requires c = record { le_operator = (lit≤ tt, lit≤ tt); key_value = refl; chosen = c.with_action-d.ensures }

pub with_action-f-requires : goal.with_action-f-requires
unfolding key_at action_at actions ascii
with_action-f-requires c = record { le_operator = (lit≤ tt, lit≤ tt); key_value = refl; chosen = c.with_action-e.ensures }

pub with_action-requires : goal.with_action-requires
unfolding key_at action_at actions ascii
with_action-requires c = record { le_operator = (lit≤ tt, lit≤ tt); key_value = refl; chosen = c.with_action-f.ensures }
