-- `is_adapting`: each arm knows which variant it has, and one alone is that of `adapt`.
use mathlib.Core.Path.{refl}
use Rattle.rules.specs.Pipeline.Check.{adapting}
use Rattle.columns.specs.Doings.{does, doing}
use Rattle.foretell.proofs.ReadyActs.{others-not}
use Rattle.foretell.proofs.acts.is_adapting.Goals as goal

pub returns-in-Adapts : goal.returns-in-Adapts
unfolding doing does adapting
returns-in-Adapts c = rw c.in-Adapts.is refl

pub returns-in_default : goal.returns-in_default
unfolding doing
returns-in_default c = others-not _ _ c.in_default.in_default-own.keys2
