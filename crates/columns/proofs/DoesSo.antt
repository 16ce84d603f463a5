-- A doing that does an act does whatever is equal to that act.
use mathlib.Core.Path.{◌≡◌, subst}
use Rattle.rules.specs.Operators.Acts.{Act}
use Rattle.columns.specs.Doings.{Does}
use Rattle.columns.specs.declared.acts.Doing.{Doing}

pub does-as : {a b : Act} {d : Doing} → a ≡ b → Does a d → Does b d
does-as {d = d} e h = subst (λ (x : Act). Does x d) e h
