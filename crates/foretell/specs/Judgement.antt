-- What the check makes of an act at a depth, and what the act then has.
use Rattle.std.specs.Prelude.{◌≡◌, ℕ, ◌≤◌, true, cond, List, ltb, ℤ, Result, Ok, Err}
use Rattle.rules.specs.Operators.Acts.{Act}
use Rattle.rules.specs.Pipeline.Columns.{takes, too_few}
use Rattle.laws_steps.specs.Depth.{grown}
use Rattle.columns.specs.Doings.{does, able}
use Rattle.columns.specs.Traces.{depth, Whole}
use Rattle.columns.specs.declared.acts.Act as code
use Rattle.columns.specs.declared.traced.Traced.{Traced}
use Rattle.foretell.specs.declared.acts.Fault.{Fault}
use Rattle.foretell.specs.declared.acts.Fault.TheVariants.{Few, Many}

-- too few columns, too many after the act, or so many
unfoldable pub judged : Act → ℕ → Result ℕ Fault
judged a depth = cond (too_few a depth) (Err Few) (cond (ltb 64 (grown a depth)) (Err Many) (Ok (grown a depth)))

-- the act has what it needs: arguments that can be its own, enough columns, and room
pub record Ready (t : Traced) (a : code.Act) (l : List ℤ) : Type 0 where
  pub whole : Whole t
  pub rule : able a l ≡ true
  pub enough : takes (does a l) ≤ depth t
  pub room : grown (does a l) (depth t) ≤ 64
