-- `store`: the first n records are copied over those of the row, and the others are as they were (`laid`).
use mathlib.Core.Path.{ap}
use mathlib.Core.List.{List, ◌++◌}
use lib.ListN.{drop}
use Rattle.rules.specs.declared.Step.{Step}
use Rattle.rows.specs.Row.{laid}
use Rattle.rows.proofs.store.Goals as goal

pub returns : goal.returns
unfolding laid
returns c = ap (λ (l : List Step). l ++ drop c.args.n c.args.table.now) c.copy_from_slice.ensures.after
