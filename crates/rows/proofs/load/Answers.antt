-- `load`: as many of the row's records as have room are copied over blank ones (`laid`).
use mathlib.Core.Path.{◌≡◌}
use mathlib.Core.List.{List, ◌++◌}
use Prim.Native.Nat.{ℕ, min}
use borrow.Author.Rules.{rules}
use lib.ListN.{length, take, drop}
use Rattle.rules.specs.declared.Step.{Step}
use Rattle.rules.specs.declared.Table.{Table}
use Rattle.rows.specs.Row.{blanks, tabled, laid, loaded}
use Rattle.rows.proofs.load.Goals as goal

loaded-so : (row : List Step) {front blank : List Step} {held : ℕ} {t : Table} → t ≡ tabled (front ++ drop held blank) (length row) → held ≡ min (length row) 64 → front ≡ take held row → blank ≡ blanks
    → t ≡ loaded row
unfolding laid
loaded-so row e h f b = rw (e, f, h, b)

pub returns : goal.returns
returns c = loaded-so _ c.table_of.ensures (search rules) c.copy_from_slice.ensures.after c.blank_row-blank.ensures
