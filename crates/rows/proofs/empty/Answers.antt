-- A table of blank records, for a row of so many.
use mathlib.Core.Path.{◌≡◌, ap, ◌∙◌}
use mathlib.Core.List.{List}
use Prim.Native.Nat.{ℕ}
use Rattle.rules.specs.declared.Step.{Step}
use Rattle.rules.specs.declared.Table.{Table}
use Rattle.rows.specs.Row.{blanks, tabled, emptied}
use Rattle.rows.proofs.empty.Goals as goal

of-blanks : {xs : List Step} {n : ℕ} {t : Table} → t ≡ tabled xs n → xs ≡ blanks → t ≡ emptied n
of-blanks {xs} {n} e f = e ∙ ap (λ (l : List Step). tabled l n) f

pub returns : goal.returns
returns c = of-blanks c.table_of.ensures c.blank_row-steps.ensures
