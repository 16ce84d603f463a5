-- A lent row of step records, and the table of 64 that stands for it.
use Rattle.std.specs.Prelude.{ℕ, ◌≤◌, min, List, [], ◌++◌, length, take, drop, replicate}
use Rattle.rules.specs.Pipeline.Record.{step_with}
use Rattle.rules.specs.declared.Step.{Step}
use Rattle.rules.specs.declared.Table.{Table}

-- the record that stands in a table where a row has none. It is never read, so any would do: it has no arguments and one mark
unfoldable pub spare : Step
spare = step_with 0 [] 0 0 1

-- 64 of them
unfoldable pub blanks : List Step
blanks = replicate 64 spare

-- the table that has these records, for a row of n
abbrev pub tabled : List Step → ℕ → Table
tabled steps n = record { steps = steps; n = n }

abbrev pub emptied : ℕ → Table
emptied n = tabled blanks n

-- the first k records of one row, laid over the first of another
unfoldable pub laid : List Step → ℕ → List Step → List Step
laid xs k ys = take k xs ++ drop k ys

-- the table that stands for a row: its first 64 records, and its true length
abbrev pub loaded : List Step → Table
loaded xs = tabled (laid xs (min (length xs) 64) blanks) (length xs)

-- n records of a table have room in a row
pub record Fits (n : ℕ) (row : List Step) : Type 0 where
  pub held : n ≤ 64
  pub room : n ≤ length row
