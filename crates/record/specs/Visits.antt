-- The steps of a table in running order.
use Rattle.std.specs.Prelude.{ℕ, suc, ◌-◌, List, length, take, drop}
use Rattle.rules.specs.Pipeline.Running.{Numbered, running_from}
use Rattle.rules.specs.declared.Step.{Step}
use Rattle.rules.specs.declared.Direction.{Direction}
use Rattle.rules.specs.declared.Direction.TheVariants.{Forward, Inverse}

-- the step that comes after i others of n, counted from 0
unfoldable pub visited : Direction → ℕ → ℕ → ℕ
visited Forward i n = i
visited Inverse i n = n - 1 - i

-- those that are left to run then
unfoldable pub left_from : Direction → ℕ → List Step → List Numbered
left_from Forward i l = running_from (suc i) Forward (drop i l)
left_from Inverse i l = running_from 1 Inverse (take (length l - i) l)
