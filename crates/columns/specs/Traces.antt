-- The check's machine as the code holds it: the four places, and the columns from the top of the stack to the end of an
-- array.
use Rattle.std.specs.Prelude.{◌≡◌, ℕ, ◌≤◌, ◌-◌, length, drop}
use Rattle.rules.specs.Operators.Acts.{Act}
use Rattle.rules.specs.Pipeline.Columns.{moved}
use Rattle.rules.specs.Pipeline.Check as rules
use Rattle.columns.specs.declared.traced.Traced.{Traced}

-- in the words of the rules
unfoldable pub machine : Traced → rules.Traced
machine t = record { tuples = t.tuple; columns = drop t.top t.columns }

-- how many columns there are
unfoldable pub depth : Traced → ℕ
depth t = 64 - t.top

pub record Whole (t : Traced) : Type 0 where
  pub four : length t.tuple ≡ 4
  pub most : length t.columns ≡ 64
  pub within : t.top ≤ 64

-- a step was taken
pub record Moved (a : Act) (t r : Traced) : Type 0 where
  pub whole : Whole r
  pub same : machine r ≡ moved rules.on_places a (machine t)
