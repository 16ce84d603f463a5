-- The list of replacements as the code has it, in bytes.
use Rattle.std.specs.Prelude.{List, [], ◌∷◌, ◌++◌, length}
use Rattle.rules.specs.Text.Bytes.{Bytes}
use Rattle.rules.specs.Text.Normal.{Replacement}

-- of each replacement the lengths of `old` and of `new`, and then both
unfoldable pub table : List Replacement → Bytes
table [] = []
table (r ∷ rs) = length r.old ∷ length r.new ∷ (r.old ++ (r.new ++ table rs))
