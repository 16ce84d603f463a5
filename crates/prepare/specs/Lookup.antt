-- The parameters that stand in a table of parts of a text, and a key among them.
use Rattle.std.specs.Prelude.{◌≡◌, Bool, not, List, Option, Some, None}
use Rattle.std.proofs.Common.{Bor}
use Rattle.rules.specs.Text.Lists.{is_none}
use Rattle.rules.specs.Text.Bytes.{Bytes}
use Rattle.rules.specs.Text.Parameters.{Parameter, Placed}
use Rattle.rules.specs.Operators.Arguments.{value_of}
use Rattle.parameters.specs.Parts as parts
use Rattle.parameters.specs.Tables.{text, table_in}
use Rattle.parameters.specs.declared.table.Parameters.{Parameters}

-- the parameters that stand in a table
abbrev pub params_in : Parameters → List Parameter
params_in p = parts.listed (text p) (table_in p)

-- the same in their places
abbrev pub placed_in : Parameters → List Placed
placed_in p = parts.placed_in (text p) (table_in p)

-- is the key given?
unfoldable pub given : Bytes → List Parameter → Bool
given key ps = not (is_none (value_of key ps))

-- what looking a key up gives
abbrev pub Looks : List Parameter → Bytes → Option (Bor Bytes) → Type 0
Looks ps key (Some v) = value_of key ps ≡ Some v.now
Looks ps key None = value_of key ps ≡ None
