-- The flag of a place.
use Rattle.std.specs.Prelude.{Bool, ◌∷◌, ℤ}
use Rattle.rules.specs.Text.Bytes.{Bytes}
use Rattle.rules.specs.Operators.PushPop.{flag_of}

-- after a space, whether it is the first or not
unfoldable pub flagged : Bool → ℤ → Bytes
flagged begun x = 32 ∷ flag_of x
