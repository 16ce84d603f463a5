-- Quoted bytes: `ascii "inv"` is the list 105, 110, 118, and `is "|" b` asks whether b is 124.
use Rattle.std.specs.Prelude.{ℕ, Bool, eqb}
use Prim.Native.Char.{Char, code}
use Prim.Native.String.{String, [], ◌∷◌}
use mathlib.Core.List as list

-- a quoted text as the list of its bytes
unfoldable pub ascii : String → list.List ℕ
ascii [] = list.[]
ascii (c ∷ s) = list.◌∷◌ (code c) (ascii s)

-- is the byte that character?
abbrev pub is : Char → ℕ → Bool
is c b = eqb b (code c)
