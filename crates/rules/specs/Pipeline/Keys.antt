-- The keys of a step, and refusals 11 to 13.
use Rattle.std.specs.Prelude.{Bool, true, false, not, List, [], ◌∷◌, ◌++◌, length, ltb, Option, Some, None}
use Rattle.rules.specs.Text.Ascii.{ascii}
use Rattle.rules.specs.Text.Lists.{is_none}
use Rattle.rules.specs.Text.Bytes.{Bytes, same}
use Rattle.rules.specs.Text.Parameters.{Parameter}
use Rattle.rules.specs.Text.Decimal.{series, pieces}
use Rattle.rules.specs.Operators.Keys.{Key, flag, worded, kind_in}
use Rattle.rules.specs.Operators.Table.{wording_of}
use Rattle.rules.specs.declared.Name.{Name}
use Rattle.rules.specs.declared.Kind.{Kind}
use Rattle.rules.specs.declared.Kind.TheVariants.{Flag, Series, Word}

-- the name, and "Every operator also takes `inv`, `omit_fwd`, `omit_inv`."
unfoldable pub every_key : List Key
every_key = worded "_name" ∷ flag "inv" ∷ flag "omit_fwd" ∷ flag "omit_inv" ∷ []

unfoldable pub own_keys : Name → List Key
own_keys n = (wording_of n).keys

-- what the operator's key takes, if the operator has it
unfoldable pub kind_of : Name → Parameter → Option Kind
kind_of n p = kind_in (every_key ++ own_keys n) p.key

-- 11: "a key the operator lacks"
unfoldable pub is_lacking : Option Kind → Bool
is_lacking (Some kind) = false
is_lacking None = true

unfoldable pub unknown : Name → Parameter → Bool
unknown n p = is_lacking (kind_of n p)

-- 12: "a series element not in decimal form, or a flag other than bare or `=true`"
unfoldable pub misspelt : Option Kind → Bytes → Bool
misspelt (Some Flag) value = not (same value (ascii "true"))
misspelt (Some Series) value = is_none (series value)
misspelt (Some Word) value = false
misspelt None value = false

-- 13: "a series of more than 8 elements"
unfoldable pub too_long : Option Kind → Bytes → Bool
too_long (Some Flag) value = false
too_long (Some Series) value = ltb 8 (length (pieces value))
too_long (Some Word) value = false
too_long None value = false
