-- The parts of the text of `adapt`, as the functions write them.
use Rattle.std.specs.Prelude.{ℕ, ◌-◌, ◌/◌, ◌%◌, Bool, List, [], ◌∷◌, ◌++◌, map, ℤ, pos, get_or}
use Rattle.rules.specs.Text.Ascii.{ascii}
use Rattle.rules.specs.Text.Bytes.{Bytes}
use Rattle.rules.specs.Text.Decimal.{signed, minus}
use Rattle.rules.specs.Operators.Arguments.{size}
use Rattle.rules.specs.Operators.Adapt.{letter, ending_of}

-- a word behind its key: the letters of its axes, and the ending of its angle
unfoldable pub word_text : Bytes → List ℤ → ℕ → Bytes
word_text key l angle = key ++ (map letter l ++ ending_of angle)

-- the name and both words, by their axes and the code of the factor that goes from one angle to the other
unfoldable pub words_text : ℕ → List ℤ → List ℤ → Bytes
words_text code from to = word_text (ascii "adapt from=") from (code / 3) ++ word_text (ascii " to=") to (code % 3)

-- the axis of an output in the documented mode: that of the input place which it takes, or the same turned
unfoldable pub axis_from : List ℤ → ℤ → ℤ
axis_from from x = signed (minus x) (size (get_or from (size x - 1) (pos 0)))

-- a letter, whether it is the first or not
unfoldable pub lettered : Bool → ℤ → Bytes
lettered begun x = letter x ∷ []
