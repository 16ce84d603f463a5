-- The words of `adapt`, in the words of the code.
use Rattle.std.specs.Prelude.{ℕ, map, take, drop, Option, None, Some}
use Rattle.rules.specs.Text.Bytes.{Bytes}
use Rattle.rules.specs.Operators.Adapt as adapt
use Rattle.adapt.specs.declared.word.Angle.{Angle}
use Rattle.adapt.specs.declared.word.Angle.TheVariants.{Radians, Degrees, Gons}
use Rattle.adapt.specs.declared.word.Word.{Word}

-- "four letters, each axis once, and an ending or none"
abbrev pub plain_word : Bytes → Option adapt.Word
plain_word t = adapt.word_of (map adapt.axis (take 4 t)) (adapt.ending (drop 4 t))

-- the number of an angle, and that of one or none
abbrev pub number : Angle → ℕ
number Radians = 0
number Degrees = 1
number Gons = 2

abbrev pub numbered : Option Angle → Option ℕ
numbered None = None
numbered (Some a) = Some (number a)

-- a word as the code has it, and that of one or none
unfoldable pub word_as : Word → adapt.Word
word_as w = record { axes = w.axes; angle = number w.angle }

unfoldable pub word_is : Option Word → Option adapt.Word
word_is None = None
word_is (Some w) = Some (word_as w)
