-- A PROJ text on its way to be cut into steps.
use Rattle.std.specs.Prelude.{ℕ, Bool, ◌||◌}
use Rattle.rules.specs.Text.Ascii.{ascii, is}
use Rattle.rules.specs.Text.Bytes.{Bytes, white, replace, trim_start, trimmed}
use Rattle.rules.specs.Text.Normal.{normal}
use Rattle.rules.specs.Text.Comments.{newlines, lined}
use Rattle.rules.specs.Proj.Words.{unplussed}

-- a space or a newline
unfoldable pub gap : ℕ → Bool
gap b = is " " b || is "\n" b

-- a space for each `+` behind a space, and then behind a newline, and for what it follows
unfoldable pub signless : Bytes → Bytes
signless t = replace (ascii "\n+") (ascii " ") (replace (ascii " +") (ascii " ") t)

-- with newlines as its line ends, and without the `+` behind a space or a newline
unfoldable pub spaced : Bytes → Bytes
spaced t = signless (newlines t)

-- without white space at the ends and the `+` in front
unfoldable pub unsigned : Bytes → Bytes
unsigned t = trim_start (is "+") (trimmed white t)

-- what is cut into steps
unfoldable pub cleaned : Bytes → Bytes
cleaned t = normal (lined (unplussed (newlines t)))
