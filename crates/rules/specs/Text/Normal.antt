-- Normalising a text.
use Rattle.std.specs.Prelude.{ℕ, List, [], ◌∷◌}
use Prim.Native.String.{String}
use Rattle.rules.specs.Text.Ascii.{ascii, is}
use Rattle.rules.specs.Text.Bytes.{Bytes, white, replace, trimmed, words, joined}
use Rattle.rules.specs.Text.Refusal.{Reply, answers}

-- a replacement: each `old` becomes `new`
pub record Replacement : Type 0 where
  pub old : Bytes
  pub new : Bytes

-- "in its order, each over the whole text"
unfoldable pub run : List Replacement → Bytes → Bytes
run [] t = t
run (r ∷ rs) t = run rs (replace r.old r.new t)

unfoldable pub becomes : String → String → Replacement
becomes old new = record { old = ascii old; new = ascii new }

-- the subscript digit with that last byte (226 130 128 is the digit 0), "only before `=`"
unfoldable pub subscript_becomes : ℕ → String → Replacement
subscript_becomes digit new = record { old = 226 ∷ 130 ∷ digit ∷ ascii "="; new = ascii new }

-- "the source's list of replacements"
unfoldable pub replacements : List Replacement
replacements =
    becomes "= " "="
    ∷ becomes ": " ":"
    ∷ becomes ", " ","
    ∷ becomes "| " "|"
    ∷ becomes "> " ">"
    ∷ becomes "< " "<"
    ∷ becomes " =" "="
    ∷ becomes " :" ":"
    ∷ becomes " ," ","
    ∷ becomes " |" "|"
    ∷ becomes " >" ">"
    ∷ becomes " <" "<"
    ∷ becomes ">" "|omit_inv "
    ∷ becomes "<" "|omit_fwd "
    ∷ subscript_becomes 128 "_0="
    ∷ subscript_becomes 129 "_1="
    ∷ subscript_becomes 130 "_2="
    ∷ subscript_becomes 131 "_3="
    ∷ subscript_becomes 132 "_4="
    ∷ subscript_becomes 133 "_5="
    ∷ subscript_becomes 134 "_6="
    ∷ subscript_becomes 135 "_7="
    ∷ subscript_becomes 136 "_8="
    ∷ subscript_becomes 137 "_9="
    ∷ becomes "$ " "$"
    ∷ []

-- the source's split_whitespace and join: one space between words, none at the ends
unfoldable pub squeezed : Bytes → Bytes
squeezed t = joined (words t)

-- "removing a colon that follows a newline"
unfoldable pub continued : Bytes → Bytes
continued t = replace (ascii "\n:") (ascii "\n") t

-- The normal form: the replacements, "after trimming white space, then colons at both ends, then removing a colon that
-- follows a newline". The source squeezes before them and after.
unfoldable pub normal : Bytes → Bytes
normal t = squeezed (run replacements (squeezed (continued (trimmed (is ":") (trimmed white t)))))

-- the call `normalise`
unfoldable pub normalise : Bytes → Reply Bytes
normalise t = answers (normal t)
