-- Cutting a step into its parameters.
use Rattle.std.specs.Prelude.{ℕ, ◌+◌, Bool, true, false, cond, ◌&&◌, ◌||◌, length, eqb, ltb}
use mathlib.Core.List.{List, [], ◌∷◌, ◌++◌, map, flat_map}
use Rattle.rules.specs.Text.Ascii.{ascii, is}
use Rattle.rules.specs.Text.Lists.{any_of}
use Rattle.rules.specs.Text.Bytes.{Bytes, Words, same, before, behind, words}
use Rattle.rules.specs.Text.Refusal.{Reply, answers, refuses, and_then}
use Rattle.rules.specs.Text.Normal.{normal}
use Rattle.rules.specs.Text.Split.{only_modifiers, turned, line}

-- "parameters as `key=value`"
pub record Parameter : Type 0 where
  pub key : Bytes
  pub value : Bytes

-- "`a=b=c` gives `a` the value `b`"; an element without `=` has the value `true`
unfoldable pub parameter : Bytes → Parameter
parameter w =
    cond (any_of (is "=") w)
    (record { key = before (is "=") w; value = before (is "=") (behind (is "=") w) })
    (record { key = w; value = ascii "true" })

-- "`_name`"
unfoldable pub name : Bytes → Parameter
name t = record { key = ascii "_name"; value = t }

-- "The first element, if it has no `=`, is the name"
unfoldable pub elements : Words → List Parameter
elements [] = []
elements (w ∷ ws) = cond (any_of (is "=") w) (parameter w) (name w) ∷ map parameter ws

-- does the text come before the other, "in byte order"?
unfoldable pub precedes : Bytes → Bytes → Bool
precedes [] [] = false
precedes [] (y ∷ u) = true
precedes (x ∷ t) [] = false
precedes (x ∷ t) (y ∷ u) = ltb x y || (eqb x y && precedes t u)

-- Tables of things that have a key.
module _ {A : Type 0} (key_of : A → Bytes) where
  -- "a repeated key takes the last value": one entered into a table that is in byte order
  unfoldable pub entered_by : A → List A → List A
  entered_by p [] = p ∷ []
  entered_by p (q ∷ table) =
      cond (same (key_of p) (key_of q)) (p ∷ table)
      (cond (precedes (key_of p) (key_of q)) (p ∷ (q ∷ table))
      (q ∷ entered_by p table))

  -- "Keys come out in byte order": several entered into a table, one after the other
  unfoldable pub entered_all_by : List A → List A → List A
  entered_all_by [] table = table
  entered_all_by (p ∷ ps) table = entered_all_by ps (entered_by p table)

-- of parameters
abbrev pub entered : Parameter → List Parameter → List Parameter
entered p table = entered_by (λ (q : Parameter). q.key) p table

abbrev pub entered_all : List Parameter → List Parameter → List Parameter
entered_all ps table = entered_all_by (λ (q : Parameter). q.key) ps table

-- the parameters of a step's words, leading modifiers turned
unfoldable pub table_of : Words → List Parameter
table_of ws = entered_all (elements (turned ws)) []

-- "parameters 6, then 9": modifiers alone; "more than 32 distinct keys in a step, the name included"
unfoldable pub step_table : Words → Reply (List Parameter)
step_table ws =
    cond (only_modifiers ws) (refuses 6 0)
    (cond (ltb 32 (length (table_of ws))) (refuses 9 0)
    (answers (table_of ws)))

-- "A text with a separator gives only `_name`, its whole normalised form." (Normalising leaves no separator but `|`.)
unfoldable pub text_table : Bytes → Reply (List Parameter)
text_table normalised = cond (any_of (is "|") normalised) (answers (name normalised ∷ [])) (step_table (words normalised))

-- "Each step is normalised again when cut into parameters."
unfoldable pub parameters_of : Bytes → Reply (List Parameter)
parameters_of t = text_table (normal t)

-- ---- where they stand in the step's text

-- a parameter, and the byte of the step's text at which its value begins
pub record Placed : Type 0 where
  pub given : Parameter
  pub at : ℕ

-- where in a word the value begins: "the byte after its key or `=`"
unfoldable pub value_in : Bytes → ℕ
value_in w = cond (any_of (is "=") w) (length (before (is "=") w) + 1) (length w)

-- a word that begins at a byte; the value of a name is the word
unfoldable pub placed_word : ℕ → Bytes → Placed
placed_word at w = record { given = parameter w; at = at + value_in w }

unfoldable pub placed_name : ℕ → Bytes → Placed
placed_name at w = cond (any_of (is "=") w) (placed_word at w) (record { given = name w; at = at })

-- words with one space between, the first of which begins at a byte
unfoldable pub placed_words : ℕ → Words → List Placed
placed_words at [] = []
placed_words at (w ∷ ws) = placed_word at w ∷ placed_words (at + length w + 1) ws

-- the elements of "the step's text as cut into parameters", which is its words with one space between
unfoldable pub placed_elements : Words → List Placed
placed_elements [] = []
placed_elements (w ∷ ws) = placed_name 0 w ∷ placed_words (length w + 1) ws

-- the table of a step's words, leading modifiers turned, each parameter in its place
unfoldable pub placed_table : Words → List Placed
placed_table ws = entered_all_by (λ (q : Placed). q.given.key) (placed_elements (turned ws)) []

-- ---- the call

-- "parameters as `key=value`, are written each with a newline after it"
unfoldable pub parameter_line : Parameter → Bytes
parameter_line p = line (p.key ++ (ascii "=" ++ p.value))

-- the call `parameters`
unfoldable pub parameters : Bytes → Reply Bytes
parameters t = and_then (parameters_of t) (λ table. answers (flat_map parameter_line table))
