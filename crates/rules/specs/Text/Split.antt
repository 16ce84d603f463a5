-- Splitting a definition into its steps.
use Rattle.std.specs.Prelude.{Bool, cond, ◌&&◌, ◌||◌, length, ltb}
use mathlib.Core.List.{List, [], ◌∷◌, ◌++◌, map, flat_map}
use Rattle.rules.specs.Text.Ascii.{ascii, is}
use Rattle.rules.specs.Text.Lists.{any_of, all_of, kept, place_of, non_empty}
use Rattle.rules.specs.Text.Bytes.{Bytes, Words, Steps, same, cut, words, joined}
use Rattle.rules.specs.Text.Refusal.{Reply, answers, refuses, and_then}
use Rattle.rules.specs.Text.Normal.{normal}
use Rattle.rules.specs.Text.Comments.{stripped}

-- ---- modifiers

-- "`inv`, `omit_fwd` or `omit_inv`"
unfoldable pub modifier : Bytes → Bool
modifier w = same w (ascii "inv") || (same w (ascii "omit_fwd") || same w (ascii "omit_inv"))

-- "a step's words, at least one, are all `inv`, `omit_fwd` or `omit_inv`"
unfoldable pub only_modifiers : Words → Bool
only_modifiers ws = non_empty ws && all_of modifier ws

-- the modifiers in front, and the words after them
unfoldable pub leading : Words → Words
leading [] = []
leading (w ∷ ws) = cond (modifier w) (w ∷ leading ws) []

unfoldable pub following : Words → Words
following [] = []
following (w ∷ ws) = cond (modifier w) (following ws) (w ∷ ws)

-- "turns leading modifiers to the end"
unfoldable pub turned : Words → Words
turned ws = following ws ++ leading ws

-- ---- steps

-- "cuts at `|`, drops empty steps": the steps of a normalised text, each as its words
unfoldable pub steps_of : Bytes → Steps
steps_of normalised = kept non_empty (map words (cut (is "|") normalised))

-- "Splitting strips comments, normalises, cuts .."
unfoldable pub steps : Bytes → Steps
steps t = steps_of (normal (stripped t))

-- a step's text, as splitting gives it
unfoldable pub step_text : Words → Bytes
step_text ws = joined (turned ws)

-- "Splitting tries 6, then 8": the first step of modifiers alone; "more than 64 steps"
unfoldable pub split_steps : Steps → Reply (List Bytes)
split_steps ss =
    cond (any_of only_modifiers ss) (refuses 6 (place_of only_modifiers ss))
    (cond (ltb 64 (length ss)) (refuses 8 0)
    (answers (map step_text ss)))

-- "written each with a newline after it"
unfoldable pub line : Bytes → Bytes
line t = t ++ ascii "\n"

-- the call `split`
unfoldable pub split : Bytes → Reply Bytes
split t = and_then (split_steps (steps t)) (λ texts. answers (flat_map line texts))
