-- The walk over the steps: "a reader that knows the normalised text and its place in it". And where the steps stand.
use Rattle.std.specs.Prelude.{ℕ, suc, ◌+◌, ◌-◌, cond, List, [], ◌∷◌, length, take, drop, Option, Some, None}
use Rattle.rules.specs.Text.Ascii.{is}
use Rattle.rules.specs.Text.Lists.{non_empty}
use Rattle.rules.specs.Text.Bytes.{Bytes, Steps, cut, words}
use Rattle.rules.specs.Text.Refusal.{Reply, answers}
use Rattle.rules.specs.Text.Normal.{normal}
use Rattle.rules.specs.Text.Comments.{stripped}
use Rattle.rules.specs.Text.Split.{steps_of}
use Rattle.rules.specs.declared.Span.{Span}
use Rattle.rules.specs.declared.Cursor.{Cursor}
use Rattle.rules.specs.declared.Found.{Found}

-- a step that is found, from its first byte's place up to the place after its last, and where to go on
abbrev pub step_then : ℕ → ℕ → Cursor → Option Found
step_then from to then = Some (record { from = from; to = to; then = then })

-- in the walk the reader's place is then the one after its last byte
abbrev pub step : ℕ → ℕ → Option Found
step from to = step_then from to (record { at = to })

-- of pieces that follow each other from a place on, the first that is not empty
unfoldable pub found : ℕ → List Bytes → Option Found
found place [] = None
found place (p ∷ ps) = cond (non_empty (words p)) (step place (place + length p)) (found (place + suc (length p)) ps)

-- the next step from the reader's place on
unfoldable pub next : Bytes → ℕ → Option Found
next normalised place = found place (cut (is "|") (drop place normalised))

-- the bytes from one place up to another
abbrev pub part : ℕ → ℕ → Bytes → Bytes
part from to t = take (to - from) (drop from t)

-- The steps that a find tells of: the one found, and all from there on. They are the steps from the reader's place on.
unfoldable pub walked : Bytes → Option Found → Steps
walked normalised None = []
walked normalised (Some f) = words (part f.from f.to normalised) ∷ steps_of (drop f.then.at normalised)

-- ---- spans

-- "the first byte and length of its text": of pieces that follow each other from a place on, each that is not empty
unfoldable pub spans_from : ℕ → List Bytes → List Span
spans_from place [] = []
spans_from place (p ∷ ps) =
    let rest = spans_from (place + suc (length p)) ps in
    cond (non_empty (words p)) (record { from = place; length = length p } ∷ rest) rest

-- of the steps of a normalised text
unfoldable pub spans_of : Bytes → List Span
spans_of normalised = spans_from 0 (cut (is "|") normalised)

-- "in the normalised definition, taken before leading modifiers are turned to the end": comments are stripped, as splitting does
unfoldable pub definition : Bytes → Bytes
definition t = normal (stripped t)

unfoldable pub spans : Bytes → List Span
spans t = spans_of (definition t)

-- the call `definition`: the text in which they are counted
unfoldable pub define : Bytes → Reply Bytes
define t = answers (definition t)
