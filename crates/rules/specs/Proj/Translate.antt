-- Translating a PROJ text.
use Rattle.std.specs.Prelude.{ℕ, suc, Bool, false, cond, ◌&&◌, ◌||◌, not, List, [], ◌∷◌, map, reverse, drop, ltb}
use Rattle.std.proofs.Math.Bool.{xor}
use Rattle.rules.specs.Text.Ascii.{ascii, is}
use Rattle.rules.specs.Text.Lists.{any_of, all_of, kept, non_empty}
use Rattle.rules.specs.Text.Bytes.{Bytes, Words, Steps, white, same, starts, contains, trimmed, joined_by, joined}
use Rattle.rules.specs.Text.Refusal.{Reply, answers, refuses}
use Rattle.rules.specs.Proj.Words.{proj_steps, is_proj, first_proj, exchanged, tidied}

-- the word `inv`, and any other
unfoldable pub is_inv : Bytes → Bool
is_inv w = same w (ascii "inv")

unfoldable pub not_inv : Bytes → Bool
not_inv w = not (is_inv w)

-- ---- the pipeline

-- "the first `proj=` is `proj=pipeline`"
unfoldable pub is_pipeline : Words → Bool
is_pipeline ws = same (first_proj ws) (ascii "proj=pipeline")

-- the other words of a first step that is the pipeline's
unfoldable pub pipeline_words : Steps → Words
pipeline_words [] = []
pipeline_words (s ∷ ss) = cond (is_pipeline s) (drop 1 (exchanged s)) []

-- what it says to every step: "globals", and whether it is "inverted"
pub record Pipeline : Type 0 where
  pub globals : Bytes
  pub inverted : Bool

-- "Globals go in as one element": these words but `inv`, which inverts the pipeline
unfoldable pub pipeline : Steps → Pipeline
pipeline ss = record { globals = joined (kept not_inv (pipeline_words ss)); inverted = any_of is_inv (pipeline_words ss) }

-- ---- refusals

-- 3: "`init=` stands before `proj=` (or without one) in a step"
unfoldable pub init_first : Words → Bool
init_first [] = false
init_first (w ∷ ws) = starts (ascii "init=") w || (not (is_proj w) && init_first ws)

-- 5: "with `proj=` cut off (an emptied word counts), a step's words are all `inv`, no globals, pipeline not inverted"
unfoldable pub only_inv : Pipeline → Words → Bool
only_inv p ws = all_of is_inv (exchanged ws) && (not (non_empty p.globals) && not p.inverted)

-- "Translation takes the first faulty step, trying 3, 4, 5." 4: "in a step after the first, the first `proj=` is
-- `proj=pipeline`". The steps from a place on; where none is at fault, the reply is `otherwise`.
unfoldable pub first_fault : Pipeline → ℕ → Steps → Reply Bytes → Reply Bytes
first_fault p place [] otherwise = otherwise
first_fault p place (s ∷ ss) otherwise =
    cond (init_first s) (refuses 3 place)
    (cond (ltb 1 place && is_pipeline s) (refuses 4 place)
    (cond (only_inv p s) (refuses 5 place)
    (first_fault p (suc place) ss otherwise)))

-- ---- a step's text

-- "as one element at position 1": after the first
unfoldable pub at_position1 : Bytes → Words → Words
at_position1 x [] = x ∷ []
at_position1 x (w ∷ ws) = w ∷ (x ∷ ws)

-- the globals, if any, go in
unfoldable pub with_globals : Pipeline → Words → Words
with_globals p ws = cond (non_empty p.globals) (at_position1 p.globals ws) ws

-- "Omit marks are exchanged."
unfoldable pub exchanged_mark : Bytes → Bytes
exchanged_mark w =
    cond (same w (ascii "omit_fwd")) (ascii "omit_inv")
    (cond (same w (ascii "omit_inv")) (ascii "omit_fwd")
    w)

-- a step's elements but `inv`, omit marks exchanged
unfoldable pub without_inv : Words → Words
without_inv ws = map exchanged_mark (kept not_inv ws)

-- "turns each `inv`": it stands, at position 1, where the step or the pipeline is inverted, and not both
unfoldable pub marked : Pipeline → Words → Words
unfolding xor
marked p ws = cond (xor (any_of is_inv ws) p.inverted) (at_position1 (ascii "inv") (without_inv ws)) (without_inv ws)

-- a step of the answer
unfoldable pub step_of : Pipeline → Words → Bytes
step_of p ws = trimmed white (joined (marked p (with_globals p (tidied ws))))

-- ---- the whole

-- the pipeline's own step is not written, nor one that is an emptied word alone
unfoldable pub is_written : Words → Bool
is_written ws = not (is_pipeline ws) && any_of non_empty (exchanged ws)

-- "An inverted pipeline reverses the steps"
unfoldable pub in_order : Pipeline → List Bytes → List Bytes
in_order p texts = cond p.inverted (reverse texts) texts

-- the answer: the steps with ` | ` between
unfoldable pub translation : Pipeline → Steps → Bytes
translation p ss = trimmed white (joined_by (ascii " | ") (in_order p (map (step_of p) (kept is_written ss))))

-- a fault, or the answer
unfoldable pub translated : Pipeline → Steps → Reply Bytes
translated p ss = first_fault p 1 ss (answers (translation p ss))

-- the call `translate`: "the text unchanged if it holds `|` or lacks `proj`"
unfoldable pub translate : Bytes → Reply Bytes
translate t =
    let ss = proj_steps t in
    cond (any_of (is "|") t || not (contains (ascii "proj") t)) (answers t) (translated (pipeline ss) ss)
