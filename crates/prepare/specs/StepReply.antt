-- What is replied of one step's text, and the room that judging it needs.
use Rattle.std.specs.Prelude.{◌≡◌, ℕ, ◌+◌, ◌≤◌, min, false, cond, List, [], length, ltb}
use Rattle.rules.specs.Text.Ascii.{ascii, is}
use Rattle.rules.specs.Text.Lists.{any_of}
use Rattle.rules.specs.Text.Bytes.{Bytes, Words, words}
use Rattle.rules.specs.Text.Normal.{normal}
use Rattle.rules.specs.Text.Refusal.{Reply, refuses, and_then}
use Rattle.rules.specs.Text.Parameters.{Placed, placed_elements, text_table}
use Rattle.rules.specs.Operators.Arguments.{value_of}
use Rattle.rules.specs.Pipeline.Offsets.{faults, earliest, offset_by}
use Rattle.rules.specs.Pipeline.Prepare.{judged11, named, judged, offset_of, at_step}
use Rattle.rules.specs.declared.Mode.{Mode}
use Rattle.rules.specs.declared.Name.{Name}
use Rattle.rules.specs.declared.Step.{Step}
use Rattle.parameters.specs.Elements.{placed_all}
use Rattle.prepare.specs.Faults.{unplaced}

-- a text without the separators that normalising takes away
pub record Bare (t : Bytes) : Type 0 where
  pub no_more : any_of (is ">") t ≡ false
  pub no_less : any_of (is "<") t ≡ false

-- buffers have room for the normal form of a step's text of so many bytes, if it is not too long, and the second for nine bytes
-- behind it
pub record Roomy (n a b : ℕ) : Type 0 where
  pub first : min n 4096 ≤ a
  pub second : min n 4096 + 9 ≤ b

-- ---- replies, each with its offset where it is 12, and at no place yet

-- of the parameters of a step of that name, and of any name
unfoldable pub named_reply : Mode → Name → List Placed → Reply Step
named_reply mode n qs = at_step 0 (earliest (faults n qs)) (judged11 mode n (unplaced qs))

unfoldable pub placed_reply : Mode → List Placed → Reply Step
placed_reply mode qs = at_step 0 (offset_by (named (value_of (ascii "_name") (unplaced qs))) qs) (judged mode (unplaced qs))

-- of the words of a step's text as it is cut: 9, then what they give
unfoldable pub cut_reply : Mode → Words → Reply Step
cut_reply mode ws = let table = placed_all (placed_elements ws) [] in cond (ltb 32 (length table)) (refuses 9 0) (placed_reply mode table)

-- of a normalised text
unfoldable pub text_reply : Mode → Bytes → Reply Step
text_reply mode normalised = at_step 0 (offset_of (words normalised)) (and_then (text_table normalised) (judged mode))

-- of a step's text: 1, then what its parameters give in a mode
unfoldable pub step_reply : Mode → Bytes → Reply Step
step_reply mode t = cond (ltb 4096 (length t)) (refuses 1 0) (text_reply mode (normal t))
