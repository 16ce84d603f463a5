-- Runs of bytes of one kind in a text, and the modifiers in front of a step.
use Rattle.std.specs.Prelude.{◌≡◌, Bool, true, not, ◌||◌, ℕ, ◌≤◌, length, get_or, take, drop, leb}
use Rattle.rules.specs.Text.Ascii.{is}
use Rattle.rules.specs.Text.Lists.{all_of}
use Rattle.rules.specs.Text.Bytes.{Bytes, white, words}
use Rattle.rules.specs.Text.Split.{leading, following}
use Rattle.rules.specs.Text.Reader.{part}
use Rattle.text.specs.declared.runs.Kind.{Kind}
use Rattle.text.specs.declared.runs.Kind.TheVariants.{Piece, White, Word, Key}

-- is the byte of that kind?
abbrev pub is_of : Kind → ℕ → Bool
is_of Piece b = not (is "|" b)
is_of White b = white b
is_of Word b = not (white b)
is_of Key b = not (is "=" b)

-- the run from one place goes up to the other: every byte passes the test, and it ends at one that does not, or with the text
pub record Run (test : ℕ → Bool) (s : Bytes) (from to : ℕ) : Type 0 where
  pub ahead : from ≤ to
  pub within : to ≤ length s
  pub whole : all_of test (part from to s) ≡ true
  pub ends : (leb (length s) to || not (test (get_or s to 0))) ≡ true

-- up to k stand the modifiers in front, and behind it the words after them
pub record Lead (s : Bytes) (k : ℕ) : Type 0 where
  pub within : k ≤ length s
  pub front : words (take k s) ≡ leading (words s)
  pub rest : words (drop k s) ≡ following (words s)
