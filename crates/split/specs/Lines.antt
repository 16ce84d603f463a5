-- The lines of steps, and what the functions that write them leave behind.
use Rattle.rules.specs.declared.Refusal.{Refusal}
use Rattle.std.specs.Prelude.{◌≡◌, true, false, ℕ, ◌≤◌, length, take, Option, None, Some, Result, Ok, Err}
use mathlib.Core.List.{map, flat_map}
use Rattle.rules.specs.Text.Lists.{all_of}
use Rattle.rules.specs.Text.Bytes.{Bytes, Words, Steps}
use Rattle.rules.specs.Text.Refusal.{Reply, answers, refuses, and_then}
use Rattle.rules.specs.Text.Split.{modifier, steps_of, split_steps, step_text, line}
use Rattle.text.specs.Wrote.{WroteAt}

-- "Steps .. are written each with a newline after it."
abbrev pub lines_of : Steps → Bytes
lines_of ss = flat_map line (map step_text ss)

-- what splitting replies of a normalised text
abbrev pub split_normal : Bytes → Reply Bytes
split_normal normalised = and_then (split_steps (steps_of normalised)) (λ texts. answers (flat_map line texts))

-- a step's line stands in the buffer from `at` on, and the step is not modifiers alone
pub record HasLine (ws : Words) (dst₀ : Bytes) (at to : ℕ) (dst : Bytes) : Type 0 where
  pub other : all_of modifier ws ≡ false
  pub wrote : WroteAt (line (step_text ws)) dst₀ at to dst

-- what comes of a step of these words: where its line ends, or none, since it is modifiers alone
abbrev pub IsLine : Words → Bytes → ℕ → Option ℕ → Bytes → Type 0
IsLine ws dst₀ at (Some to) dst = HasLine ws dst₀ at to dst
IsLine ws dst₀ at None dst = all_of modifier ws ≡ true

-- the reply that a buffer and a word on it tell: a refusal, or the answer, which stands in the buffer's first bytes
abbrev pub told_by : Result ℕ Refusal → Bytes → Reply Bytes
told_by (Err r) dst = refuses r.number r.place
told_by (Ok m) dst = answers (take m dst)

-- how many of the buffer's bytes are the answer
abbrev pub count : Result ℕ Refusal → ℕ
count (Err r) = 0
count (Ok m) = m

-- the offset of a refusal: splitting has none
abbrev pub offset : Result ℕ Refusal → ℕ
offset (Err r) = r.offset
offset (Ok m) = 0

-- a reply stands in a buffer
pub record Lined (reply : Reply Bytes) (r : Result ℕ Refusal) (dst : Bytes) : Type 0 where
  pub within : count r ≤ length dst
  pub told : reply ≡ told_by r dst
  pub plain : offset r ≡ 0
