-- The words of a text, one by one.
use Rattle.std.specs.Prelude.{◌≡◌, [], ℕ, ◌<◌, drop, Option, None, Some}
use Rattle.rules.specs.Text.Bytes.{Bytes, Words, words}
use Rattle.text.specs.Runs.{Run, is_of}
use Rattle.text.specs.declared.runs.Kind.TheVariants as kind
use Rattle.proj_words.specs.declared.walk.Span.{Span}
use Rattle.proj_words.specs.declared.walk.SplitWhite.{SplitWhite}

-- the first word from k on: white space up to it, and then the word, which is not empty
pub record IsWord (s : Bytes) (k from to : ℕ) : Type 0 where
  pub gap : Run (is_of kind.White) s k from
  pub body : Run (is_of kind.Word) s from to
  pub longer : from < to

-- what is found from k on: the first word, or that there is none
abbrev pub FoundWord : Bytes → ℕ → Option Span → Type 0
FoundWord s k (Some w) = IsWord s k w.from w.to
FoundWord s k None = words (drop k s) ≡ []

-- the words that are still to come
abbrev pub left : SplitWhite → Words
left s = words s.rest.now
