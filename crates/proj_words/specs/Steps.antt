-- The steps of a cleaned text as an iterator gives them.
use Rattle.std.specs.Prelude.{◌≡◌, [], ◌∷◌, ℕ, ◌<◌, ◌≤◌, length, Option, None, Some}
use Rattle.rules.specs.Text.Bytes.{Bytes, Steps, words}
use Rattle.proj_words.specs.Cuts.{steps_from}
use Rattle.proj_words.specs.declared.steps.Step.{Step}
use Rattle.proj_words.specs.declared.steps.SplitSteps.{SplitSteps}

-- the steps that are still to come
abbrev pub left : SplitSteps → Steps
left s = steps_from s.text.now s.at

-- the next step of a text from a place on, and the place from which the others follow
pub record Took (n : Bytes) (at then : ℕ) (t : Bytes) : Type 0 where
  pub here : steps_from n at ≡ words t ∷ steps_from n then
  pub further : at < then
  pub within : then ≤ length n
  pub short : length t ≤ length n

abbrev pub GivesStep : SplitSteps → Option Step → SplitSteps → Type 0
GivesStep s (Some x) r = Took s.text.now s.at r.at x.text.now × (r.text ≡ s.text)
GivesStep s None r = (left s ≡ []) × (left r ≡ [])
