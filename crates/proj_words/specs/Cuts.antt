-- The steps of a PROJ text, one by one.
use Rattle.std.specs.Prelude.{◌≡◌, true, false, cond, ◌&&◌, [], ◌∷◌, map, ℕ, ◌≤◌, ◌<◌, length, drop, ltb, Option, None, Some}
use Rattle.rules.specs.Text.Lists.{kept, non_empty}
use Rattle.rules.specs.Text.Bytes.{Bytes, Steps, words}
use Rattle.rules.specs.Proj.Words.{is_step, cut_at_step, without_noise}
use Rattle.rules.specs.Text.Reader.{part}
use Rattle.rules.specs.declared.Found.{Found}
use Rattle.proj_words.specs.declared.walk.Piece.{Piece}

-- the steps of pieces: without noise and without empty ones
unfoldable pub steps_in : Steps → Steps
steps_in pieces = kept non_empty (map without_noise pieces)

-- The steps of a cleaned text from a place on. A place behind the text's first byte stands right after a `step`.
unfoldable pub steps_from : Bytes → ℕ → Steps
steps_from n place = steps_in (cut_at_step (ltb 0 place) (words (drop place n)))

-- from k on, behind a word, the first piece goes up to the end of p, and the others follow from where p says
pub record IsPiece (n : Bytes) (k : ℕ) (p : Piece) : Type 0 where
  pub ahead : k ≤ p.end
  pub onward : p.end ≤ p.then
  pub within : p.then ≤ length n
  pub worded : k < p.end → non_empty (words (part k p.end n)) ≡ true
  pub others : Steps
  pub cuts : cut_at_step false (words (drop k n)) ≡ words (part k p.end n) ∷ others
  pub rest : steps_in others ≡ steps_in (cut_at_step true (words (drop p.then n)))

-- a place from which the same steps follow as right after a `step`
pub record IsStart (n : Bytes) (place r : ℕ) : Type 0 where
  pub ahead : place ≤ r
  pub within : r ≤ length n
  pub same : steps_from n place ≡ steps_in (cut_at_step true (words (drop r n)))

-- where a step begins, whose first word stands from one place up to another and whose others reach to the end
unfoldable pub beginning : Bytes → ℕ → ℕ → ℕ → ℕ
beginning n from to end = cond (ltb to end && is_step (part from to n)) to from

-- the next step, and the place from which the others follow
pub record IsStep (n : Bytes) (place from to then : ℕ) : Type 0 where
  pub ahead : from ≤ to
  pub within : to ≤ length n
  pub onward : to ≤ then
  pub ends : then ≤ length n
  pub further : place < then
  pub worded : non_empty (words (part from to n)) ≡ true
  pub here : steps_from n place ≡ words (part from to n) ∷ steps_from n then

-- what is found from a place on: the next step, or that there is none
unfoldable pub is_found : Bytes → ℕ → Option Found → Type 0
is_found n place (Some f) = IsStep n place f.from f.to f.then.at
is_found n place None = steps_from n place ≡ []

pub record FoundStep (n : Bytes) (place : ℕ) (r : Option Found) : Type 0 where
  pub found : is_found n place r
