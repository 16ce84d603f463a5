-- The exchanged words of a step, one by one.
use Rattle.std.specs.Prelude.{◌≡◌, true, false, cond, ◌∷◌, ◌<◌, ◌^◌, length, Option, None, Some}
use denote.Ref.{Bor}
use Rattle.rules.specs.Text.Lists.{any_of}
use Rattle.rules.specs.Text.Bytes.{Bytes, Words}
use Rattle.rules.specs.Proj.Words.{is_proj, first_proj, in_its_place, exchanged}
use Rattle.rules.specs.Proj.Translate.{init_first, is_pipeline}
use Rattle.proj_words.specs.Words.{left}
use Rattle.proj_words.specs.declared.exchange.First.{First}
use Rattle.proj_words.specs.declared.exchange.Exchanged.{Exchanged}
use Rattle.proj_words.specs.declared.exchange.Head.{Head}

-- the first `proj=` among words
pub record IsProj (ws : Words) (w : Bytes) : Type 0 where
  pub is : is_proj w ≡ true
  pub some : any_of is_proj ws ≡ true
  pub first : first_proj ws ≡ w

-- what is found: that, or that there is none
abbrev pub FoundProj : Words → Option (Bor Bytes) → Type 0
FoundProj ws (Some w) = IsProj ws w.now
FoundProj ws None = any_of is_proj ws ≡ false

pub record IsFirst (ws : Words) (f : First) : Type 0 where
  pub init : f.init ≡ init_first ws
  pub proj : FoundProj ws f.proj

-- a word in front of others, if there is one
abbrev pub in_front : Option (Bor Bytes) → Words → Words
in_front (Some w) ws = w.now ∷ ws
in_front None ws = ws

-- others with a word in the place of the first `proj=`, if there is one
abbrev pub in_place : Option (Bor Bytes) → Words → Words
in_place (Some w) ws = in_its_place w.now ws
in_place None ws = ws

-- the exchanged words that are still to come
unfoldable pub coming : Exchanged → Words
coming e = in_front e.front (in_place e.moved (left e.words))

-- the first word, if it has to change places
unfoldable pub IsMoved : Option (Bor Bytes) → Option (Bor Bytes) → Type 0
IsMoved (Some w) r = r ≡ cond (is_proj w.now) None (Some w)
IsMoved None r = r ≡ None

-- a step's head
pub record IsHead (ws : Words) (h : Head) : Type 0 where
  pub init : h.init ≡ init_first ws
  pub pipeline : h.pipeline ≡ is_pipeline ws
  pub words : coming h.words ≡ exchanged ws
  pub few : length (coming h.words) < 2 ^ 64
