-- What comes of a step's words.
use Rattle.std.specs.Prelude.{◌≡◌, true, false, [], ◌∷◌, ◌++◌, ℕ, ◌-◌, Option, None, Some}
use denote.Ref.{Bor}
use Rattle.rules.specs.Text.Ascii.{ascii}
use Rattle.rules.specs.Text.Bytes.{Bytes, Words}
use Rattle.rules.specs.Proj.Translate.{Pipeline, with_globals}
use Rattle.laws_proj.specs.Tidying.{count_of, tidy_rest, ellps_of, composes}
use Rattle.proj_words.specs.Facts.{IsKey}
use Rattle.proj_steps.specs.Pens.{text_of}
use Rattle.proj_steps.specs.declared.element.Element.{Element}
use Rattle.proj_steps.specs.declared.element.Ellipsoid.{Ellipsoid}
use Rattle.proj_steps.specs.declared.step.Ahead.{Ahead}
use Rattle.proj_steps.specs.declared.pipe.Pipe.{Pipe}
use Rattle.proj_steps.specs.Pipelines.{pipeline_of}

-- what a pipeline says
abbrev pub said : Pipe → Pipeline
said p = pipeline_of p.globals.now p.inverted

-- the composed ellipsoid of words
pub record IsEllipsoid (ws : Words) (e : Ellipsoid) : Type 0 where
  pub unnamed : count_of (ascii "ellps=") ws ≡ 0
  pub a : IsKey ws (ascii "a=") e.a
  pub rf : IsKey ws (ascii "rf=") e.rf

-- what is found: that, or that none is composed
abbrev pub FoundEllipsoid : Words → Option Ellipsoid → Type 0
FoundEllipsoid ws (Some e) = IsEllipsoid ws e
FoundEllipsoid ws None = composes ws ≡ false

-- its word
abbrev pub last_words : Option Ellipsoid → Words
last_words (Some e) = ellps_of e.a.value.now e.rf.value.now ∷ []
last_words None = []

-- what is to come of all words
abbrev pub ahead_of : Option Ellipsoid → Ahead
ahead_of (Some e) = record { a = e.a.count; rf = e.rf.count; scale = true }
ahead_of None = record { a = 0; rf = 0; scale = true }

-- an element that is not left out
abbrev pub kept : Option Element → Words
kept (Some e) = text_of e ∷ []
kept None = []

-- what comes of a word that is counted off
pub record IsCounted (n : ℕ) (w : Bytes) (r : Option Element) (m : ℕ) : Type 0 where
  pub less : m ≡ n - 1
  pub last : n ≡ 1 → kept r ≡ []
  pub other : (n ≡ 1 → ⊥) → kept r ≡ w ∷ []

-- the tidied words that are still to come
abbrev pub rest_of : Ahead → Words → Words → Words
rest_of h last ws = tidy_rest h.a h.rf h.scale last ws

-- what comes of a word, whatever follows it
pub record IsPassed (w : Bytes) (h : Ahead) (r : Option Element) (n : Ahead) : Type 0 where
  pub rest : (last ws : Words) → rest_of h last (w ∷ ws) ≡ kept r ++ rest_of n last ws

-- words with the globals, if they are still to go in
abbrev pub globalled : Option (Bor Bytes) → Words → Words
globalled (Some g) ws = with_globals (pipeline_of g.now true) ws
globalled None ws = ws
