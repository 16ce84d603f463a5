-- What the pen has added to the text of a step.
use Rattle.std.specs.Prelude.{◌≡◌, Bool, true, cond, ◌&&◌, ◌||◌, [], ◌∷◌, ◌++◌, Option, None, Some}
use denote.Ref.{Bor}
use Rattle.rules.specs.Text.Ascii.{ascii}
use Rattle.rules.specs.Text.Lists.{any_of, all_of, non_empty}
use Rattle.rules.specs.Text.Bytes.{Bytes, Words}
use Rattle.rules.specs.Proj.Translate.{is_inv}
use Rattle.proj_steps.specs.Adds.{Room, Adds, gapped}
use Rattle.laws_proj.specs.Tidying.{ellps_of}
use Rattle.laws_proj.specs.Flowing.{emitted, flow, more}
use Rattle.proj_steps.specs.declared.pen.Pen.{Pen}
use Rattle.proj_steps.specs.declared.element.Element.{Element}
use Rattle.proj_steps.specs.declared.element.Element.TheVariants.{Plain, Scale}
use Rattle.proj_steps.specs.declared.element.Ellipsoid.{Ellipsoid}

-- a text is added as it is
pub record Added (t : Bytes) (pen : Pen) (dst₀ : Bytes) (r : Pen) (dst : Bytes) : Type 0 where
  pub adds : Adds pen.write t dst₀ pen.at r.at dst
  pub write : r.write ≡ pen.write
  pub begun : r.begun ≡ pen.begun
  pub owed : r.owed ≡ pen.owed

-- a word is added
pub record Worded (w : Bytes) (pen : Pen) (dst₀ : Bytes) (r : Pen) (dst : Bytes) : Type 0 where
  pub adds : Adds pen.write (gapped pen.begun w) dst₀ pen.at r.at dst
  pub write : r.write ≡ pen.write
  pub begun : r.begun ≡ true
  pub owed : r.owed ≡ pen.owed

-- there is room for words, for elements, and for elements with what is owed after them
pub record Fits (ds : Words) (pen : Pen) (dst : Bytes) : Type 0 where
  pub room : Room pen.write (more pen.begun ds) pen.at dst

pub record RoomFor (xs : Words) (pen : Pen) (dst : Bytes) : Type 0 where
  pub fits : Fits (emitted pen.owed xs) pen dst

pub record RoomForAll (xs : Words) (pen : Pen) (dst : Bytes) : Type 0 where
  pub fits : Fits (flow pen.owed xs) pen dst

-- words are added, and the pen says so
pub record Emits (ds : Words) (pen : Pen) (owed : Bool) (dst₀ : Bytes) (r : Pen) (dst : Bytes) : Type 0 where
  pub adds : Adds pen.write (more pen.begun ds) dst₀ pen.at r.at dst
  pub write : r.write ≡ pen.write
  pub begun : r.begun ≡ (pen.begun || any_of non_empty ds)
  pub owes : r.owed ≡ owed

-- elements are added; or elements with what is owed after them
pub record Pens (xs : Words) (pen : Pen) (dst₀ : Bytes) (r : Pen) (dst : Bytes) : Type 0 where
  pub emits : Emits (emitted pen.owed xs) pen (pen.owed && all_of is_inv xs) dst₀ r dst

pub record PensAll (xs : Words) (pen : Pen) (dst₀ : Bytes) (r : Pen) (dst : Bytes) : Type 0 where
  pub adds : Adds pen.write (more pen.begun (flow pen.owed xs)) dst₀ pen.at r.at dst

-- the `inv` that is owed
unfoldable pub owing : Bool → Words
owing owed = cond owed (ascii "inv" ∷ []) []

-- the globals, where they are still to go in and there are any
abbrev pub inserted : Option (Bor Bytes) → Words
inserted (Some g) = cond (non_empty g.now) (g.now ∷ []) []
inserted None = []

-- an element's text
abbrev pub text_of : Element → Bytes
text_of (Plain x) = x.now
text_of (Scale v) = ascii "k_0=" ++ v.now

-- what comes last
abbrev pub closing : Option Ellipsoid → Option (Bor Bytes) → Words
closing (Some e) globals = ellps_of e.a.value.now e.rf.value.now ∷ inserted globals
closing None globals = []
