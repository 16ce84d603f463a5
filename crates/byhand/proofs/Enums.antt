-- An enum that holds plain data, as a walk meets it.
--     Known              its type, and what is proved of it
--     Row-of             its row in a signature;                     Is-of        the row's relation
--     val_of, vals-of    the machine value of one of its values;     tells-of     that the relation tells that value
--     has_of             a value has the relation;                   makes-of     the relation makes what the row owns: facts alone
--     typed-of           the machine value has its MIR type
-- Assumes nothing; `typed-of` takes `Logic`.
use mathlib.Core.List.{List, [], ◌∷◌}
use seplogic.Ra.Ura.{Ura}
use mir.Val.{Val}
use types.Logic.{Logic}
use denote.RattleType.{RattleType}
use denote.Laws.{Is, Tells, Makes, Typed}
use denote.Enum.Declared.{Declared, variants, shape, row}
use denote.Enum.Enum.{Plainss, Few}
use denote.Enum.Laws as EL

pub record Known : Type 2 where
  pub type : Declared
  pub laws : EL.Laws type
  pub plain : Plainss (variants type)
  pub few : Few (shape type)

module _ (K : Known) where
  abbrev pub Row-of : RattleType
  Row-of = row K.type

  abbrev pub Is-of : K.type.D → List Val → Type 0
  Is-of = Is Row-of

  abbrev pub val_of : K.type.D → Val
  val_of = EL.val K.type K.laws

  abbrev pub vals-of : K.type.D → List Val
  vals-of = EL.vals K.type K.laws

  pub tells-of : Tells Row-of Is-of vals-of
  tells-of = EL.tells K.type K.laws

  pub has_of : (d : K.type.D) → EL.Fields (variants K.type) (EL.spellss K.type.parts K.laws) (K.type.to d) → Is-of d (vals-of d)
  has_of = EL.owes K.type K.laws

  module _ {M : Type 1} {𝓤 : Ura M} (𝓛 : Logic 𝓤) where
    pub makes-of : Makes 𝓛 Row-of Is-of
    makes-of = EL.makes K.type K.plain 𝓛

    pub typed-of : (d : K.type.D) (v : Val) → Is-of d (v ∷ []) → Typed Row-of.mir (v ∷ [])
    typed-of d v is = (EL.lawful K.type K.laws 𝓛 K.few).typed d (v ∷ []) is
