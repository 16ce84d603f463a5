-- Room for a text, the texts of a list one after the other, and a number of a list.
use Rattle.std.specs.Prelude.{ℕ, ◌+◌, ◌≤◌, Bool, true, cond, List, [], ◌∷◌, ◌++◌, ℤ, length}
use Rattle.rules.specs.Text.Bytes.{Bytes}
use Rattle.rules.specs.Operators.Arguments.{spelling}

-- there is room for a text from a place on
pub record Room (text : Bytes) (at : ℕ) (dst : Bytes) : Type 0 where
  pub fits : at + length text ≤ length dst

-- what is still to come of a list: the text of each, which may depend on whether it is the first
unfoldable pub rest : {A : Type 0} → (Bool → A → Bytes) → Bool → List A → Bytes
rest each begun [] = []
rest each begun (x ∷ l) = each begun x ++ rest each true l

-- a number of a list, after a comma if others have come before it
unfoldable pub numbered : Bool → ℤ → Bytes
numbered begun x = cond begun (44 ∷ []) [] ++ spelling x
