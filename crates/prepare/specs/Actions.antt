-- Which actions of `stack` are given, by their places in the list of them.
use Rattle.std.specs.Prelude.{◌≡◌, ℕ, ◌+◌, ◌<◌, List, [], ◌∷◌, length, take, get_or, None, Some}
use Rattle.rules.specs.Text.Ascii.{ascii}
use Rattle.rules.specs.Text.Bytes.{Bytes}
use Rattle.rules.specs.Text.Parameters.{Parameter}
use Rattle.rules.specs.Operators.Arguments.{value_of}
use Rattle.rules.specs.Operators.Descriptions.{StackDrop, choose}
use Rattle.rules.specs.Operators.Stack.{Action, actions, actions_given}
use Rattle.prepare.specs.declared.own.Choice.{Choice}
use Rattle.prepare.specs.declared.own.Choice.TheVariants.{None, One, More}

-- an action by its place, and its key
abbrev pub last_action : Action
last_action = record { key = "drop"; operator = StackDrop; arguments = λ value. Some [] }

unfoldable pub action_at : ℕ → Action
action_at k = get_or actions k last_action

unfoldable pub key_at : ℕ → Bytes
key_at k = ascii (action_at k).key

-- none of the first k actions is given
pub record NoAction (ps : List Parameter) (k : ℕ) : Type 0 where
  pub given : actions_given ps (take k actions) ≡ []
  pub others : (j : ℕ) → j < k → value_of (key_at j) ps ≡ None

-- one of them is, and no other: the operators' numbers follow each other from 2 on
pub record OneAction (ps : List Parameter) (k operator : ℕ) : Type 0 where
  pub place : ℕ
  pub number : operator ≡ place + 2
  pub within : place < k
  pub value : Bytes
  pub is : value_of (key_at place) ps ≡ Some value
  pub given : actions_given ps (take k actions) ≡ choose (action_at place).operator ((action_at place).arguments value) ∷ []
  pub others : (j : ℕ) → j < k → (j ≡ place → ⊥) → value_of (key_at j) ps ≡ None

-- which of the first k actions are given
abbrev pub Chosen : List Parameter → ℕ → Choice → Type 0
Chosen ps k None = NoAction ps k
Chosen ps k (One operator) = OneAction ps k operator
Chosen ps k More = 1 < length (actions_given ps (take k actions))
