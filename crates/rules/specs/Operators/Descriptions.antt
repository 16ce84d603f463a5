-- What the rest of the rules asks of an operator. Each operator's own file answers it, by its number and by its name.
use Rattle.std.specs.Prelude.{ℕ, Bool, List, ℤ, Option, None, Some}
use Prim.Native.String.{String}
use Rattle.rules.specs.Text.Bytes.{Words}
use Rattle.rules.specs.Text.Parameters.{Parameter}
use Rattle.rules.specs.Operators.Acts.{Act}
use Rattle.rules.specs.Operators.Keys.{Key}
use Rattle.rules.specs.declared.Mode.{Mode}

-- the five operators, `stack` by its seven actions, and `adapt` by its two modes
pub data Operator : Type 0 where
  Push Pop StackPush StackPop StackFlip StackRoll StackUnroll StackSwap StackDrop Axisswap Adapt Documented : Operator

-- an operator, as a step record has it
pub record Description : Type 0 where
  -- its number in a record, and its name in a text
  pub number : ℕ
  pub name : String
  -- the arguments that a preparation gives it
  pub is_args : List ℤ → Bool
  -- does `inv` turn it, in the crate's reading?
  pub turned : Bool
  -- what it does with its arguments, forward and inverse
  pub forward : List ℤ → Act
  pub inverse : List ℤ → Act
  -- the words of its arguments
  pub words : List ℤ → Words

-- what a step's parameters choose: an operator and its arguments
pub record Chosen : Type 0 where
  pub operator : Operator
  pub arguments : List ℤ

unfoldable pub choose : Operator → Option (List ℤ) → Option Chosen
choose o None = None
choose o (Some l) = Some (record { operator = o; arguments = l })

-- an operator, as a text has it
pub record Wording : Type 0 where
  -- its name, and its keys beside those that every operator takes
  pub name : String
  pub keys : List Key
  -- its own rule: what its parameters choose in a mode, or none where the rule is broken
  pub chosen : Mode → List Parameter → Option Chosen
