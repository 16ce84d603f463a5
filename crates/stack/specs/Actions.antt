-- What is known of a record of `stack`, and of what it does.
use Rattle.std.specs.Prelude.{◌≡◌, ℕ, ◌-◌, ◌≤◌, ◌<◌, true, cond, List, leb, length, take, ℤ}
use Rattle.rules.specs.Text.Lists.{all_of}
use Rattle.rules.specs.Operators.Acts as rules
use Rattle.rules.specs.Operators.Arguments.{size, arg}
use Rattle.rules.specs.Operators.Table.{operator_of, is_args}
use Rattle.rules.specs.Pipeline.Record.{nine_digits}
use Rattle.columns.specs.Doings.{does, able}
use Rattle.columns.specs.declared.acts.Act.{Act}
use Rattle.columns.specs.declared.acts.Doing.{Doing}

-- the arguments of an action that a preparation makes: the first n of eight
pub record Action (operator : ℕ) (args : List ℤ) (n : ℕ) : Type 0 where
  pub least : 2 ≤ operator
  pub most : operator ≤ 8
  pub slots : n ≤ 8
  pub digits : all_of nine_digits (take n args) ≡ true
  pub rule : is_args (operator_of operator) (take n args) ≡ true

abbrev pub acting : Act → List ℤ → ℕ → Doing
acting act args n = record { act = act; args = args; n = n }

-- ---- rolls

pub record Roll (l : List ℤ) : Type 0 where
  pub two : length l ≡ 2
  pub above : size (arg 2 l) < size (arg 1 l)
  pub digits : size (arg 1 l) ≤ 999999999

-- the code's roll is that of the rules
pub record Rolled (a : rules.Act) (l : List ℤ) (r : Act) : Type 0 where
  pub same : does r l ≡ a
  pub rule : able r l ≡ true

-- n turns of m come to r, below m
pub record Turns (m n r : ℕ) : Type 0 where
  pub below : r < m
  pub alike : r ≡ cond (leb m n) (n - m) n
