-- What reading digits and series gives, in the words of the code.
use Rattle.std.specs.Prelude.{◌≡◌, ℕ, ◌+◌, ◌-◌, ◌≤◌, Bool, true, cond, ◌&&◌, List, length, take, drop, replicate, ltb, ℤ, pos, Option, Some, None}
use Rattle.rules.specs.Text.Lists.{is_none}
use Rattle.rules.specs.Text.Bytes.{Bytes}
use Rattle.rules.specs.Text.Decimal.{digits_to, spelled, pieces, series, broken_from}
use Rattle.rules.specs.Operators.Arguments.{wholes}
use Rattle.prepare.specs.declared.series.Args.{Args}
use Rattle.prepare.specs.declared.series.Numbers.{Numbers}

-- the number that at most so many digits spell
unfoldable pub spelled_to : ℕ → Bytes → Option ℕ
spelled_to most t = cond (digits_to most t) (Some (spelled 0 t)) None

-- ---- arguments

-- those in use
abbrev pub args_of : Args → List ℤ
args_of a = take a.n a.list

-- at most eight, in eight slots, with zeros behind them
pub record Good (a : Args) : Type 0 where
  pub fits : a.n ≤ 8
  pub size : length a.list ≡ 8
  pub zeros : drop a.n a.list ≡ replicate (8 - a.n) (pos 0)

-- ---- a series

-- "its lowest number of .. 9 to 14": what a series may be refused by, 14 being a matter of its operator's rule
unfoldable pub lowest : Bytes → ℕ
lowest v = cond (is_none (series v)) 12 (cond (ltb 8 (length (pieces v))) 13 14)

-- What reading a series gives, whose first byte is byte `from` of the step's text: where it is refused 12, the byte at which the first
-- element begins that breaks decimal form. Where each element is a number and there are at most eight, its numbers are arguments if they are
-- whole and keep a rule.
pub record Reads (v : Bytes) (from : ℕ) (r : Numbers) : Type 0 where
  pub number : r.number ≡ lowest v
  pub at : r.number ≡ 12 → r.at ≡ from + broken_from (pieces v)
  pub good : r.number ≡ 14 → Good r.args
  pub args : r.number ≡ 14 → (rule : List ℤ → Bool)
      → wholes rule (series v) ≡ cond (r.whole && rule (args_of r.args)) (Some (args_of r.args)) None

-- no numbers at all
abbrev pub no_numbers : Numbers
no_numbers = record { number = 14; at = 0; whole = true; args = record { list = replicate 8 (pos 0); n = 0 } }
