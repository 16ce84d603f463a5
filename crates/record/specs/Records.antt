-- A record, in the code's own order of tests.
use Rattle.std.specs.Prelude.{ℕ, Bool, cond, ◌&&◌, List, leb, ℤ}
use Rattle.rules.specs.Text.Lists.{all_of}
use Rattle.rules.specs.Pipeline.Record.{nine_digits}
use Rattle.rules.specs.Operators.Table.{is_args, operator_of}
use Rattle.rules.specs.declared.Step.{Step}
use Rattle.numbers.specs.declared.tests.Kind.TheVariants.{Zero}
use Rattle.numbers.specs.Tests.{is_of}

unfoldable pub is_marked : Step → Bool
is_marked s = leb s.inv 1 && (leb s.omit_fwd 1 && (leb s.omit_inv 1 && leb s.reading 1))

unfoldable pub is_written : ℕ → List ℤ → List ℤ → Bool
is_written operator l unused = all_of (is_of Zero) unused && (all_of nine_digits l && is_args (operator_of operator) l)

-- a mark, where it is set
unfoldable pub mark_of : Bool → ℕ
mark_of set = cond set 1 0
