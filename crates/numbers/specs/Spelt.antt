-- A number spelt at the end of a buffer.
use Rattle.std.specs.Prelude.{◌≡◌, ℕ, ◌≤◌, length, drop}
use Rattle.rules.specs.Text.Bytes.{Bytes}
use Rattle.rules.specs.Text.Numerals.{digits}

-- the buffer of twenty bytes has the digits of n from `at` to its end
pub record Spelt (n : ℕ) (buf : Bytes) (at : ℕ) : Type 0 where
  pub within : at ≤ 20
  pub size : length buf ≡ 20
  pub right : drop at buf ≡ digits n
