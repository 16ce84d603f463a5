-- Numbers as texts, in decimal digits.
use Rattle.std.specs.Prelude.{ℕ, zero, suc, ◌+◌, ◌/◌, ◌%◌, ◌^◌, [], ◌∷◌, ◌++◌}
use Rattle.std.specs.Float.Ieee.{size as binaryDigits}
use Rattle.rules.specs.Text.Ascii.{is}
use Rattle.rules.specs.Text.Bytes.{Bytes, trim_start}

-- the digit of n at place k, the last digit at place 0
unfoldable pub digit_at : ℕ → ℕ → ℕ
digit_at n k = 48 + n / 10 ^ k % 10

-- its digits from place k down to place 1
unfoldable pub digits_from : ℕ → ℕ → Bytes
digits_from n zero = []
digits_from n (suc k) = digit_at n (suc k) ∷ digits_from n k

-- A number in decimal digits: no zero in front, and the last digit always. (It has no more of them than it has binary digits.)
unfoldable pub digits : ℕ → Bytes
digits n = trim_start (is "0") (digits_from n (binaryDigits n)) ++ (digit_at n 0 ∷ [])
