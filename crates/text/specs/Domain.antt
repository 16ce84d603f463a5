-- Places in a text up to which it is in the domain.
use Rattle.std.specs.Prelude.{◌≡◌, true, ◌≤◌, length, drop}
use Rattle.rules.specs.Text.Bytes.{Bytes}
use Rattle.laws_text.specs.Passes.{digit}

-- s begins with a whole subscript digit, and `others` is what stands behind it
pub record BehindDigit (s others : Bytes) : Type 0 where
  pub fits : 3 ≤ length s
  pub whole : digit s ≡ true
  pub behind : others ≡ drop 3 s
