-- Arguments that name one of four axes.
use Rattle.std.specs.Prelude.{◌≡◌, ℕ, suc, ◌<◌, Bool, ◌&&◌, List, leb, ℤ, pos, get_or}
use Rattle.rules.specs.Operators.Arguments.{size}

-- an argument that names one of four axes, whatever its sign
unfoldable pub is_axis : ℤ → Bool
is_axis x = leb 1 (size x) && leb (size x) 4

-- argument i names the axis that stands at k, counted from 0
pub record AxisAt (l : List ℤ) (i k : ℕ) : Type 0 where
  pub below : k < 4
  pub named : size (get_or l i (pos 0)) ≡ suc k
