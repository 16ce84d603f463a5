-- The tests of one argument of an order, by name.
use Rattle.std.specs.Prelude.{ℕ, Bool, ◌&&◌, leb, eqb, ℤ}
use Rattle.rules.specs.Operators.Arguments.{size}

-- is the argument of that size?
unfoldable pub of_size : ℕ → ℤ → Bool
of_size m x = eqb m (size x)

-- is its size from 1 to n?
unfoldable pub up_to : ℕ → ℤ → Bool
up_to n x = leb 1 (size x) && leb (size x) n
