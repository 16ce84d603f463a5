-- What `push` and `pop` do, once their direction is settled.
use Rattle.std.specs.Prelude.{Bool, cond, List, reverse, ℤ}
use Rattle.rules.specs.Operators.Acts.{Act, pushes, pops}
use Rattle.rules.specs.Operators.Arguments.{places}

-- a push, or a pop
unfoldable pub pushing : Bool → List ℤ → Act
pushing is l = cond is (pushes (places l)) (pops (reverse (places l)))
