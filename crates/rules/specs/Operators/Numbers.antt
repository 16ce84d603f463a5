-- The numbers of one coordinate. Places count from 1.
use Rattle.std.specs.Prelude.{ℕ, Bool, true, false, cond, eqb, Float}
use Rattle.std.specs.Float.Ieee.{neg}
use Rattle.rules.specs.declared.Coord.{Coord}

-- number i of a coordinate
unfoldable pub number : ℕ → Coord → Float
number i c = cond (eqb i 1) c.a (cond (eqb i 2) c.b (cond (eqb i 3) c.c c.d))

-- the coordinate with x as its number i
unfoldable pub put : ℕ → Float → Coord → Coord
put i x c =
    cond (eqb i 1) (record { a = x; b = c.b; c = c.c; d = c.d })
    (cond (eqb i 2) (record { a = c.a; b = x; c = c.c; d = c.d })
    (cond (eqb i 3) (record { a = c.a; b = c.b; c = x; d = c.d })
    (record { a = c.a; b = c.b; c = c.c; d = x })))

-- x with its sign turned, or kept
unfoldable pub turn : Bool → Float → Float
turn true x = neg x
turn false x = x
