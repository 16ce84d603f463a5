-- `axisswap` on one coordinate, with its slots and signs made.
use Rattle.std.specs.Prelude.{ℕ, Bool, false, cond, List, [], ◌∷◌, ltb, ℤ, pos, length, get_or}
use Rattle.rules.specs.Text.Decimal.{minus}
use Rattle.rules.specs.Operators.Numbers.{turn}
use Rattle.rules.specs.declared.Coord.{Coord}
use Rattle.columns.specs.Coords.{picked, placed}

-- is the sign turned by argument i of an order, counted from 0? Past the arguments it stays.
unfoldable pub turn_at : List ℤ → ℕ → Bool
turn_at l i = cond (ltb i (length l)) (minus (get_or l i (pos 0))) false

-- the signs of the four arguments
unfoldable pub turns_of : List ℤ → List Bool
turns_of l = turn_at l 0 ∷ turn_at l 1 ∷ turn_at l 2 ∷ turn_at l 3 ∷ []

-- a coordinate with these signs turned
unfoldable pub turned_by : List Bool → Coord → Coord
turned_by t c = record { a = turn (get_or t 0 false) c.a; b = turn (get_or t 1 false) c.b; c = turn (get_or t 2 false) c.c; d = turn (get_or t 3 false) c.d }

-- forward: output i is the number at slot i, with its sign
unfoldable pub ordered : List ℕ → List Bool → Coord → Coord
ordered o t c = turned_by t (picked o c)

-- inverse: number i goes to slot i, with its sign
unfoldable pub unordered : List ℕ → List Bool → Coord → Coord
unordered o t c = placed o (turned_by t c) c

-- forward or back
unfoldable pub ordered_by : Bool → List ℕ → List Bool → Coord → Coord
ordered_by back o t c = cond back (unordered o t c) (ordered o t c)
