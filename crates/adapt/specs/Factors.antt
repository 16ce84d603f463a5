-- `adapt` on one coordinate, with its slots and factors made.
use Rattle.std.specs.Prelude.{ℕ, Bool, cond, ◌&&◌, List, eqb, ℤ, Float}
use Rattle.std.specs.Float.{binary64}
use Rattle.std.specs.Float.Ieee.{mul, div, eq}
use Rattle.rules.specs.Operators.Adapt.{one, mult}
use Rattle.rules.specs.declared.Coord.{Coord}
use Rattle.columns.specs.Coords.{picked, placed}

-- is the number at i the input's own, times 1?
unfoldable pub staying : ℕ → Float → ℕ → Bool
staying p m i = eqb p i && eq m one

-- of all four, by their places and factors
unfoldable pub all_staying : ℕ → ℕ → ℕ → ℕ → Coord → Bool
all_staying p1 p2 p3 p4 m =
    staying p1 m.a 1 && (staying p2 m.b 2 && (staying p3 m.c 3 && staying p4 m.d 4))

-- the four factors of a step, and each under 1
unfoldable pub mults : List ℤ → Coord
mults l = record { a = mult l 1; b = mult l 2; c = mult l 3; d = mult l 4 }

unfoldable pub overs : Coord → Coord
overs m =
    record {
      a = div binary64 one m.a;
      b = div binary64 one m.b;
      c = div binary64 one m.c;
      d = div binary64 one m.d;
    }

-- each number times its factor
unfoldable pub scaled_by : Coord → Coord → Coord
scaled_by m c =
    record {
      a = mul binary64 c.a m.a;
      b = mul binary64 c.b m.b;
      c = mul binary64 c.c m.c;
      d = mul binary64 c.d m.d;
    }

-- forward: output i is the number at slot i times factor i
unfoldable pub scaled : List ℕ → Coord → Coord → Coord
scaled o m c = scaled_by m (picked o c)

-- inverse: number i times factor i goes to slot i
unfoldable pub unscaled : List ℕ → Coord → Coord → Coord
unscaled o m c = placed o (scaled_by m c) c

-- forward or back
unfoldable pub scaled_if : Bool → List ℕ → Coord → Coord → Coord
scaled_if back o m c = cond back (unscaled o m c) (scaled o m c)

-- the factors of a direction in the documented mode: back, that of a number is 1 over its own
unfoldable pub factors_by_axis : Bool → Coord → Coord
factors_by_axis back m = cond back (overs m) m

-- the factors of a direction: back, that of a number is 1 over that of its place
unfoldable pub factors_for : Bool → List ℕ → Coord → Coord
factors_for back o m = cond back (picked o (overs m)) m
