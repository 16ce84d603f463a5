-- One coordinate: what is read where there is none, and four of its numbers at once, by their slots.
use Rattle.std.specs.Prelude.{ℕ, ◌+◌, cond, List, [], ◌∷◌, eqb, ltb, ℤ, pos, length, get_or}
use Rattle.std.specs.Float.{nan}
use Rattle.rules.specs.Operators.Arguments.{size}
use Rattle.rules.specs.Operators.Numbers.{number, put}
use Rattle.rules.specs.declared.Coord.{Coord}

-- what is read past the end of a list
abbrev pub no_tuple : Coord
no_tuple = record { a = nan; b = nan; c = nan; d = nan }

-- ---- slots

-- where number i stands in a coordinate, counted from 0
unfoldable pub slot : ℕ → ℕ
slot i = cond (eqb i 1) 0 (cond (eqb i 2) 1 (cond (eqb i 3) 2 3))

-- the slot that argument i of an order names, counted from 0; past the arguments the number stays
unfoldable pub slot_at : List ℤ → ℕ → ℕ
slot_at l i = cond (ltb i (length l)) (slot (size (get_or l i (pos 0)))) i

-- the slots of the four arguments
unfoldable pub slots_of : List ℤ → List ℕ
slots_of l = slot_at l 0 ∷ slot_at l 1 ∷ slot_at l 2 ∷ slot_at l 3 ∷ []

-- the four numbers at given slots
unfoldable pub picked : List ℕ → Coord → Coord
picked o c =
    record {
      a = number (get_or o 0 0 + 1) c;
      b = number (get_or o 1 0 + 1) c;
      c = number (get_or o 2 0 + 1) c;
      d = number (get_or o 3 0 + 1) c;
    }

-- four numbers stored there, one after the other
unfoldable pub placed : List ℕ → Coord → Coord → Coord
placed o v c = put (get_or o 3 0 + 1) v.d (put (get_or o 2 0 + 1) v.c (put (get_or o 1 0 + 1) v.b (put (get_or o 0 0 + 1) v.a c)))
