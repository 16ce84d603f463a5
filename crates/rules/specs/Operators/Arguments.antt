-- A step's parameters and arguments, as every operator's rule reads them and its text has them.
use Rattle.std.specs.Prelude.{ℕ, ◌-◌, Bool, true, cond, not, ◌&&◌, List, [], ◌∷◌, ◌++◌, map, length, get_or, eqb, leb, ℤ, pos, nat_abs, Option, None, Some}
use Prim.Native.String.{String}
use Rattle.rules.specs.Text.Ascii.{ascii}
use Rattle.rules.specs.Text.Lists.{all_of, any_of, is_none}
use Rattle.rules.specs.Text.Bytes.{Bytes, same, joined_by}
use Rattle.rules.specs.Text.Parameters.{Parameter}
use Rattle.rules.specs.Text.Decimal.{is_whole, whole_of, minus}
use Rattle.rules.specs.Text.Numerals.{digits}
use Rattle.rules.specs.declared.Decimal.{Decimal}

-- ---- parameters

-- the value of a key, if it is given
unfoldable pub value_of : Bytes → List Parameter → Option Bytes
value_of key [] = None
value_of key (p ∷ ps) = cond (same key p.key) (Some p.value) (value_of key ps)

unfoldable pub is_given : String → List Parameter → Bool
is_given key ps = not (is_none (value_of (ascii key) ps))

-- ---- arguments

-- the size of a whole number
abbrev pub size : ℤ → ℕ
size x = nat_abs x

-- argument i, counted from 1
unfoldable pub arg : ℕ → List ℤ → ℤ
arg i l = get_or l (i - 1) (pos 0)

-- the places that arguments name
unfoldable pub places : List ℤ → List ℕ
places l = map size l

-- a place: 1 to 4
unfoldable pub is_place : ℤ → Bool
is_place x = not (minus x) && (leb 1 (size x) && leb (size x) 4)

-- no size "repeated"
unfoldable pub is_distinct : List ℤ → Bool
is_distinct [] = true
is_distinct (x ∷ l) = not (any_of (λ (y : ℤ). eqb (size x) (size y)) l) && is_distinct l

-- an order of the first places, which `order=` and the axes of a word have: "at most four; whole, nonzero, no size above the length or repeated"
unfoldable pub is_order : List ℤ → Bool
is_order l =
    leb 1 (length l)
    && (leb (length l) 4 && (all_of (λ (x : ℤ). leb 1 (size x) && leb (size x) (length l)) l && is_distinct l))

-- the numbers of a series, if they are whole and keep the rule
unfoldable pub wholes : (List ℤ → Bool) → Option (List Decimal) → Option (List ℤ)
wholes rule None = None
wholes rule (Some ds) = cond (all_of is_whole ds && rule (map whole_of ds)) (Some (map whole_of ds)) None

-- ---- their text

-- a whole number: its sign, if it is below zero, and its digits
unfoldable pub spelling : ℤ → Bytes
spelling x = cond (minus x) (ascii "-") [] ++ digits (size x)

-- numbers with a comma between
unfoldable pub listing : List ℤ → Bytes
listing l = joined_by (ascii ",") (map spelling l)

-- `key=value`
unfoldable pub key_value : String → Bytes → Bytes
key_value key value = ascii key ++ (61 ∷ value)
