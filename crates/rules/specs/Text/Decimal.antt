-- Numbers in decimal form, series of them, and whole numbers.
use Rattle.std.specs.Prelude.{ℕ, zero, suc, ◌+◌, ◌-◌, ◌*◌, ◌^◌, Bool, true, false, cond, not, ◌&&◌, ◌||◌, List, [], ◌∷◌, length, leb, eqb, ℤ, pos, negsuc, Option, None, Some}
use Rattle.rules.specs.Text.Ascii.{is}
use Rattle.rules.specs.Text.Lists.{any_of, all_of}
use Rattle.rules.specs.Text.Bytes.{Bytes, before, behind, cut}
use Rattle.rules.specs.declared.Decimal.{Decimal}

-- ---- decimal form

unfoldable pub digit : ℕ → Bool
digit b = leb 48 b && leb b 57

-- "1 to 9 digits", "1 to 6 digits": at least one and at most `most` bytes, all of them digits
unfoldable pub digits_to : ℕ → Bytes → Bool
digits_to most t = leb 1 (length t) && (leb (length t) most && all_of digit t)

-- the number that digits spell, read after digits that spelled n
unfoldable pub spelled : ℕ → Bytes → ℕ
spelled n [] = n
spelled n (b ∷ t) = spelled (n * 10 + (b - 48)) t

-- "1 to 9 digits, optionally a point and 1 to 6 digits"
unfoldable pub plain_form : Bytes → Bool
plain_form t = digits_to 9 (before (is ".") t) && (not (any_of (is ".") t) || digits_to 6 (behind (is ".") t))

-- its exact value: whole, and the fraction in millionths
unfoldable pub plain : Bool → Bytes → Option Decimal
plain minus t =
    cond (plain_form t)
    (Some (record {
      minus = minus;
      whole = spelled 0 (before (is ".") t);
      millionths = spelled 0 (behind (is ".") t) * 10 ^ (6 - length (behind (is ".") t));
    }))
    None

-- "Decimal form: optional minus, 1 to 9 digits, optionally a point and 1 to 6 digits."
unfoldable pub decimal : Bytes → Option Decimal
decimal [] = None
decimal (b ∷ t) = cond (is "-" b) (plain true t) (plain false (b ∷ t))

-- ---- series

-- "A series is cut at each comma"; an empty value is one empty piece
unfoldable pub pieces : Bytes → List Bytes
pieces value = cut (is ",") value

-- one number more in front, if it is one
unfoldable pub number_then : Option Decimal → Option (List Decimal) → Option (List Decimal)
number_then None r = None
number_then (Some d) None = None
number_then (Some d) (Some ds) = Some (d ∷ ds)

unfoldable pub all_numbers : List Bytes → Option (List Decimal)
all_numbers [] = Some []
all_numbers (p ∷ ps) = number_then (decimal p) (all_numbers ps)

-- the numbers of a series; none if an element is not in decimal form ("an empty piece or value is not in decimal form")
unfoldable pub series : Bytes → Option (List Decimal)
series value = all_numbers (pieces value)

-- is it a number?
unfoldable pub is_number : Option Decimal → Bool
is_number (Some d) = true
is_number None = false

-- where the first piece of a series begins that "breaks decimal form": behind those before it, and their commas
unfoldable pub broken_from : List Bytes → ℕ
broken_from [] = 0
broken_from (p ∷ ps) = cond (is_number (decimal p)) (length p + 1 + broken_from ps) 0

-- ---- whole numbers: `1.0` and `01` are 1, and `-0` is 0

unfoldable pub is_whole : Decimal → Bool
is_whole d = eqb d.millionths 0

-- the whole number of that sign and size
unfoldable pub signed : Bool → ℕ → ℤ
signed false n = pos n
signed true zero = pos zero
signed true (suc n) = negsuc n

-- is it below zero?
unfoldable pub minus : ℤ → Bool
minus (pos n) = false
minus (negsuc n) = true

unfoldable pub whole_of : Decimal → ℤ
whole_of d = signed d.minus d.whole
