-- Documented `adapt`: "Adapt as its own page describes it", a mode of a whole preparation. "The code ties sign and angle factor to a
-- position; the page ties them to an axis." Words and letters are those of `adapt`.
use Rattle.std.specs.Prelude.{ℕ, ◌+◌, ◌-◌, ◌/◌, ◌%◌, max, Bool, true, false, cond, ◌&&◌, ◌||◌, List, [], ◌∷◌, ◌++◌, map, length, take, drop, get_or, leb, eqb, ℤ, pos}
use Rattle.std.proofs.Math.Bool.{xor}
use Rattle.std.specs.Float.{binary64}
use Rattle.std.specs.Float.Ieee.{mul, div}
use Rattle.rules.specs.Text.Ascii.{ascii}
use Rattle.rules.specs.Text.Lists.{all_of}
use Rattle.rules.specs.Text.Bytes.{Bytes}
use Rattle.rules.specs.Text.Decimal.{signed, minus}
use Rattle.rules.specs.Operators.Acts.{adapts}
use Rattle.rules.specs.Operators.Arguments.{value_of, size, arg, key_value, is_order}
use Rattle.rules.specs.Operators.Numbers.{number, put}
use Rattle.rules.specs.Operators.Descriptions.{Operator, Adapt, Documented, Description, Wording, choose}
use Rattle.rules.specs.Operators.Adapt.{Word, axis, letter, ending_of, word_given, position, angles, combined, between, is_code, is_adapt, one, post, mult, output, adapted, adapt, word_keys}
use Rattle.rules.specs.declared.Coord.{Coord}
use Rattle.rules.specs.declared.Mode.{Mode}
use Rattle.rules.specs.declared.Mode.TheVariants as mode

-- ---- its arguments

-- "each output place takes the input place of the same axis": the place among the axes of `from` that holds axis i of `to`
unfoldable pub input_at : Word → Word → ℕ → ℕ
input_at from to i = position 1 (size (arg i to.axes)) from.axes

-- "times the input's sign .. over the output's": turned where that axis is turned in one word and not in the other
unfoldable pub output_by_axis : Word → Word → ℕ → ℤ
unfolding xor
output_by_axis from to i =
    let turned_in = minus (arg (input_at from to i) from.axes) in
    signed (xor turned_in (minus (arg i to.axes))) (input_at from to i)

-- "only east, west, north and south carry an angle wherever they stand": axes 1 and 2
unfoldable pub carries_angle : ℤ → Bool
carries_angle x = leb (size x) 2

-- "and angle factor over the output's": the code of the factor, 0 for an axis that carries no angle
unfoldable pub angle_by_axis : Word → Word → ℕ → ℤ
angle_by_axis from to i = cond (carries_angle (arg i to.axes)) (angles from to) (pos 0)

-- the eight arguments: the four outputs, and the codes of their factors
unfoldable pub combined_by_axis : Word → Word → List ℤ
combined_by_axis from to =
    output_by_axis from to 1
    ∷ output_by_axis from to 2
    ∷ output_by_axis from to 3
    ∷ output_by_axis from to 4
    ∷ angle_by_axis from to 1
    ∷ angle_by_axis from to 2
    ∷ angle_by_axis from to 3
    ∷ angle_by_axis from to 4
    ∷ []

-- two codes alike, and the other two 0
unfoldable pub is_pair : ℕ → ℕ → ℕ → ℕ → Bool
is_pair a b c d = eqb a b && (eqb c 0 && eqb d 0)

-- so of some two of the four
unfoldable pub two_alike : ℕ → ℕ → ℕ → ℕ → Bool
two_alike a b c d =
    is_pair a b c d || (is_pair a c b d || (is_pair a d b c || (is_pair b c a d || (is_pair b d a c || is_pair c d a b))))

-- the rule on its arguments: four places of the input, each once, with the sign of the factor; then the codes of the four factors' sizes:
-- those of the two outputs that carry an angle are alike, "wherever they stand", and the others are 0
unfoldable pub is_documented : List ℤ → Bool
is_documented l =
    eqb (length l) 8
    && (is_order (take 4 l)
    && (all_of is_code (drop 4 l) && two_alike (size (arg 5 l)) (size (arg 6 l)) (size (arg 7 l)) (size (arg 8 l))))

-- ---- what it does

-- "The inverse sends each number back to the place it came from, times one over the same factor."
unfoldable pub sends_back : List ℤ → Coord → ℕ → Coord → Coord
sends_back l c j out = put (post l j) (mul binary64 (number j c) (div binary64 one (mult l j))) out

-- forward, output i is input post[i] times mult[i], as `adapt` has it
unfoldable pub adapted_by_axis : Bool → List ℤ → Coord → Coord
adapted_by_axis false l c = record { a = output l c 1; b = output l c 2; c = output l c 3; d = output l c 4 }
adapted_by_axis true l c = sends_back l c 4 (sends_back l c 3 (sends_back l c 2 (sends_back l c 1 c)))

-- ---- its text

-- the code of the output that takes input place p
unfoldable pub code_from : List ℤ → ℕ → ℕ
code_from l p = size (arg (4 + position 1 p (take 4 l)) l)

-- The letters of `from`, by the codes of the four input places: e and n stand where the angle does. Where it stands in places 1 and 2, or
-- nowhere, they are in their order.
unfoldable pub letters_for : ℕ → ℕ → ℕ → ℕ → Bytes
letters_for a b c d =
    cond (eqb c 0 && eqb d 0) (ascii "enuf")
    (cond (eqb b 0 && eqb d 0) (ascii "eunf")
    (cond (eqb b 0 && eqb c 0) (ascii "eufn")
    (cond (eqb a 0 && eqb d 0) (ascii "uenf")
    (cond (eqb a 0 && eqb c 0) (ascii "uefn")
    (ascii "ufen")))))

unfoldable pub letters_from : List ℤ → Bytes
letters_from l = letters_for (code_from l 1) (code_from l 2) (code_from l 3) (code_from l 4)

-- the letter of an output: that of the input place which it takes, or the same axis turned
unfoldable pub letter_of : Bytes → ℤ → ℕ
letter_of from x = letter (signed (minus x) (size (axis (get_or from (size x - 1) 0))))

-- the one code that is not 0, if there is one
unfoldable pub code_of : List ℤ → ℕ
code_of l = max (max (size (arg 5 l)) (size (arg 6 l))) (max (size (arg 7 l)) (size (arg 8 l)))

unfoldable pub from_by_axis : List ℤ → Bytes
from_by_axis l = letters_from l ++ ending_of (code_of l / 3)

unfoldable pub to_by_axis : List ℤ → Bytes
to_by_axis l = map (letter_of (letters_from l)) (take 4 l) ++ ending_of (code_of l % 3)

-- ---- its description

abbrev pub documented : Description
documented =
    record {
      number = 11;
      name = adapt.name;
      is_args = is_documented;
      turned = true;
      forward = adapts mode.Documented false;
      inverse = adapts mode.Documented true;
      words = λ l. key_value "from" (from_by_axis l) ∷ key_value "to" (to_by_axis l) ∷ [];
    }

-- ---- `adapt` in either mode

unfoldable pub adapt_in : Mode → Operator
adapt_in mode.Crate = Adapt
adapt_in mode.Documented = Documented

unfoldable pub combined_in : Mode → Word → Word → List ℤ
combined_in mode.Crate from to = combined from to
combined_in mode.Documented from to = combined_by_axis from to

unfoldable pub is_adapt_in : Mode → List ℤ → Bool
is_adapt_in mode.Crate l = is_adapt l
is_adapt_in mode.Documented l = is_documented l

unfoldable pub adapted_in : Mode → Bool → List ℤ → Coord → Coord
adapted_in mode.Crate back l c = adapted back l c
adapted_in mode.Documented back l c = adapted_by_axis back l c

-- "a documented mode, chosen for a whole preparation"; "Letters as in document 01. Refusals: none new."
abbrev pub adapt_wording : Wording
adapt_wording =
    record {
      name = adapt.name;
      keys = word_keys;
      chosen = λ m ps. choose (adapt_in m) (between (combined_in m) (word_given (value_of (ascii "from") ps)) (word_given (value_of (ascii "to") ps)));
    }
