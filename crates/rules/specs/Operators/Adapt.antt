-- `adapt`: "words such as `neuf_deg`", the eight arguments that two of them make, and what they do to a coordinate. (Its documented mode
-- is in Documented.)
use Rattle.std.specs.Prelude.{ℕ, zero, suc, ◌+◌, ◌-◌, ◌*◌, ◌/◌, ◌%◌, Bool, true, false, cond, not, ◌&&◌, ◌||◌, List, [], ◌∷◌, ◌++◌, map, length, take, drop, get_or, leb, ltb, eqb, ℤ, pos, negsuc, Float, Option, None, Some}
use Rattle.std.proofs.Math.Bool.{xor}
use Rattle.std.specs.Float.{fin, binary64}
use Rattle.std.specs.Float.Ieee.{mul, div, eq}
use Rattle.rules.specs.Text.Ascii.{ascii}
use Rattle.rules.specs.Text.Lists.{all_of}
use Rattle.rules.specs.Text.Bytes.{Bytes, same}
use Rattle.rules.specs.Text.Decimal.{signed, minus}
use Rattle.rules.specs.Operators.Acts.{adapts}
use Rattle.rules.specs.Operators.Arguments.{size, arg, key_value, is_order}
use Rattle.rules.specs.Operators.Numbers.{number, put, turn}
use Rattle.rules.specs.Operators.Keys.{Key, worded}
use Rattle.rules.specs.Operators.Descriptions.{Description}
use Rattle.rules.specs.declared.Coord.{Coord}
use Rattle.rules.specs.declared.Mode.TheVariants as mode

-- ---- its words

-- A word: four axes, each with its sign, and the angle of the first two numbers: 0 radians, 1 degrees, 2 gons.
pub record Word : Type 0 where
  pub axes : List ℤ
  pub angle : ℕ

-- the place of a byte in a text, counted from i; 0 where it is not there
unfoldable pub place_in : ℕ → ℕ → Bytes → ℕ
place_in i b [] = 0
place_in i b (x ∷ t) = cond (eqb b x) i (place_in (suc i) b t)

-- "The letters are the code's, not the comment's": e n u f are axes 1 to 4, w s d p the same axes turned; another byte
-- is none, 0
unfoldable pub axis : ℕ → ℤ
axis b =
    let plain = place_in 1 b (ascii "enuf") in
    let turned = place_in 1 b (ascii "wsdp") in
    cond (ltb 0 plain) (pos plain) (signed true turned)

-- the source's endings; without one, and with `_rad` or `_any`, the angle is in radians
unfoldable pub ending : Bytes → Option ℕ
ending t =
    cond (same t (ascii "_deg")) (Some 1)
    (cond (same t (ascii "_gon")) (Some 2)
    (cond (same t [] || (same t (ascii "_rad") || same t (ascii "_any"))) (Some 0)
    None))

unfoldable pub word_of : List ℤ → Option ℕ → Option Word
word_of l None = None
word_of l (Some angle) = cond (eqb (length l) 4 && is_order l) (Some (record { axes = l; angle = angle })) None

-- "words .. as the source has them, `pass` included": four letters, each axis once, and an ending or none; `pass` is
-- `enuf`
unfoldable pub word : Bytes → Option Word
word t =
    let letters = cond (same t (ascii "pass")) (ascii "enuf") t in
    word_of (map axis (take 4 letters)) (ending (drop 4 letters))

-- a word that is not given is `enuf`, as in the source
unfoldable pub word_given : Option Bytes → Option Word
word_given None = word (ascii "enuf")
word_given (Some value) = word value

-- ---- its arguments

-- which place of the list holds the axis, counted from i
unfoldable pub position : ℕ → ℕ → List ℤ → ℕ
position i x [] = 0
position i x (y ∷ l) = cond (eqb x (size y)) i (position (suc i) x l)

-- post[i] with the sign of mult[i]: the place among the axes of `from` that holds axis i of `to`; turned where the axis
-- at i is turned in one word and not in the other
unfoldable pub output_of : Word → Word → ℕ → ℤ
unfolding xor
output_of from to i =
    signed (xor (minus (arg i from.axes)) (minus (arg i to.axes))) (position 1 (size (arg i to.axes)) from.axes)

-- the code of the factor that goes from one angle to another, 0 where they are the same
unfoldable pub angles : Word → Word → ℤ
angles from to = pos (cond (eqb from.angle to.angle) 0 (3 * from.angle + to.angle))

-- the eight arguments: the four outputs, and the codes of their factors (an angle stands in the first two numbers)
unfoldable pub combined : Word → Word → List ℤ
combined from to =
    output_of from to 1
    ∷ output_of from to 2
    ∷ output_of from to 3
    ∷ output_of from to 4
    ∷ angles from to
    ∷ angles from to
    ∷ pos 0
    ∷ pos 0
    ∷ []

-- what two words make, if both are words
unfoldable pub between : (Word → Word → List ℤ) → Option Word → Option Word → Option (List ℤ)
between make None to = None
between make (Some from) None = None
between make (Some from) (Some to) = Some (make from to)

-- the code of a factor's size: 0, or that of two angles of which neither is the other (4 and 8 would be 1 again)
unfoldable pub is_code : ℤ → Bool
is_code x = not (minus x) && (leb (size x) 7 && not (eqb (size x) 4))

-- the rule on its arguments: four places of the input, each once, with the sign of the factor; then the codes of the four
-- factors' sizes, the first two alike, the others 0
unfoldable pub is_adapt : List ℤ → Bool
is_adapt l =
    eqb (length l) 8
    && (is_order (take 4 l)
    && (all_of is_code (drop 4 l)
    && (eqb (size (arg 6 l)) (size (arg 5 l)) && (eqb (size (arg 7 l)) 0 && eqb (size (arg 8 l)) 0))))

-- ---- what it does: "factors are made and applied with one rounding per operation"

-- the f64 nearest to π, and 1
abbrev pub pi : Float
pi = fin false 884279719003555 (negsuc 47)

abbrev pub one : Float
one = fin false 1 (pos 0)

-- an angle in radians: 0 is 1, 1 is π / 180, 2 is π / 200
unfoldable pub angle : ℕ → Float
angle k =
    cond (eqb k 0) one
    (cond (eqb k 1) (div binary64 pi (fin false 45 (pos 2)))
    (div binary64 pi (fin false 25 (pos 3))))

-- the factor of a code: one angle over the other
unfoldable pub factor : ℕ → Float
factor code = div binary64 (angle (code / 3)) (angle (code % 3))

-- post[i] and mult[i]: argument i is post[i] with the sign of mult[i], argument i + 4 the code of its size
unfoldable pub post : List ℤ → ℕ → ℕ
post l i = size (arg i l)

unfoldable pub mult : List ℤ → ℕ → Float
mult l i = turn (minus (arg i l)) (factor (size (arg (i + 4) l)))

-- "Output i is input post[i] times mult[i]"
unfoldable pub output : List ℤ → Coord → ℕ → Float
output l c i = mul binary64 (number (post l i) c) (mult l i)

-- "inverse sets place post[j] to number j times 1/mult[post[j]]"
unfoldable pub sets : List ℤ → Coord → ℕ → Coord → Coord
sets l c j out = put (post l j) (mul binary64 (number j c) (div binary64 one (mult l (post l j)))) out

-- the source's `noop`: post is 1,2,3,4 and every mult is 1
unfoldable pub stays : List ℤ → ℕ → Bool
stays l i = eqb (post l i) i && eq (mult l i) one

unfoldable pub noop : List ℤ → Bool
noop l = stays l 1 && (stays l 2 && (stays l 3 && stays l 4))

unfoldable pub adapted_if : Bool → Bool → List ℤ → Coord → Coord
adapted_if true back l c = c
adapted_if false false l c = record { a = output l c 1; b = output l c 2; c = output l c 3; d = output l c 4 }
adapted_if false true l c = sets l c 4 (sets l c 3 (sets l c 2 (sets l c 1 c)))

-- "A no-op touches nothing."
unfoldable pub adapted : Bool → List ℤ → Coord → Coord
adapted back l c = adapted_if (noop l) back l c

-- ---- its text

-- the letter of an axis, e n u f or turned w s d p
unfoldable pub letter : ℤ → ℕ
letter x = get_or (cond (minus x) (ascii "wsdp") (ascii "enuf")) (size x - 1) 0

-- the ending of an angle, 0 radians, 1 degrees, 2 gons
unfoldable pub ending_of : ℕ → Bytes
ending_of zero = []
ending_of (suc zero) = ascii "_deg"
ending_of (suc (suc k)) = ascii "_gon"

-- `from` has the axes in their order and the angle that the code goes from; `to` has the letters of the four outputs and
-- the angle that it goes to
unfoldable pub from_word : ℕ → Bytes
from_word code = ascii "enuf" ++ ending_of (code / 3)

unfoldable pub to_word : ℕ → List ℤ → Bytes
to_word code outputs = map letter outputs ++ ending_of (code % 3)

-- ---- its description

abbrev pub adapt : Description
adapt =
    record {
      number = 10;
      name = "adapt";
      is_args = is_adapt;
      turned = true;
      forward = adapts mode.Crate false;
      inverse = adapts mode.Crate true;
      words = λ l. key_value "from" (from_word (size (arg 5 l))) ∷ key_value "to" (to_word (size (arg 5 l)) (take 4 l)) ∷ [];
    }

abbrev pub word_keys : List Key
word_keys = worded "from" ∷ worded "to" ∷ []
