-- The text of a documented record: the letters of `from` are axes, and so are those of the outputs; with the code they are the two words.
use mathlib.Core.Path.{◌≡◌, refl, sym, ap, ap₂, ◌∙◌}
use mathlib.Core.Bool.{Bool, true, false, cond, ◌&&◌}
use mathlib.Core.List.{List, [], ◌∷◌, map}
use Prim.Native.Nat.{ℕ, ◌+◌, ◌-◌, ◌≤◌}
use native.Mathlib.Omega.{arith}
use borrow.Author.Tests.{eqb-true}
use lib.ListN.{length, get_or, take, get_or-map}
use lib.Seq.{length-take-le}
use lib.Dec.{eqb}
use lib.IntN.{ℤ, pos}
use Rattle.rules.specs.Text.Ascii.{ascii}
use Rattle.rules.specs.Text.Bytes.{Bytes, joined}
use Rattle.rules.specs.Text.Lists.{all_of}
use Rattle.rules.specs.Text.Decimal.{signed, minus}
use Rattle.rules.specs.Operators.Arguments.{size, arg, is_order}
use Rattle.rules.specs.Operators.Adapt.{place_in, axis, position, letter}
use Rattle.rules.specs.Operators.Documented.{is_documented, code_from, letters_for, letters_from, letter_of, code_of, from_by_axis, to_by_axis}
use Rattle.rules.specs.Operators.Descriptions.{Documented}
use Rattle.rules.specs.Pipeline.Write.{name_word, arg_words, operator_words}
use Rattle.laws_lists.specs.Tests.{and_left, and_right}
use Rattle.laws_records.specs.Series.{size-signed}
use Rattle.laws_records.specs.Operators.Adapt.Words.{four-list}
use Rattle.numbers.specs.Axes.{is_axis}
use Rattle.numbers.proofs.Listed.{all-at}
use Rattle.numbers.proofs.OrderTest.{order-axes}
use Rattle.adapt.specs.Text.{words_text, axis_from}
use Rattle.adapt.proofs.Spelt.{axis-least, axis-most, words_are}
use Rattle.adapt.proofs.FirstPlace.{finds-size, place-most}

-- ---- the letters of `from`

-- four letters of plain axes
record Lettered (t : Bytes) : Type 0 where
  again : map letter (map axis t) ≡ t
  are : all_of is_axis (map axis t) ≡ true

either : (b : Bool) {t u : Bytes} → Lettered t → Lettered u → Lettered (cond b t u)
either true p q = p
either false p q = q

lettered-for : (a b c d : ℕ) → Lettered (letters_for a b c d)
unfolding letters_for axis letter place_in ascii signed minus is_axis all_of
lettered-for a b c d =
    either (eqb c 0 && eqb d 0) (record { again = refl; are = refl })
    (either (eqb b 0 && eqb d 0) (record { again = refl; are = refl })
    (either (eqb b 0 && eqb c 0) (record { again = refl; are = refl })
    (either (eqb a 0 && eqb d 0) (record { again = refl; are = refl })
    (either (eqb a 0 && eqb c 0) (record { again = refl; are = refl })
    (record { again = refl; are = refl })))))

lettered-from : (l : List ℤ) → Lettered (letters_from l)
unfolding letters_from
lettered-from l = lettered-for _ _ _ _

pub from-axes : (l : List ℤ) {from : List ℤ} → from ≡ map axis (letters_from l) → all_of is_axis from ≡ true
from-axes l e = rw e (lettered-from l).are

-- ---- the code of the output that takes a place

pub place-four : (l : List ℤ) (p : ℕ) {k : ℕ} → 4 ≤ length l → k ≡ position 1 p (take 4 l) → k ≤ 4
place-four l p h e = omega (arith, place-most (finds-size p) (take 4 l), length-take-le 4 l h)

pub code-so : (l : List ℤ) (p : ℕ) {k r : ℕ} → k ≡ position 1 p (take 4 l) → r ≡ size (get_or l (3 + k) (pos 0)) → r ≡ code_from l p
unfolding code_from arg
code-so l p {k} e f = let n : 4 + k - 1 ≡ 3 + k = omega arith in f ∙ sym (rw (← e, n))

-- ---- the axes of the outputs

pub axis-small : (x : ℤ) {m : ℕ} → m ≡ size x → is_axis x ≡ true → m ≤ 999999999
axis-small x e h = omega (arith, axis-least x e h, axis-most x e h)

module _ (from : List ℤ) (four : length from ≡ 4) (are : all_of is_axis from ≡ true) where
  -- an output takes a place of `from`
  pub taken-axis : (x : ℤ) {m : ℕ} → m ≡ size x → is_axis x ≡ true → is_axis (get_or from (m - 1) (pos 0)) ≡ true
  taken-axis x {m} e h = all-at is_axis from (m - 1) (pos 0) (omega (arith, axis-most x e h)) are

  output-axis : (x : ℤ) → is_axis x ≡ true → is_axis (axis_from from x) ≡ true
  unfolding axis_from is_axis
  output-axis x h = rw (size-signed (minus x) (size (get_or from (size x - 1) (pos 0)))) (taken-axis x refl h)

  pub outputs-axes : (l : List ℤ) → all_of is_axis l ≡ true → all_of is_axis (map (axis_from from) l) ≡ true
  unfolding all_of
  outputs-axes [] h = refl
  outputs-axes (x ∷ l) h = rw (output-axis x (and_left (is_axis x) _ h)) (outputs-axes l (and_right (is_axis x) _ h))

pub axis-from-so : (from : List ℤ) (x : ℤ) {b : Bool} {m n : ℕ} → b ≡ minus x → m ≡ size x → n ≡ size (get_or from (m - 1) (pos 0))
    → signed b n ≡ axis_from from x
unfolding axis_from
axis-from-so from x d e f = sym (rw (← d, ← e, ← f))

pub four-so : (from l : List ℤ) → length l ≡ 4 → {a b c d : ℤ} → a ≡ axis_from from (get_or l 0 (pos 0)) → b ≡ axis_from from (get_or l 1 (pos 0))
    → c ≡ axis_from from (get_or l 2 (pos 0)) → d ≡ axis_from from (get_or l 3 (pos 0)) → a ∷ b ∷ c ∷ d ∷ [] ≡ map (axis_from from) l
four-so from l n p q r s =
    let u = four-list l n in
    rw (p, q, r, s) (rw u.4 refl)

-- ---- the two words

-- the letter of an output is that of its axis
letter-same : (t : Bytes) (x : ℤ) → letter (axis_from (map axis t) x) ≡ letter_of t x
unfolding axis_from letter_of axis place_in ascii signed
letter-same t x = ap (λ (y : ℤ). letter (signed (minus x) (size y))) (get_or-map axis t (size x - 1) 0)

letters-same : (t : Bytes) (l : List ℤ) → map letter (map (axis_from (map axis t)) l) ≡ map (letter_of t) l
letters-same t [] = refl
letters-same t (x ∷ l) = ap₂ ◌∷◌ (letter-same t x) (letters-same t l)

pub documented-is : (l : List ℤ) {code : ℕ} {from to : List ℤ} → code ≡ code_of l → from ≡ map axis (letters_from l) → to ≡ map (axis_from from) (take 4 l)
    → joined (operator_words Documented l) ≡ words_text code from to
unfolding operator_words name_word arg_words from_by_axis to_by_axis
documented-is l {code} {from} {to} e f g =
    let t : map letter to ≡ map (letter_of (letters_from l)) (take 4 l) = rw (g, f) (letters-same (letters_from l) (take 4 l)) in
    let u : map letter from ≡ letters_from l = rw f (lettered-from l).again in
    rw (← e, ← t, ← u) (words_are code from to)

-- ---- its arguments

pub documented-long : (l : List ℤ) → is_documented l ≡ true → length l ≡ 8
unfolding is_documented
documented-long l h = eqb-true (length l) 8 (and_left (eqb (length l) 8) _ h)

pub documented-axes : (l : List ℤ) → is_documented l ≡ true → all_of is_axis (take 4 l) ≡ true
unfolding is_documented
documented-axes l h = (order-axes (take 4 l) (and_left (is_order (take 4 l)) _ (and_right (eqb (length l) 8) _ h))).0
