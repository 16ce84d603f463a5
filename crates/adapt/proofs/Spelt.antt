-- The text of `adapt`: letters, endings, and the two words.
use mathlib.Core.Path.{◌≡◌, refl, ap}
use mathlib.Core.Bool.{Bool, true, false}
use mathlib.Core.List.{List, [], ◌∷◌, ◌++◌, map, append-nil}
use Prim.Native.Nat.{ℕ, zero, suc, ◌-◌, ◌/◌, ◌%◌, ◌≤◌, ◌<◌}
use native.Mathlib.Omega.{arith}
use borrow.Author.Tests.{leb-true, eqb-true}
use lib.ListN.{length, get_or, take}
use lib.Dec.{leb, eqb}
use lib.IntN.{ℤ, pos}
use Rattle.rules.specs.Text.Ascii.{ascii}
use Rattle.rules.specs.Text.Bytes.{Bytes, after_each, joined_by, joined}
use Rattle.rules.specs.Text.Lists.{all_of}
use Rattle.rules.specs.Text.Decimal.{minus}
use Rattle.rules.specs.Operators.Arguments.{size, arg, key_value, is_order}
use Rattle.rules.specs.Operators.Descriptions.{Adapt}
use Rattle.rules.specs.Pipeline.Write.{name_word, arg_words, operator_words}
use Rattle.numbers.proofs.OrderTest.{order-axes}
use Rattle.rules.specs.Operators.Adapt.{is_adapt, letter, ending_of, from_word, to_word}
use Rattle.laws_lists.specs.Tests.{and_left, and_right}
use Rattle.numbers.specs.Parts.{rest}
use Rattle.numbers.specs.Axes.{is_axis}
use Rattle.adapt.specs.Text.{lettered, word_text, words_text}

-- ---- letters and endings

pub letters-rest : (begun : Bool) (l : List ℤ) → map letter l ≡ rest lettered begun l
unfolding rest lettered
letters-rest begun [] = refl
letters-rest begun (x ∷ l) = ap (λ (t : Bytes). letter x ∷ t) (letters-rest true l)

pub axis-least : (x : ℤ) {m : ℕ} → m ≡ size x → is_axis x ≡ true → 1 ≤ m
unfolding is_axis
axis-least x e h = omega (arith, leb-true 1 (size x) (and_left (leb 1 (size x)) _ h))

pub axis-most : (x : ℤ) {m : ℕ} → m ≡ size x → is_axis x ≡ true → m - 1 < 4
unfolding is_axis
axis-most x e h = omega (arith, leb-true 1 (size x) (and_left (leb 1 (size x)) _ h), leb-true (size x) 4 (and_right (leb 1 (size x)) _ h))

pub letter-turned : (x : ℤ) {m r : ℕ} → m ≡ size x → minus x ≡ true → r ≡ get_or (119 ∷ 115 ∷ 100 ∷ 112 ∷ []) (m - 1) 0 → r ≡ letter x
unfolding letter ascii
letter-turned x e s h = rw (s, ← e) h

pub letter-plain : (x : ℤ) {m r : ℕ} → m ≡ size x → minus x ≡ false → r ≡ get_or (101 ∷ 110 ∷ 117 ∷ 102 ∷ []) (m - 1) 0 → r ≡ letter x
unfolding letter ascii
letter-plain x e s h = rw (s, ← e) h

pub no-ending : {k : ℕ} → k ≡ 0 → ending_of k ≡ []
unfolding ending_of
no-ending e = rw e

pub deg-ending : {k : ℕ} → k ≡ 1 → ending_of k ≡ 95 ∷ 100 ∷ 101 ∷ 103 ∷ []
unfolding ending_of ascii
deg-ending e = rw e

pub gon-ending : (k : ℕ) → (k ≡ 0 → ⊥) → (k ≡ 1 → ⊥) → ending_of k ≡ 95 ∷ 103 ∷ 111 ∷ 110 ∷ []
unfolding ending_of ascii
gon-ending zero a b = absurd (a refl)
gon-ending (suc zero) a b = absurd (b refl)
gon-ending (suc (suc k)) a b = refl

-- ---- the words

-- the name and two words with a space between, by the axes of both and the code
pub words_are : (code : ℕ) (from to : List ℤ)
    → joined (ascii "adapt" ∷ key_value "from" (map letter from ++ ending_of (code / 3)) ∷ key_value "to" (map letter to ++ ending_of (code % 3)) ∷ [])
    ≡ words_text code from to
unfolding joined joined_by after_each key_value ascii words_text word_text
words_are code from to = rw (append-nil (map letter to ++ ending_of (code % 3)))

pub adapt-is : (l : List ℤ) {code : ℕ} → code ≡ size (get_or l 4 (pos 0))
    → joined (operator_words Adapt l) ≡ words_text code (pos 1 ∷ pos 2 ∷ pos 3 ∷ pos 4 ∷ []) (take 4 l)
unfolding operator_words name_word arg_words from_word to_word arg letter minus ascii
adapt-is l {code} e = rw (← e) (words_are code (pos 1 ∷ pos 2 ∷ pos 3 ∷ pos 4 ∷ []) (take 4 l))

pub adapt-long : (l : List ℤ) → is_adapt l ≡ true → length l ≡ 8
unfolding is_adapt
adapt-long l h = eqb-true (length l) 8 (and_left (eqb (length l) 8) _ h)

pub adapt-axes : (l : List ℤ) → is_adapt l ≡ true → all_of is_axis (take 4 l) ≡ true
unfolding is_adapt
adapt-axes l h = (order-axes (take 4 l) (and_left (is_order (take 4 l)) _ (and_right (eqb (length l) 8) _ h))).0
