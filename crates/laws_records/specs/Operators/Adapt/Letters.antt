-- The two words of a record of `adapt` are read as the axes in their order and the record's outputs, and make its eight arguments; and how
-- long the words are, and of which bytes.
use Rattle.std.specs.Prelude.{◌≡◌, Bool, cond, ◌&&◌, List, [], ◌∷◌, ◌++◌, map, length, take, drop, leb, ℤ, pos, negsuc, Some}
use Rattle.std.proofs.Math.Path.{refl}
use Rattle.std.proofs.Common.{sym, ap, ◌∙◌, mod-lt, div-lt_iff_lt-mul, lit≤}
use Prim.Native.Nat.{ℕ, zero, suc, ◌+◌, ◌*◌, ◌/◌, ◌%◌, ◌≤◌, ◌<◌}
use Rattle.std.proofs.Math.Bool.{true, false, not, xor}
use Rattle.std.proofs.lemmas.Bool.{false≢true}
use native.Mathlib.Omega.{arith}
use borrow.Author.Tests.{leb-true, eqb-true, not-true}
use Rattle.std.proofs.Math.Dec.{eqb}
use Rattle.rules.specs.Text.Ascii.{ascii}
use Rattle.rules.specs.Text.Lists.{any_of, all_of}
use Rattle.rules.specs.Text.Bytes.{same}
use Rattle.rules.specs.Text.Decimal.{signed, minus}
use Rattle.rules.specs.Operators.Arguments.{size, arg, is_distinct, is_order}
use Rattle.rules.specs.Operators.Adapt.{is_code, is_adapt, Word, place_in, axis, ending, word_of, word, position, output_of, angles, combined, between, letter, ending_of, from_word, to_word}
use Rattle.rules.specs.Operators.Descriptions.{Adapt}
use Rattle.rules.specs.Operators.Documented.{adapt_in, combined_in}
use Rattle.rules.specs.Pipeline.Write.{arg_words}
use Rattle.rules.specs.declared.Mode.TheVariants as mode-is
use Rattle.laws_lists.specs.Tests.{and_left, and_right, below, below_at}
use Rattle.laws_records.specs.Operators.Adapt.TwoWords.{Spelt}
use Rattle.laws_records.specs.Operators.Adapt.Words.{Sized, order-sized}
use Rattle.laws_records.specs.Calm.{known, firm, so, so-at}
use Rattle.laws_records.specs.Numbers.{Firmly}

-- ---- letters

no_size : (x : ℤ) → Sized x → size x ≡ 0 → ⊥
no_size x h e = omega (arith, h.least)

too-big : (n : ℕ) → suc (suc (suc (suc (suc n)))) ≤ 4 → ⊥
too-big n h = omega arith

-- a letter is read as its axis
axis-letter : (x : ℤ) → Sized x → axis (letter x) ≡ x
unfolding axis letter place_in signed minus ascii
axis-letter (pos zero) h = absurd (no_size (pos zero) h refl)
axis-letter (pos (suc zero)) h = refl
axis-letter (pos (suc (suc zero))) h = refl
axis-letter (pos (suc (suc (suc zero)))) h = refl
axis-letter (pos (suc (suc (suc (suc zero))))) h = refl
axis-letter (pos (suc (suc (suc (suc (suc n)))))) h = absurd (too-big n h.most)
axis-letter (negsuc zero) h = refl
axis-letter (negsuc (suc zero)) h = refl
axis-letter (negsuc (suc (suc zero))) h = refl
axis-letter (negsuc (suc (suc (suc zero)))) h = refl
axis-letter (negsuc (suc (suc (suc (suc n))))) h = absurd (too-big n h.most)

-- what is so of the eight letters is computed
pub letters-so : (q : ℕ → Bool) → all_of q (ascii "enufwsdp") ≡ true → (x : ℤ) → Sized x → q (letter x) ≡ true
unfolding letter minus ascii all_of
letters-so q a (pos zero) h = absurd (no_size (pos zero) h refl)
letters-so q a (pos (suc zero)) h = and_left (q 101) _ a
letters-so q a (pos (suc (suc zero))) h = and_left (q 110) _ (and_right (q 101) _ a)
letters-so q a (pos (suc (suc (suc zero)))) h = and_left (q 117) _ (and_right (q 110) _ (and_right (q 101) _ a))
letters-so q a (pos (suc (suc (suc (suc zero))))) h = and_left (q 102) _ (and_right (q 117) _ (and_right (q 110) _ (and_right (q 101) _ a)))
letters-so q a (pos (suc (suc (suc (suc (suc n)))))) h = absurd (too-big n h.most)
letters-so q a (negsuc zero) h = and_left (q 119) _ (and_right (q 102) _ (and_right (q 117) _ (and_right (q 110) _ (and_right (q 101) _ a))))
letters-so q a (negsuc (suc zero)) h = and_left (q 115) _ (and_right (q 119) _ (and_right (q 102) _ (and_right (q 117) _ (and_right (q 110) _ (and_right (q 101) _ a)))))
letters-so q a (negsuc (suc (suc zero))) h = and_left (q 100) _ (and_right (q 115) _ (and_right (q 119) _ (and_right (q 102) _ (and_right (q 117) _ (and_right (q 110) _ (and_right (q 101) _ a))))))
letters-so q a (negsuc (suc (suc (suc zero)))) h =
    and_left (q 112) _ (and_right (q 100) _
    (and_right (q 115) _ (and_right (q 119) _ (and_right (q 102) _ (and_right (q 117) _ (and_right (q 110) _ (and_right (q 101) _ a)))))))
letters-so q a (negsuc (suc (suc (suc (suc n))))) h = absurd (too-big n h.most)

-- ---- endings

ending-again : (k : ℕ) → k < 3 → ending (ending_of k) ≡ Some k
unfolding ending ending_of same ascii
ending-again zero h = refl
ending-again (suc zero) h = refl
ending-again (suc (suc zero)) h = refl
ending-again (suc (suc (suc k))) h = absurd (none h)
  where
    none : suc (suc (suc k)) < 3 → ⊥
    none h = omega arith

-- ---- the two words

abbrev plain_axes : List ℤ
plain_axes = pos 1 ∷ pos 2 ∷ pos 3 ∷ pos 4 ∷ []

from-read : (code : ℕ) → code / 3 < 3 → word (from_word code) ≡ Some (record { axes = plain_axes; angle = code / 3 })
unfolding word from_word
from-read code h = go (code / 3) h
  where
    go : (k : ℕ) → k < 3
        → (let letters = cond (same (ascii "enuf" ++ ending_of k) (ascii "pass")) (ascii "enuf") (ascii "enuf" ++ ending_of k) in
        word_of (map axis (take 4 letters)) (ending (drop 4 letters))) ≡ Some (record { axes = plain_axes; angle = k })
    go k h = unfold same ascii axis place_in signed word_of is_order is_distinct all_of any_of in rw (ending-again k h)

module _ (a b c d : ℤ) (o : is_order (a ∷ b ∷ c ∷ d ∷ []) ≡ true) where
  pub to-read : (code : ℕ) → code % 3 < 3 → word (to_word code (a ∷ b ∷ c ∷ d ∷ [])) ≡ Some (record { axes = a ∷ b ∷ c ∷ d ∷ []; angle = code % 3 })
  unfolding word to_word same ascii word_of
  to-read code h =
      let z = order-sized a b c d o in
      let n : eqb (letter b) 97 ≡ false = not-true (eqb (letter b) 97) (letters-so (λ x. not (eqb x 97)) (unfold all_of ascii in refl) b z.1) in
      rw (n, and_no (eqb (letter a) 112))
      (rw (axis-letter a z.0, axis-letter b z.1, axis-letter c z.2, axis-letter d z.3, ending-again (code % 3) h) (rw o))
    where
      and_no : (b : Bool) → b && false ≡ false
      and_no true = refl
      and_no false = refl

-- ---- the eight arguments

-- a place of an order of four stands at itself
place-again : (k : ℕ) → k ≤ 4 → position 1 k plain_axes ≡ k
place-again k h = eqb-true (position 1 k plain_axes) k (unfold below position in below_at 5 (λ k. eqb (position 1 k plain_axes) k) refl k (omega arith))

signed-again : (x : ℤ) → signed (minus x) (size x) ≡ x
unfolding signed minus
signed-again (pos n) = refl
signed-again (negsuc n) = refl

-- a code is that of the angles that it goes from and to
code_of : ℕ → ℕ
code_of k = cond (eqb (k / 3) (k % 3)) 0 (3 * (k / 3) + k % 3)

codes : below 8 (λ k. so (is_code (pos k)) (eqb (code_of k) k)) ≡ true
unfolding below so is_code minus code_of
codes = refl

pub code-small : (k : ℕ) → is_code (pos k) ≡ true → k < 8
unfolding is_code
code-small k h = omega (arith, leb-true k 7 (and_left (leb k 7) _ (and_right (not (minus (pos k))) _ h)))

pub code-again : (k : ℕ) → is_code (pos k) ≡ true → cond (eqb (k / 3) (k % 3)) 0 (3 * (k / 3) + k % 3) ≡ k
unfolding code_of
code-again k h = eqb-true (code_of k) k (so-at (is_code (pos k)) (eqb (code_of k) k) (below_at 8 (λ k. so (is_code (pos k)) (eqb (code_of k) k)) codes k (code-small k h)) h)

pub code-pos : (x : ℤ) → is_code x ≡ true → x ≡ pos (size x)
unfolding is_code minus
code-pos (pos n) h = refl
code-pos (negsuc n) h = absurd (false≢true h)

-- the arguments of `adapt`, by their parts
pub record Adapts (l : List ℤ) : Type 0 where
  pub a : ℤ
  pub b : ℤ
  pub c : ℤ
  pub d : ℤ
  pub code : ℕ
  pub are : l ≡ a ∷ b ∷ c ∷ d ∷ pos code ∷ pos code ∷ pos 0 ∷ pos 0 ∷ []
  pub ordered : is_order (a ∷ b ∷ c ∷ d ∷ []) ≡ true
  pub coded : is_code (pos code) ≡ true

eight : (a b c d e f g h : ℤ) → is_adapt (a ∷ b ∷ c ∷ d ∷ e ∷ f ∷ g ∷ h ∷ []) ≡ true → Adapts (a ∷ b ∷ c ∷ d ∷ e ∷ f ∷ g ∷ h ∷ [])
unfolding is_adapt arg all_of
eight a b c d e f g h k =
    let o = and_left (is_order (a ∷ b ∷ c ∷ d ∷ [])) _ k in
    let k1 = and_right (is_order (a ∷ b ∷ c ∷ d ∷ [])) _ k in
    let codes4 = and_left (is_code e && (is_code f && (is_code g && (is_code h && true)))) _ k1 in
    let k2 = and_right (is_code e && (is_code f && (is_code g && (is_code h && true)))) _ k1 in
    let ce = and_left (is_code e) _ codes4 in
    let c1 = and_right (is_code e) _ codes4 in
    let cf = and_left (is_code f) _ c1 in
    let c2 = and_right (is_code f) _ c1 in
    let cg = and_left (is_code g) _ c2 in
    let ch = and_left (is_code h) _ (and_right (is_code g) _ c2) in
    let ff : f ≡ pos (size e) = code-pos f cf ∙ ap pos (eqb-true (size f) (size e) (and_left (eqb (size f) (size e)) _ k2)) in
    let k3 = and_right (eqb (size f) (size e)) _ k2 in
    let gg : g ≡ pos 0 = code-pos g cg ∙ ap pos (eqb-true (size g) 0 (and_left (eqb (size g) 0) _ k3)) in
    let hh : h ≡ pos 0 = code-pos h ch ∙ ap pos (eqb-true (size h) 0 (and_right (eqb (size g) 0) _ k3)) in
    let ee : e ≡ pos (size e) = code-pos e ce in
    record {
      a = a;
      b = b;
      c = c;
      d = d;
      code = size e;
      are = ap (λ (t : List ℤ). a ∷ b ∷ c ∷ d ∷ t) (cc);
      ordered = o;
      coded = rw ee at ce;
    }

pub adapts : (l : List ℤ) → is_adapt l ≡ true → Adapts l
adapts [] h = absurd (false≢true (unfold is_adapt in h))
adapts (a ∷ []) h = absurd (false≢true (unfold is_adapt in h))
adapts (a ∷ b ∷ []) h = absurd (false≢true (unfold is_adapt in h))
adapts (a ∷ b ∷ c ∷ []) h = absurd (false≢true (unfold is_adapt in h))
adapts (a ∷ b ∷ c ∷ d ∷ []) h = absurd (false≢true (unfold is_adapt in h))
adapts (a ∷ b ∷ c ∷ d ∷ e ∷ []) h = absurd (false≢true (unfold is_adapt in h))
adapts (a ∷ b ∷ c ∷ d ∷ e ∷ f ∷ []) h = absurd (false≢true (unfold is_adapt in h))
adapts (a ∷ b ∷ c ∷ d ∷ e ∷ f ∷ g ∷ []) h = absurd (false≢true (unfold is_adapt in h))
adapts (a ∷ b ∷ c ∷ d ∷ e ∷ f ∷ g ∷ k ∷ []) h = eight a b c d e f g k h
adapts (a ∷ b ∷ c ∷ d ∷ e ∷ f ∷ g ∷ k ∷ m ∷ l) h = absurd (none (length l) (eqb-true _ 8 (unfold is_adapt in and_left (eqb (length (a ∷ b ∷ c ∷ d ∷ e ∷ f ∷ g ∷ k ∷ m ∷ l)) 8) _ h)))
  where
    none : (n : ℕ) → suc (suc (suc (suc (suc (suc (suc (suc (suc n)))))))) ≡ 8 → ⊥
    none n e = omega arith

xor-false : (b : Bool) → xor false b ≡ b
unfolding xor
xor-false true = refl
xor-false false = refl

module _ {l : List ℤ} (p : Adapts l) where
  abbrev pub outputs : List ℤ
  outputs = p.a ∷ p.b ∷ p.c ∷ p.d ∷ []

  abbrev from_read : Word
  from_read = record { axes = plain_axes; angle = p.code / 3 }

  abbrev to_read : Word
  to_read = record { axes = outputs; angle = p.code % 3 }

  -- the outputs of the axes in their order are the letters' own
  output-again : (x : ℤ) → size x ≤ 4 → signed (xor false (minus x)) (position 1 (size x) plain_axes) ≡ x
  output-again x h = rw (place-again (size x) h, xor-false (minus x)) (signed-again x)

  combined-again : combined from_read to_read ≡ l
  unfolding combined output_of angles arg minus
  combined-again =
      let z = order-sized p.a p.b p.c p.d p.ordered in
      rw (output-again p.a z.0.most, output-again p.b z.1.most, output-again p.c z.2.most, output-again p.d z.3.most, code-again p.code p.coded) (sym p.are)

  between-again : between combined (word (from_word p.code)) (word (to_word p.code outputs)) ≡ Some l
  unfolding between
  between-again =
      rw (
        from-read p.code ((div-lt_iff_lt-mul {k = 3} {x = p.code} {y = 3} (lit≤ tt)).1 (omega (arith, code-small p.code p.coded))),
        to-read p.a p.b p.c p.d p.ordered p.code (mod-lt p.code (lit≤ tt)),
      )
      (ap Some combined-again)

-- ---- the bytes of the words

ending-firm : (k : ℕ) → all_of firm (ending_of k) ≡ true
unfolding ending_of all_of firm known any_of ascii
ending-firm zero = refl
ending-firm (suc zero) = refl
ending-firm (suc (suc k)) = refl

ending-short : (k : ℕ) → length (ending_of k) ≤ 4
unfolding ending_of ascii
ending-short zero = lit≤ tt
ending-short (suc zero) = lit≤ tt
ending-short (suc (suc k)) = lit≤ tt

from-firm : (code : ℕ) → Firmly (from_word code)
unfolding from_word ascii
from-firm code =
    record { firmly = unfold all_of in (unfold firm known any_of ascii in ending-firm (code / 3)); not-empty = omega arith }

from-short : (code : ℕ) → length (from_word code) ≤ 8
unfolding from_word ascii
from-short code = omega (arith, ending-short (code / 3))

module _ (code : ℕ) (a b c d : ℤ) (o : is_order (a ∷ b ∷ c ∷ d ∷ []) ≡ true) where
  firm-letter : (x : ℤ) → Sized x → firm (letter x) ≡ true
  firm-letter x h = letters-so firm (unfold all_of firm known any_of ascii in refl) x h

  pub to-firm : Firmly (to_word code (a ∷ b ∷ c ∷ d ∷ []))
  unfolding to_word
  to-firm =
      let z = order-sized a b c d o in
      record {
        firmly = unfold all_of in rw (firm-letter a z.0, firm-letter b z.1, firm-letter c z.2, firm-letter d z.3) (ending-firm (code % 3));
        not-empty = omega arith;
      }

  pub to-short : length (to_word code (a ∷ b ∷ c ∷ d ∷ [])) ≤ 8
  unfolding to_word
  to-short = omega (arith, ending-short (code % 3))

-- ---- both words

pub spelt : (l : List ℤ) → is_adapt l ≡ true → Spelt mode-is.Crate l
unfolding arg_words arg adapt_in combined_in
spelt l h =
    let p = adapts l h in
    record {
      from = from_word p.code;
      to = to_word p.code (outputs p);
      are = ap (arg_words Adapt) p.are;
      from-firm = from-firm p.code;
      from-short = from-short p.code;
      to-firm = to-firm p.code p.a p.b p.c p.d p.ordered;
      to-short = to-short p.code p.a p.b p.c p.d p.ordered;
      again = between-again p;
    }
