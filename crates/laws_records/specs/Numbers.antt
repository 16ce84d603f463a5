-- The digits of a number are read as that number, and a list of numbers as that list.
use Rattle.std.specs.Prelude.{◌≡◌, ℕ, zero, suc, ◌+◌, ◌-◌, ◌*◌, ◌/◌, ◌%◌, ◌^◌, ◌≤◌, ◌<◌, Bool, false, ◌&&◌, List, [], ◌∷◌, ◌++◌, map, length, leb, ltb, eqb, ℤ, pos, negsuc, Some}
use Rattle.std.proofs.Math.Path.{refl}
use Rattle.std.proofs.Common.{◌∙◌, div-add-mod', mod-lt, lit≤}
use Rattle.std.proofs.Math.Bool.{true, not}
use Rattle.std.proofs.Math.Nat.{le_refl}
use native.Mathlib.Omega.{arith}
use borrow.Author.Tests.{leb-true, le-leb, ltb-true, ltb-false, not-true}
use Rattle.std.proofs.Math.ListN.{length-append}
use Rattle.rules.specs.Text.Ascii.{ascii, is}
use Rattle.rules.specs.Text.Lists.{any_of, all_of}
use Rattle.rules.specs.Text.Bytes.{Bytes, joined_by}
use Rattle.rules.specs.Text.Decimal.{digit, digits_to, spelled, plain_form, plain, decimal, pieces, number_then, all_numbers, series, is_whole, signed, minus, whole_of}
use Rattle.rules.specs.Operators.Arguments.{size, wholes, spelling, listing}
use Rattle.rules.specs.Pipeline.Record.{nine_digits}
use Rattle.rules.specs.declared.Decimal.{Decimal}
use Rattle.rules.specs.Text.Numerals.{digits}
use Rattle.laws_lists.specs.Lists.{all_so, all_append}
use Rattle.laws_lists.specs.Tests.{and_left, and_right, below, below_at}
use Rattle.laws_text.specs.Numerals.{tenth-less, digits-one, digits_more, digits-length}
use Rattle.laws_records.specs.Calm.{known, firm, middle, follows, so, so-at, firm-so, firm-follows, end_of, quiet, calm, gap, joined-calm}
use Rattle.laws_records.specs.Settled.{before-none, behind-none, lacks, cut-joined}

-- ---- digits

-- a text of digits that spells the number
pub record Spells (n : ℕ) (t : Bytes) : Type 0 where
  pub ones : all_of digit t ≡ true
  pub some_of : 1 ≤ length t
  pub spells : spelled 0 t ≡ n

small-digit : (n : ℕ) → n < 10 → digit (48 + n) ≡ true
unfolding digit
small-digit n h = rw (le-leb 48 (48 + n) (omega arith), le-leb (48 + n) 57 (omega arith))

one-digit : (n : ℕ) → n < 10 → Spells n ((48 + n) ∷ [])
one-digit n h = record { ones = unfold all_of in rw (small-digit n h); some_of = le_refl 1; spells = unfold spelled in omega arith }

spelled-append : (n : ℕ) (t u : Bytes) → spelled n (t ++ u) ≡ spelled (spelled n t) u
unfolding spelled
spelled-append n [] u = refl
spelled-append n (b ∷ t) u = spelled-append (n * 10 + (b - 48)) t u

next-digit : (n : ℕ) (t : Bytes) → Spells (n / 10) t → Spells n (t ++ ((48 + n % 10) ∷ []))
next-digit n t h =
    record {
      ones = all_append digit t ((48 + n % 10) ∷ []) h.ones (unfold all_of in rw (small-digit (n % 10) (mod-lt n (lit≤ tt))));
      some_of = omega (arith, h.some_of, length-append t ((48 + n % 10) ∷ []));
      spells = spelled-append 0 t ((48 + n % 10) ∷ []) ∙ (unfold spelled in rw h.spells (last (n / 10) (n % 10) n (div-add-mod' n 10)));
    }
  where
    last : (q r n : ℕ) → q * 10 + r ≡ n → q * 10 + (48 + r - 48) ≡ n
    last q r n e = omega arith

-- the law of digits: those of n spell n
pub digits-spell : (k n : ℕ) → n < 10 ^ suc k → Spells n (digits n)
digits-spell zero n h = rw (digits-one n h) (one-digit n h)
digits-spell (suc k) n h = go (ltb n 10) refl (digits-spell k (n / 10) (tenth-less n k h))
  where
    go : (b : Bool) → ltb n 10 ≡ b → Spells (n / 10) (digits (n / 10)) → Spells n (digits n)
    go true e r = let l = ltb-true n 10 e in rw (digits-one n l) (one-digit n l)
    go false e r = rw (digits_more n (ltb-false n 10 e)) (next-digit n (digits (n / 10)) r)

nine-spell : (n : ℕ) → n ≤ 999999999 → Spells n (digits n)
nine-spell n h = digits-spell 8 n (omega arith)

pub nine-few : (n : ℕ) → n ≤ 999999999 → length (digits n) ≤ 9
nine-few n h = digits-length 8 n (omega arith)

-- what is so of every digit is computed
digit-so : (q : ℕ → Bool) → below 58 (λ b. so (digit b) (q b)) ≡ true → (b : ℕ) → digit b ≡ true → q b ≡ true
unfolding digit
digit-so q h b d =
    so-at (digit b) (q b) (below_at 58 (λ b. so (digit b) (q b)) h b (omega (arith, leb-true b 57 (and_right (leb 48 b) (leb b 57) d)))) d

-- digits have no byte that no digit is
digits-none : (test : ℕ → Bool) → below 58 (λ b. so (digit b) (not (test b))) ≡ true → (t : Bytes) → all_of digit t ≡ true → any_of test t ≡ false
unfolding any_of all_of
digits-none test h [] a = refl
digits-none test h (b ∷ t) a =
    rw (not-true (test b) (digit-so (λ b. not (test b)) h b (and_left (digit b) (all_of digit t) a))) (digits-none test h t (and_right (digit b) (all_of digit t) a))

-- ---- whole numbers

-- a whole number, as decimal form gives it
unfoldable pub whole : ℤ → Decimal
whole x = record { minus = minus x; whole = size x; millionths = 0 }

plain-digits : (m : Bool) (n : ℕ) → n ≤ 999999999 → plain m (digits n) ≡ Some (record { minus = m; whole = n; millionths = 0 })
unfolding plain plain_form digits_to spelled
plain-digits m n h =
    let t = digits n in
    let s = nine-spell n h in
    let e = digits-none (is ".") (unfold below so digit in refl) t s.ones in
    rw (before-none (is ".") t e, behind-none (is ".") t e, e, le-leb 1 (length t) s.some_of, le-leb (length t) 9 (nine-few n h), s.ones, s.spells)

unsigned : (t : Bytes) → all_of digit t ≡ true → 1 ≤ length t → decimal t ≡ plain false t
unfolding decimal all_of
unsigned [] a h = absurd (none h)
  where
    none : 1 ≤ 0 → ⊥
    none h = omega arith
unsigned (b ∷ t) a h =
    let e : eqb b 45 ≡ false = not-true (eqb b 45) (unfold below so digit in digit-so (λ b. not (eqb b 45)) refl b (and_left (digit b) (all_of digit t) a)) in
    rw e

pub decimal-spelling : (x : ℤ) → nine_digits x ≡ true → decimal (spelling x) ≡ Some (whole x)
unfolding spelling whole minus nine_digits
decimal-spelling (pos n) h =
    let l = leb-true n 999999999 h in
    let s = nine-spell n l in
    unsigned (digits n) s.ones s.some_of ∙ plain-digits false n l
decimal-spelling (negsuc n) h = unfold ascii decimal in plain-digits true (suc n) (leb-true (suc n) 999999999 h)

-- ---- lists of them

all-spelled : (l : List ℤ) → all_of nine_digits l ≡ true → all_numbers (map spelling l) ≡ Some (map whole l)
unfolding all_of all_numbers number_then
all-spelled [] h = refl
all-spelled (x ∷ l) h = rw (decimal-spelling x (and_left (nine_digits x) _ h), all-spelled l (and_right (nine_digits x) _ h))

whole_again : (x : ℤ) → whole_of (whole x) ≡ x
unfolding whole_of whole signed minus
whole_again (pos n) = refl
whole_again (negsuc n) = refl

wholes-again : (l : List ℤ) → map whole_of (map whole l) ≡ l
wholes-again [] = refl
wholes-again (x ∷ l) = rw (whole_again x, wholes-again l)

wholes-whole : (l : List ℤ) → all_of is_whole (map whole l) ≡ true
unfolding all_of is_whole whole
wholes-whole [] = refl
wholes-whole (x ∷ l) = wholes-whole l

-- the bytes of a whole number are firm
firm-digits : (t : Bytes) → all_of digit t ≡ true → all_of firm t ≡ true
firm-digits t h = all_so digit firm (λ b d. unfold below so digit firm known any_of ascii in digit-so firm refl b d) t h

pub record Firmly (t : Bytes) : Type 0 where
  pub firmly : all_of firm t ≡ true
  pub not-empty : 1 ≤ length t

spelling-firm : (x : ℤ) → nine_digits x ≡ true → Firmly (spelling x)
unfolding spelling minus nine_digits
spelling-firm (pos n) h =
    let s = nine-spell n (leb-true n 999999999 h) in
    record { firmly = firm-digits (digits n) s.ones; not-empty = s.some_of }
spelling-firm (negsuc n) h =
    let s = nine-spell (suc n) (leb-true (suc n) 999999999 h) in
    record { firmly = unfold all_of ascii firm known any_of in firm-digits (digits (suc n)) s.ones; not-empty = unfold ascii in omega arith }

firm-on : (x : ℕ) (t : Bytes) → firm x ≡ true → all_of firm t ≡ true → quiet x t && firm (end_of x t) ≡ true
unfolding all_of quiet end_of
firm-on x [] h a = h
firm-on x (y ∷ t) h a = rw (firm-follows x y (and_left (firm y) _ a)) (firm-on y t (and_left (firm y) _ a) (and_right (firm y) _ a))

pub firm-calm : (t : Bytes) → Firmly t → calm t ≡ true
unfolding calm
firm-calm [] h = absurd (none h.not-empty)
  where
    none : 1 ≤ 0 → ⊥
    none h = omega arith
firm-calm (x ∷ t) h =
    let f : firm x ≡ true = unfold all_of in and_left (firm x) _ h.firmly in
    rw f (firm-on x t f (unfold all_of in and_right (firm x) _ h.firmly))

pub firm-lacks : (test : ℕ → Bool) → below 127 (λ b. so (firm b) (not (test b))) ≡ true → (t : Bytes) → all_of firm t ≡ true → lacks test t ≡ true
unfolding lacks any_of all_of
firm-lacks test h [] a = refl
firm-lacks test h (x ∷ t) a =
    rw (not-true (test x) (firm-so (λ b. not (test b)) h x (and_left (firm x) _ a))) (firm-lacks test h t (and_right (firm x) _ a))

all-calm : (l : List ℤ) → all_of nine_digits l ≡ true → all_of calm (map spelling l) ≡ true
unfolding all_of
all-calm [] h = refl
all-calm (x ∷ l) h = rw (firm-calm (spelling x) (spelling-firm x (and_left (nine_digits x) _ h))) (all-calm l (and_right (nine_digits x) _ h))

pub spelling-lacks : (test : ℕ → Bool) → below 127 (λ b. so (firm b) (not (test b))) ≡ true → (l : List ℤ) → all_of nine_digits l ≡ true → all_of (lacks test) (map spelling l) ≡ true
unfolding all_of
spelling-lacks test f [] h = refl
spelling-lacks test f (x ∷ l) h =
    rw (firm-lacks test f (spelling x) (spelling-firm x (and_left (nine_digits x) _ h)).firmly) (spelling-lacks test f l (and_right (nine_digits x) _ h))

-- a list that is not empty
module _ (x : ℤ) (l : List ℤ) (h : all_of nine_digits (x ∷ l) ≡ true) where
  pub listing-calm : calm (listing (x ∷ l)) ≡ true
  unfolding listing joined_by
  listing-calm =
      let a = all-calm (x ∷ l) h in
      unfold ascii in
      joined-calm (44 ∷ []) (unfold gap below so firm known follows middle quiet any_of ascii in refl) (spelling x) (map spelling l)
      (unfold all_of in and_left (calm (spelling x)) _ a) (unfold all_of in and_right (calm (spelling x)) _ a)

  pub listing-pieces : pieces (listing (x ∷ l)) ≡ map spelling (x ∷ l)
  unfolding pieces listing ascii
  listing-pieces = cut-joined (is ",") 44 refl (spelling x) (map spelling l) (spelling-lacks (is ",") (unfold below so firm known any_of ascii in refl) (x ∷ l) h)

  pub listing-series : series (listing (x ∷ l)) ≡ Some (map whole (x ∷ l))
  unfolding series
  listing-series = rw listing-pieces (all-spelled (x ∷ l) h)

  -- they are read as they were, where they keep the rule
  pub listing-wholes : (rule : List ℤ → Bool) → rule (x ∷ l) ≡ true → wholes rule (series (listing (x ∷ l))) ≡ Some (x ∷ l)
  unfolding wholes
  listing-wholes rule k = rw (listing-series, wholes-whole (x ∷ l), wholes-again (x ∷ l), k)
