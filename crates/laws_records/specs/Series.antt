-- Every number of a series that is read has nine digits at most, and there is one for each piece.
use Rattle.std.specs.Prelude.{◌≡◌, refl, ℕ, zero, suc, ◌+◌, ◌-◌, ◌*◌, ◌^◌, ◌≤◌, Bool, true, false, cond, ◌&&◌, List, [], ◌∷◌, map, length, leb, Option, None, Some}
use Rattle.std.proofs.Common.{ap, le_refl, le_trans, arith, leb-true, le-leb}
use Rattle.rules.specs.Text.Ascii.{is}
use Rattle.rules.specs.Text.Lists.{all_of}
use Rattle.rules.specs.Text.Bytes.{Bytes, before, behind}
use Rattle.rules.specs.Text.Decimal.{digit, digits_to, spelled, plain_form, plain, decimal, pieces, number_then, all_numbers, series, signed, whole_of}
use Rattle.rules.specs.Operators.Arguments.{size}
use Rattle.rules.specs.Pipeline.Record.{nine_digits}
use Rattle.rules.specs.declared.Decimal.{Decimal}
use Rattle.laws_lists.specs.Tests.{and_left, and_right, never}

-- ---- digits

-- the greatest number that k digits more can spell
most : ℕ → ℕ → ℕ
most n zero = n
most n (suc k) = most (n * 10 + 9) k

most-more : (n k : ℕ) → n ≤ most n k
unfolding most
most-more n zero = le_refl n
most-more n (suc k) = omega (arith, most-more (n * 10 + 9) k)

spelled-most : (n m k : ℕ) (t : Bytes) → n ≤ m → length t ≤ k → all_of digit t ≡ true → spelled n t ≤ most m k
unfolding spelled most all_of digit
spelled-most n m k [] h l d = le_trans h (most-more m k)
spelled-most n m zero (b ∷ t) h l d = absurd (None l)
  where
    None : {i : ℕ} → suc i ≤ 0 → ⊥
    None h = omega arith
spelled-most n m (suc k) (b ∷ t) h l d =
    let g = leb-true b 57 (and_right (leb 48 b) (leb b 57) (and_left (digit b) (all_of digit t) d)) in
    spelled-most (n * 10 + (b - 48)) (m * 10 + 9) k t (omega arith) (omega arith) (and_right (digit b) (all_of digit t) d)

nine : (t : Bytes) → digits_to 9 t ≡ true → spelled 0 t ≤ 999999999
unfolding digits_to most
nine t h =
    let r = and_right (leb 1 (length t)) (leb (length t) 9 && all_of digit t) h in
    spelled-most 0 0 9 t (le_refl 0) (leb-true (length t) 9 (and_left (leb (length t) 9) (all_of digit t) r)) (and_right (leb (length t) 9) (all_of digit t) r)

-- ---- numbers

-- a whole number has the size that it is made with, zero too
pub size-signed : (b : Bool) (n : ℕ) → size (signed b n) ≡ n
unfolding signed
size-signed false n = refl
size-signed true zero = refl
size-signed true (suc n) = refl

form-digits : (t : Bytes) → plain_form t ≡ true → digits_to 9 (before (is ".") t) ≡ true
unfolding plain_form
form-digits t h = and_left (digits_to 9 (before (is ".") t)) _ h

plain-nine : (minus : Bool) (t : Bytes) (d : Decimal) → plain minus t ≡ Some d → nine_digits (whole_of d) ≡ true
unfolding plain nine_digits whole_of
plain-nine minus t d h = go (plain_form t) refl h
  where
    v : Decimal
    v = record { minus = minus; whole = spelled 0 (before (is ".") t); millionths = spelled 0 (behind (is ".") t) * 10 ^ (6 - length (behind (is ".") t)) }

    go : (b : Bool) → plain_form t ≡ b → cond b (Some v) None ≡ Some d → leb (size (signed d.minus d.whole)) 999999999 ≡ true
    go true e h = let same : v ≡ d = cc h in rw (← same, size-signed minus v.whole) (le-leb v.whole 999999999 (nine (before (is ".") t) (form-digits t e)))
    go false e h = absurd (never (cc h))

pub decimal-nine : (p : Bytes) (d : Decimal) → decimal p ≡ Some d → nine_digits (whole_of d) ≡ true
unfolding decimal
decimal-nine [] d h = absurd (never (cc h))
decimal-nine (b ∷ t) d h = go (is "-" b) h
  where
    go : (c : Bool) → cond c (plain true t) (plain false (b ∷ t)) ≡ Some d → nine_digits (whole_of d) ≡ true
    go true h = plain-nine true t d h
    go false h = plain-nine false (b ∷ t) d h

-- ---- the series

-- what a series of n pieces has that is read
pub record Read (n : ℕ) (ds : List Decimal) : Type 0 where
  pub nines : all_of nine_digits (map whole_of ds) ≡ true
  pub many : length ds ≡ n

all_read : (ps : List Bytes) (ds : List Decimal) → all_numbers ps ≡ Some ds → Read (length ps) ds
unfolding all_numbers number_then all_of
all_read [] ds h = let e : [] ≡ ds = cc h in rw (← e) (record { nines = refl; many = refl })
all_read (p ∷ ps) ds h = go (decimal p) (all_numbers ps) refl (all_read ps) h
  where
    go : (x : Option Decimal) (r : Option (List Decimal)) → decimal p ≡ x → ((es : List Decimal) → r ≡ Some es → Read (length ps) es) → number_then x r ≡ Some ds → Read (suc (length ps)) ds
    go None r e ih h = absurd (never (cc h))
    go (Some d) None e ih h = absurd (never (cc h))
    go (Some d) (Some es) e ih h =
        let k = ih es refl in
        let same : d ∷ es ≡ ds = cc h in
        rw (← same) (record { nines = rw (decimal-nine p d e) k.nines; many = ap suc k.many })

pub series-read : (v : Bytes) (ds : List Decimal) → series v ≡ Some ds → Read (length (pieces v)) ds
unfolding series
series-read v ds h = all_read (pieces v) ds h
