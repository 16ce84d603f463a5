-- Digits: the invariant of the loop that reads them, and its laws; digits after a point in millionths.
use mathlib.Core.Path.{◌≡◌, refl, sym, ap, ◌∙◌}
use Rattle.std.specs.Char.{is_ascii_digit}
use mathlib.Core.Bool.{Bool, true, false, and-false}
use Prim.Native.Nat.{ℕ, ◌+◌, ◌-◌, ◌*◌, ◌^◌, ◌≤◌, ◌<◌}
use native.Mathlib.Nat.{pow-suc, pow-le-pow_right, mul-lt-mul_of_pos_right}
use native.Mathlib.Numerals.{add-one}
use native.Mathlib.Omega.{arith}
use borrow.Author.Tests.{le-leb, lt-leb, leb-true}
use lib.ListN.{length, drop, get_or, drop_of_length-le}
use lib.Dec.{leb}
use lib.Pow.{pow-add}
use Rattle.rules.specs.Text.Lists.{all_of}
use Rattle.rules.specs.Text.Bytes.{Bytes}
use Rattle.rules.specs.Text.Decimal.{digit, digits_to, spelled}
use Rattle.laws_lists.specs.Tests.{and_left, and_right}
use Rattle.text.proofs.RunEnd.{drop-next}
use Rattle.std.specs.Prelude.{Some, None}
use Rattle.prepare.specs.SeriesRead.{spelled_to}

-- ---- too few or too many

pub none-spelled : (most : ℕ) (t : Bytes) → length t < 1 → None ≡ spelled_to most t
unfolding spelled_to digits_to
none-spelled most t h = sym (rw (lt-leb 1 (length t) h))

pub many-spelled : (most : ℕ) (t : Bytes) → most < length t → None ≡ spelled_to most t
unfolding spelled_to digits_to
many-spelled most t l = sym (rw (lt-leb (length t) most l, and-false (leb 1 (length t))))

-- ---- the loop

-- the first i bytes are digits, and spell n
pub record Spells (most : ℕ) (t : Bytes) (n i : ℕ) : Type 0 where
  pub within : i ≤ length t
  pub some : 1 ≤ length t
  pub few : length t ≤ most
  pub most-nine : most ≤ 9
  pub small : n < 10 ^ i
  pub number : spelled 0 t ≡ spelled n (drop i t)
  pub digits : all_of digit t ≡ all_of digit (drop i t)

pub spells-none : (most : ℕ) (t : Bytes) → 1 ≤ length t → length t ≤ most → most ≤ 9 → Spells most t 0 0
spells-none most t h l k = record { within = omega arith; some = h; few = l; most-nine = k; small = omega arith; number = refl; digits = refl }

-- the library's test of a digit
pub ascii-digit : (b : ℕ) {r : Bool} → r ≡ is_ascii_digit b → digit b ≡ r
unfolding digit
ascii-digit b e = sym e

-- a digit is from 48 to 57
pub digit_low : (b : ℕ) → digit b ≡ true → 48 ≤ b
unfolding digit
digit_low b e = leb-true 48 b (and_left (leb 48 b) (leb b 57) e)

pub digit-high : (b : ℕ) → digit b ≡ true → b ≤ 57
unfolding digit
digit-high b e = leb-true b 57 (and_right (leb 48 b) (leb b 57) e)

module _ {most : ℕ} {t : Bytes} {n i : ℕ} (m : Spells most t n i) where
  -- what is spelled on the way is below a tenth of 10 ^ 9
  pub spells-small : i < length t → n < 100000000
  spells-small h =
      let p : 10 ^ i ≤ 10 ^ 8 = pow-le-pow_right {n = 10} (omega arith) {i = i} {j = 8} (omega (arith, m.few, m.most-nine)) in
      omega (arith, p, m.small)

  pub spells-not : i < length t → digit (get_or t i 0) ≡ false → None ≡ spelled_to most t
  unfolding spelled_to digits_to all_of
  spells-not h e =
      let d : all_of digit t ≡ false = m.digits ∙ ap (all_of digit) (drop-next t i h) ∙ rw e in
      sym (rw (le-leb 1 (length t) m.some, le-leb (length t) most m.few, d))

  pub spells-more : i < length t → digit (get_or t i 0) ≡ true → Spells most t (n * 10 + (get_or t i 0 - 48)) (i + 1)
  unfolding all_of spelled
  spells-more h e =
      let d = digit-high (get_or t i 0) e in
      let p : 10 ^ (i + 1) ≡ 10 ^ i * 10 = rw (add-one i) (pow-suc 10 i) in
      record {
        within = omega arith;
        some = m.some;
        few = m.few;
        most-nine = m.most-nine;
        small = omega (arith, p, m.small, d);
        number = m.number ∙ ap (spelled n) (drop-next t i h);
        digits = m.digits ∙ ap (all_of digit) (drop-next t i h) ∙ rw e;
      }

  pub spells-all : length t ≤ i → Some n ≡ spelled_to most t
  unfolding spelled_to digits_to all_of spelled
  spells-all h =
      let d : all_of digit t ≡ true = m.digits ∙ ap (all_of digit) (drop_of_length-le t h) in
      let v : spelled 0 t ≡ n = m.number ∙ ap (spelled n) (drop_of_length-le t h) in
      sym (rw (le-leb 1 (length t) m.some, le-leb (length t) most m.few, d, v))

-- ---- millionths

pub millionths-small : (v k : ℕ) → k ≤ 6 → v < 10 ^ k → v * 10 ^ (6 - k) < 1000000
millionths-small v k f h =
    let six : k + (6 - k) ≡ 6 = omega arith in
    let e : 10 ^ k * 10 ^ (6 - k) ≡ 10 ^ 6 = sym (pow-add 10 k (6 - k)) ∙ ap (λ (j : ℕ). 10 ^ j) six in
    let p : 10 ^ 0 ≤ 10 ^ (6 - k) = pow-le-pow_right {n = 10} (omega arith) {i = 0} {j = 6 - k} (omega arith) in
    rw e at (mul-lt-mul_of_pos_right {m = v} {n = 10 ^ k} {k = 10 ^ (6 - k)} h p)
