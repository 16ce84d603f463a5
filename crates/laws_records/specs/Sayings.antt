-- Words that can be read: a key with a value, a list of numbers; and how long words get.
use Rattle.std.specs.Prelude.{◌≡◌, ℕ, suc, ◌+◌, ◌*◌, ◌≤◌, Bool, true, false, not, length, leb, ℤ, pos, negsuc}
use Rattle.std.proofs.Math.Path.{refl}
use Prim.Native.String.{String}
use mathlib.Core.List.{List, [], ◌∷◌, ◌++◌, map, append-nil}
use Rattle.std.proofs.Common.{mul-suc, arith, leb-true, length-append, lit≤}
use Rattle.rules.specs.Text.Ascii.{ascii, is}
use Rattle.rules.specs.Text.Lists.{any_of, all_of}
use Rattle.rules.specs.Text.Bytes.{Bytes, Words, white, after_each, joined_by}
use Rattle.rules.specs.Text.Decimal.{minus}
use Rattle.rules.specs.Operators.Arguments.{size, spelling, listing, key_value}
use Rattle.rules.specs.Pipeline.Record.{nine_digits}
use Rattle.laws_lists.specs.Tests.{and_left, and_right, below}
use Rattle.laws_text.specs.Numerals.{digits-one}
use Rattle.laws_records.specs.Calm.{known, firm, middle, follows, so, quiet, calm, gap, joined-calm, both}
use Rattle.laws_records.specs.Settled.{lacks}
use Rattle.laws_records.specs.Worded.{worded, worded-calm, worded-dark, worded-bare, lacks-append, lacks-joined}
use Rattle.laws_records.specs.Numbers.{Firmly, firm-calm, firm-lacks, spelling-lacks, listing-calm, nine-few}

-- ---- words

worded-by : (w : Bytes) → calm w ≡ true → lacks white w ≡ true → lacks (is "|") w ≡ true → worded w ≡ true
unfolding worded
worded-by w a b c = both (calm w) _ a (both (lacks white w) (lacks (is "|") w) b c)

pub firm-worded : (w : Bytes) → Firmly w → worded w ≡ true
firm-worded w h =
    worded-by w (firm-calm w h) (firm-lacks white (unfold below so firm known white any_of ascii in refl) w h.firmly)
    (firm-lacks (is "|") (unfold below so firm known any_of ascii in refl) w h.firmly)

module _ (key : String) (v : Bytes) where
  pair-calm : calm (ascii key) ≡ true → calm v ≡ true → calm (key_value key v) ≡ true
  unfolding key_value after_each all_of
  pair-calm h k =
      rw append-nil at (joined-calm (61 ∷ []) (unfold gap below so firm known follows middle quiet any_of ascii in refl) (ascii key) (v ∷ []) h (rw k))

  pub pair-lacks : (test : ℕ → Bool) → test 61 ≡ false → lacks test (ascii key) ≡ true → lacks test v ≡ true → lacks test (key_value key v) ≡ true
  unfolding key_value
  pair-lacks test t a b = lacks-append test (ascii key) (61 ∷ v) a (unfold lacks any_of in rw t b)

  pub pair-worded : worded (ascii key) ≡ true → worded v ≡ true → worded (key_value key v) ≡ true
  pair-worded h k =
      worded-by (key_value key v) (pair-calm (worded-calm (ascii key) h) (worded-calm v k))
      (pair-lacks white (unfold white in refl) (worded-dark (ascii key) h) (worded-dark v k)) (pair-lacks (is "|") refl (worded-bare (ascii key) h) (worded-bare v k))

-- a list of numbers
module _ (x : ℤ) (l : List ℤ) (h : all_of nine_digits (x ∷ l) ≡ true) where
  pub listing-lacks : (test : ℕ → Bool) → below 127 (λ b. so (firm b) (not (test b))) ≡ true → test 44 ≡ false → lacks test (listing (x ∷ l)) ≡ true
  unfolding listing
  listing-lacks test f t = lacks-joined test (ascii ",") (map spelling (x ∷ l)) (unfold lacks any_of ascii in rw t) (spelling-lacks test f (x ∷ l) h)

  pub listing-worded : worded (listing (x ∷ l)) ≡ true
  listing-worded =
      worded-by (listing (x ∷ l)) (listing-calm x l h) (listing-lacks white (unfold below so firm known white any_of ascii in refl) (unfold white in refl))
      (listing-lacks (is "|") (unfold below so firm known any_of ascii in refl) refl)

-- ---- how long they are

-- the bytes of words, with one more for each
unfoldable pub total : Words → ℕ
total [] = 0
total (w ∷ ws) = suc (length w) + total ws

pub total-append : (a b : Words) → total (a ++ b) ≡ total a + total b
unfolding total
total-append [] b = omega arith
total-append (w ∷ a) b = omega (arith, total-append a b)

after-total : (c : ℕ) (ws : Words) → length (after_each (c ∷ []) ws) ≡ total ws
unfolding after_each total
after-total c [] = refl
after-total c (w ∷ ws) = omega (arith, length-append w (after_each (c ∷ []) ws), after-total c ws)

pub joined-total : (c : ℕ) (w : Bytes) (ws : Words) → suc (length (joined_by (c ∷ []) (w ∷ ws))) ≡ total (w ∷ ws)
unfolding joined_by total
joined-total c w ws = omega (arith, length-append w (after_each (c ∷ []) ws), after-total c ws)

-- numbers of at most so many bytes
pub each-total : (most : ℕ) (test : ℤ → Bool) → ((x : ℤ) → test x ≡ true → length (spelling x) ≤ most) → (l : List ℤ) → all_of test l ≡ true → total (map spelling l) ≤ suc most * length l
unfolding all_of total
each-total most test f [] h = omega arith
each-total most test f (x ∷ l) h =
    let a = f x (and_left (test x) (all_of test l) h) in
    let b = each-total most test f l (and_right (test x) (all_of test l) h) in
    more most (length (spelling x)) (total (map spelling l)) (length l) a b
  where
    more : (most n t k : ℕ) → n ≤ most → t ≤ suc most * k → suc n + t ≤ suc most * suc k
    more most n t k a b = rw (mul-suc (suc most) k) (omega arith)

pub spelling-long : (x : ℤ) → nine_digits x ≡ true → length (spelling x) ≤ 10
unfolding spelling minus nine_digits ascii
spelling-long (pos n) h = omega (arith, nine-few n (leb-true n 999999999 h))
spelling-long (negsuc n) h = omega (arith, nine-few (suc n) (leb-true (suc n) 999999999 h))

-- one digit
pub spelling-short : (x : ℤ) → leb (size x) 4 ≡ true → length (spelling x) ≤ 2
unfolding spelling minus ascii
spelling-short (pos n) h = let l = leb-true n 4 h in rw (digits-one n (omega arith)) (lit≤ tt)
spelling-short (negsuc n) h = let l = leb-true (suc n) 4 h in rw (digits-one (suc n) (omega arith)) (lit≤ tt)
