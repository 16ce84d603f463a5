-- Numbers with their signs, and lists of them, as they are written: where the text has room its parts have room, and the parts together are
-- the text.
use mathlib.Core.Path.{◌≡◌, refl, sym, ap}
use mathlib.Core.Bool.{Bool, true, false}
use mathlib.Core.List.{List, [], ◌∷◌, ◌++◌, map}
use Prim.Native.Nat.{ℕ, zero, suc, ◌≤◌, ◌<◌}
use native.Mathlib.Omega.{arith}
use borrow.Author.Tests.{lt-ltb, le-ltb}
use lib.ListN.{length, take, get_or}
use lib.Dec.{ltb}
use lib.IntN.{ℤ}
use Rattle.rules.specs.Text.Ascii.{ascii}
use Rattle.rules.specs.Text.Lists.{all_of}
use Rattle.rules.specs.Text.Bytes.{Bytes, after_each, joined_by}
use Rattle.rules.specs.Text.Decimal.{minus}
use Rattle.rules.specs.Operators.Arguments.{size, spelling, listing}
use Rattle.text.specs.Wrote.{Wrote, WroteAt}
use Rattle.rules.specs.Text.Numerals.{digits}
use Rattle.laws_lists.specs.Tests.{and_left, and_right}
use Rattle.numbers.specs.Parts.{Room, rest, numbered}
use Rattle.numbers.proofs.InTurn.{room_as, as_written, first-room, then-room, both-written}

-- what `put` leaves
pub put_written : {t dst last : Bytes} {at r : ℕ} → Wrote (take at dst ++ t) dst r last → WroteAt t dst at r last
put_written w = record { wrote = w }

pub all-at : {A : Type 0} (test : A → Bool) (l : List A) (i : ℕ) (d : A) → i < length l → all_of test l ≡ true → test (get_or l i d) ≡ true
unfolding all_of
all-at test [] i d h a = absurd (none h)
  where
    none : {n : ℕ} → n < 0 → ⊥
    none h = omega arith
all-at test (x ∷ l) zero d h a = and_left (test x) (all_of test l) a
all-at test (x ∷ l) (suc i) d h a = all-at test l i d (omega arith) (and_right (test x) (all_of test l) a)

-- ---- a number

module _ (x : ℤ) {m : ℕ} (e : m ≡ size x) {dst : Bytes} {at : ℕ} (h : Room (spelling x) at dst) where
  module _ (s : minus x ≡ true) where
    signed_is : spelling x ≡ (45 ∷ []) ++ digits m
    unfolding spelling ascii
    signed_is = rw (s, e)

    pub sign-room : Room (45 ∷ []) at dst
    sign-room = first-room (45 ∷ []) (digits m) (room_as (sym signed_is) h)

    module _ {r : ℕ} {last : Bytes} (w : WroteAt (45 ∷ []) dst at r last) where
      pub after-sign : Room (digits m) r last
      after-sign = then-room (45 ∷ []) (digits m) (room_as (sym signed_is) h) w

      pub signed-written : {r' : ℕ} {last' : Bytes} → WroteAt (digits m) last r r' last' → WroteAt (spelling x) dst at r' last'
      signed-written v = as_written signed_is (both-written (45 ∷ []) (digits m) (room_as (sym signed_is) h) w v)

  module _ (s : minus x ≡ false) where
    plain-is : spelling x ≡ digits m
    unfolding spelling
    plain-is = rw (s, e)

    pub plain-room : Room (digits m) at dst
    plain-room = room_as (sym plain-is) h

    pub plain-written : {r : ℕ} {last : Bytes} → WroteAt (digits m) dst at r last → WroteAt (spelling x) dst at r last
    plain-written w = as_written plain-is w

-- ---- after a comma

module _ (x : ℤ) {i : ℕ} {dst : Bytes} {at : ℕ} (h : Room (numbered (ltb 0 i) x) at dst) where
  module _ (l : 0 < i) where
    later-is : numbered (ltb 0 i) x ≡ (44 ∷ []) ++ spelling x
    unfolding numbered
    later-is = rw (lt-ltb 0 i l)

    pub comma-room : Room (44 ∷ []) at dst
    comma-room = first-room (44 ∷ []) (spelling x) (room_as (sym later-is) h)

    module _ {r : ℕ} {last : Bytes} (w : WroteAt (44 ∷ []) dst at r last) where
      pub after-comma : Room (spelling x) r last
      after-comma = then-room (44 ∷ []) (spelling x) (room_as (sym later-is) h) w

      pub later-written : {r' : ℕ} {last' : Bytes} → WroteAt (spelling x) last r r' last' → WroteAt (numbered (ltb 0 i) x) dst at r' last'
      later-written v = as_written later-is (both-written (44 ∷ []) (spelling x) (room_as (sym later-is) h) w v)

  module _ (l : i ≤ 0) where
    first-is : numbered (ltb 0 i) x ≡ spelling x
    unfolding numbered
    first-is = rw (le-ltb 0 i l)

    pub first-spelled : Room (spelling x) at dst
    first-spelled = room_as (sym first-is) h

    pub first-written : {r : ℕ} {last : Bytes} → WroteAt (spelling x) dst at r last → WroteAt (numbered (ltb 0 i) x) dst at r last
    first-written w = as_written first-is w

-- the numbers with a comma between
after-rest : (l : List ℤ) → after_each (44 ∷ []) (map spelling l) ≡ rest numbered true l
unfolding after_each rest numbered
after-rest [] = refl
after-rest (x ∷ l) = ap (λ (t : Bytes). 44 ∷ (spelling x ++ t)) (after-rest l)

pub listing-rest : (l : List ℤ) → listing l ≡ rest numbered false l
unfolding listing joined_by rest numbered ascii
listing-rest [] = refl
listing-rest (x ∷ l) = ap (λ (t : Bytes). spelling x ++ t) (after-rest l)
