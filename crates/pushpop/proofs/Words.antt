-- The text of `push` and `pop`: the name, and the flag of each place.
use mathlib.Core.Path.{◌≡◌, refl, sym, ap}
use mathlib.Core.Bool.{Bool, true, not}
use mathlib.Core.List.{List, [], ◌∷◌, ◌++◌, map}
use Prim.Native.Nat.{ℕ, zero, suc, ◌+◌, ◌≤◌}
use native.Mathlib.Omega.{arith}
use borrow.Author.Tests.{leb-true}
use lib.ListN.{length, take}
use lib.Dec.{leb}
use lib.IntN.{ℤ}
use Rattle.rules.specs.Text.Ascii.{ascii}
use Rattle.rules.specs.Text.Bytes.{Bytes, after_each, joined_by, joined}
use Rattle.rules.specs.Text.Decimal.{minus}
use Rattle.rules.specs.Operators.Arguments.{size, is_place}
use Rattle.text.specs.Wrote.{Wrote, WroteAt}
use Rattle.rules.specs.Operators.PushPop.{flag_of}
use Rattle.numbers.specs.Parts.{Room, rest}
use Rattle.rules.specs.Operators.Table.{operator_of}
use Rattle.rules.specs.Pipeline.Write.{name_word, arg_words, operator_words}
use Rattle.laws_lists.specs.Tests.{and_right}
use Rattle.numbers.proofs.InTurn.{room_as, as_written, first-room, then-room, both-written}
use Rattle.numbers.proofs.Listed.{put_written}
use Rattle.pushpop.specs.Flags.{flagged}

pub flags-rest : (begun : Bool) (l : List ℤ) → after_each (32 ∷ []) (map flag_of l) ≡ rest flagged begun l
unfolding after_each rest flagged
flags-rest begun [] = refl
flags-rest begun (x ∷ l) = ap (λ (t : Bytes). 32 ∷ (flag_of x ++ t)) (flags-rest true l)

pub place-less : (x : ℤ) {m : ℕ} → m ≡ size x → is_place x ≡ true → m ≤ 4
unfolding is_place
place-less x e h = omega (arith, leb-true (size x) 4 (and_right (leb 1 (size x)) _ (and_right (not (minus x)) _ h)))

module _ (x : ℤ) {dst : Bytes} {at : ℕ} (h : Room (32 ∷ flag_of x) at dst) where
  flag-parts : Room ((32 ∷ 118 ∷ 95 ∷ []) ++ ((48 + size x) ∷ [])) at dst
  unfolding flag_of ascii
  flag-parts = h

  pub prefix-room : at + 3 ≤ length dst
  prefix-room = (first-room (32 ∷ 118 ∷ 95 ∷ []) ((48 + size x) ∷ []) flag-parts).fits

  module _ {r : ℕ} {last : Bytes} (w : Wrote (take at dst ++ (32 ∷ 118 ∷ 95 ∷ [])) dst r last) {m : ℕ} (e : m ≡ size x) where
    pub axis-room : Room ((48 + m) ∷ []) r last
    axis-room = rw e (then-room (32 ∷ 118 ∷ 95 ∷ []) ((48 + size x) ∷ []) flag-parts (put_written w))

    pub flag-written : {r' : ℕ} {last' : Bytes} → WroteAt ((48 + m) ∷ []) last r r' last' → WroteAt (32 ∷ flag_of x) dst at r' last'
    flag-written v =
        unfold flag_of ascii in both-written (32 ∷ 118 ∷ 95 ∷ []) ((48 + size x) ∷ []) flag-parts (put_written w) (rw e at v)

-- ---- the name, and the flags

name-first : (k : ℕ) (l : List ℤ) → k ≤ 1 → joined (operator_words (operator_of k) l) ≡ name_word (operator_of k) ++ after_each (32 ∷ []) (map flag_of l)
unfolding joined joined_by operator_words operator_of arg_words
name-first zero l h = refl
name-first (suc zero) l h = refl
name-first (suc (suc k)) l h = absurd (none h)
  where
    none : suc (suc k) ≤ 1 → ⊥
    none h = omega arith

module _ (k : ℕ) (l : List ℤ) {dst : Bytes} {at : ℕ} (less : k ≤ 1) (h : Room (joined (operator_words (operator_of k) l)) at dst) where
  abbrev name : Bytes
  name = name_word (operator_of k)

  abbrev flags : Bytes
  flags = after_each (32 ∷ []) (map flag_of l)

  parts : Room (name ++ flags) at dst
  parts = room_as (sym (name-first k l less)) h

  pub name-room : Room (name_word (operator_of k)) at dst
  name-room = first-room name flags parts

  module _ {r : ℕ} {last : Bytes} (w : WroteAt (name_word (operator_of k)) dst at r last) where
    pub flags-room : Room (after_each (32 ∷ []) (map flag_of l)) r last
    flags-room = then-room name flags parts w

    pub words-written : {r' : ℕ} {last' : Bytes} → WroteAt (after_each (32 ∷ []) (map flag_of l)) last r r' last' → WroteAt (joined (operator_words (operator_of k) l)) dst at r' last'
    words-written v = as_written (name-first k l less) (both-written name flags parts w v)

-- which name it is
pub push-name : {k : ℕ} → k ≡ 0 → name_word (operator_of k) ≡ ascii "push"
unfolding name_word operator_of
push-name e = rw e refl

pub pop-name : (k : ℕ) → k ≤ 1 → (k ≡ 0 → ⊥) → name_word (operator_of k) ≡ ascii "pop"
unfolding name_word operator_of
pop-name zero h n = absurd (n refl)
pop-name (suc zero) h n = refl
pop-name (suc (suc k)) h n = absurd (none h)
  where
    none : suc (suc k) ≤ 1 → ⊥
    none h = omega arith
