-- The text of an action: its name and key, and its arguments.
use mathlib.Core.Path.{◌≡◌, refl, sym}
use Prim.Native.Nat.{ℕ, zero, suc, ◌≤◌}
use mathlib.Core.Bool.{true}
use mathlib.Core.List.{List, [], ◌∷◌, ◌++◌, append-nil}
use native.Mathlib.Omega.{arith}
use borrow.Author.Tests.{eqb-true}
use lib.IntN.{ℤ}
use lib.ListN.{length}
use Rattle.rules.specs.Text.Ascii.{ascii}
use Rattle.rules.specs.Text.Bytes.{Bytes, after_each, joined_by, joined}
use Rattle.rules.specs.Operators.Arguments.{listing, key_value}
use Rattle.rules.specs.Operators.Stack.{is_nothing}
use Rattle.rules.specs.Operators.Table.{operator_of, is_args}
use Rattle.rules.specs.Pipeline.Write.{name_word, arg_words, operator_words}
use Rattle.text.specs.Wrote.{WroteAt}
use Rattle.numbers.specs.Parts.{Room}
use Rattle.numbers.proofs.InTurn.{room_as, as_written, first-room, then-room, both-written}
use Rattle.stack.specs.Text.{action_text}

no_arguments : (l : List ℤ) → is_nothing l ≡ true → l ≡ []
unfolding is_nothing
no_arguments [] h = refl
no_arguments (x ∷ l) h = absurd (omega (arith, eqb-true (length (x ∷ l)) 0 h))

text-is : (k : ℕ) (l : List ℤ) → 2 ≤ k → k ≤ 8 → is_args (operator_of k) l ≡ true → joined (operator_words (operator_of k) l) ≡ action_text (operator_of k) ++ listing l
unfolding joined joined_by after_each operator_words name_word arg_words operator_of is_args key_value listing action_text ascii
text-is zero l g h r = absurd (omega (arith, g))
text-is (suc zero) l g h r = absurd (omega (arith, g))
text-is (suc (suc zero)) l g h r = append-nil _
text-is (suc (suc (suc zero))) l g h r = append-nil _
text-is (suc (suc (suc (suc zero)))) l g h r = append-nil _
text-is (suc (suc (suc (suc (suc zero))))) l g h r = append-nil _
text-is (suc (suc (suc (suc (suc (suc zero)))))) l g h r = append-nil _
text-is (suc (suc (suc (suc (suc (suc (suc zero))))))) l g h r = rw (no_arguments l r) refl
text-is (suc (suc (suc (suc (suc (suc (suc (suc zero)))))))) l g h r = rw (no_arguments l r) refl
text-is (suc (suc (suc (suc (suc (suc (suc (suc (suc k))))))))) l g h r = absurd (omega (arith, h))

module _ (k : ℕ) (l : List ℤ) {dst : Bytes} {at : ℕ} (p : (2 ≤ k) × (k ≤ 8)) (r : is_args (operator_of k) l ≡ true) (h : Room (joined (operator_words (operator_of k) l)) at dst) where
  abbrev front : Bytes
  front = action_text (operator_of k)

  parts : Room (front ++ listing l) at dst
  parts = room_as (sym (text-is k l p.0 p.1 r)) h

  pub action-room : Room (action_text (operator_of k)) at dst
  action-room = first-room front (listing l) parts

  module _ {e : ℕ} {last : Bytes} (w : WroteAt (action_text (operator_of k)) dst at e last) where
    pub list-room : Room (listing l) e last
    list-room = then-room front (listing l) parts w

    pub words-written : {e' : ℕ} {last' : Bytes} → WroteAt (listing l) last e e' last' → WroteAt (joined (operator_words (operator_of k) l)) dst at e' last'
    words-written v = as_written (text-is k l p.0 p.1 r) (both-written front (listing l) parts w v)

-- ---- which text it is

pub text-push : {k : ℕ} → k ≡ 2 → action_text (operator_of k) ≡ ascii "stack push="
unfolding action_text operator_of
text-push e = rw e refl

pub text-pop : {k : ℕ} → k ≡ 3 → action_text (operator_of k) ≡ ascii "stack pop="
unfolding action_text operator_of
text-pop e = rw e refl

pub text-flip : {k : ℕ} → k ≡ 4 → action_text (operator_of k) ≡ ascii "stack flip="
unfolding action_text operator_of
text-flip e = rw e refl

pub text-roll : {k : ℕ} → k ≡ 5 → action_text (operator_of k) ≡ ascii "stack roll="
unfolding action_text operator_of
text-roll e = rw e refl

pub text-unroll : {k : ℕ} → k ≡ 6 → action_text (operator_of k) ≡ ascii "stack unroll="
unfolding action_text operator_of
text-unroll e = rw e refl

pub text-swap : {k : ℕ} → k ≡ 7 → action_text (operator_of k) ≡ ascii "stack swap"
unfolding action_text operator_of
text-swap e = rw e refl

pub text-drop : {k : ℕ} → k ≡ 8 → action_text (operator_of k) ≡ ascii "stack drop"
unfolding action_text operator_of
text-drop e = rw e refl
