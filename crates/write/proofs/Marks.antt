-- The marks of a record, each after a space; and the whole text of a record: its operator's words, and the marks.
use mathlib.Core.Path.{◌≡◌, refl, sym, ap, ◌∙◌}
use mathlib.Core.Bool.{Bool, true, false, cond}
use mathlib.Core.List.{[], ◌∷◌, ◌++◌, append-nil, append_assoc}
use Prim.Native.Nat.{ℕ}
use borrow.Author.Tests.{ne_eqb}
use Rattle.rules.specs.Text.Ascii.{ascii}
use Rattle.rules.specs.Text.Bytes.{Bytes, Words, after_each, joined_by, joined}
use Rattle.rules.specs.Pipeline.Record.{operator, args, is_set}
use Rattle.rules.specs.Pipeline.Write.{name_word, arg_words, operator_words, mark_word, mark_words, step_words, writing}
use Rattle.rules.specs.declared.Step.{Step}
use Rattle.text.specs.Wrote.{WroteAt}
use Rattle.numbers.specs.Parts.{Room}
use Rattle.numbers.proofs.InTurn.{room_as, as_written, first-room, then-room, both-written}
use Rattle.write.specs.Parts.{marked, mark_text}

-- ---- marks

pub mark_set : {w : Bytes} {m : ℕ} → m ≡ 1 → marked w m ≡ w
unfolding marked is_set
mark_set e = rw e

pub mark-not : (w : Bytes) {m : ℕ} → (m ≡ 1 → ⊥) → marked w m ≡ []
unfolding marked is_set
mark-not w {m} n = rw (ne_eqb m 1 n)

module _ (inv fwd back : ℕ) {dst : Bytes} {at : ℕ} (h : Room (mark_text inv fwd back) at dst) where
  a : Bytes
  a = marked (32 ∷ 105 ∷ 110 ∷ 118 ∷ []) inv

  b : Bytes
  b = marked (32 ∷ 111 ∷ 109 ∷ 105 ∷ 116 ∷ 95 ∷ 102 ∷ 119 ∷ 100 ∷ []) fwd

  c : Bytes
  c = marked (32 ∷ 111 ∷ 109 ∷ 105 ∷ 116 ∷ 95 ∷ 105 ∷ 110 ∷ 118 ∷ []) back

  three : mark_text inv fwd back ≡ a ++ (b ++ c)
  unfolding mark_text ascii a b c
  three = refl

  three-room : Room (a ++ (b ++ c)) at dst
  three-room = room_as (sym three) h

  pub first-mark : Room (marked (32 ∷ 105 ∷ 110 ∷ 118 ∷ []) inv) at dst
  unfolding a
  first-mark = first-room a (b ++ c) three-room

  module _ {r : ℕ} {last : Bytes} (v : WroteAt (marked (32 ∷ 105 ∷ 110 ∷ 118 ∷ []) inv) dst at r last) where
    two-room : Room (b ++ c) r last
    unfolding a
    two-room = then-room a (b ++ c) three-room v

    pub mark-second : Room (marked (32 ∷ 111 ∷ 109 ∷ 105 ∷ 116 ∷ 95 ∷ 102 ∷ 119 ∷ 100 ∷ []) fwd) r last
    unfolding b
    mark-second = first-room b c two-room

    module _ {r' : ℕ} {last' : Bytes} (w : WroteAt (marked (32 ∷ 111 ∷ 109 ∷ 105 ∷ 116 ∷ 95 ∷ 102 ∷ 119 ∷ 100 ∷ []) fwd) last r r' last') where
      pub mark-third : Room (marked (32 ∷ 111 ∷ 109 ∷ 105 ∷ 116 ∷ 95 ∷ 105 ∷ 110 ∷ 118 ∷ []) back) r' last'
      unfolding b c
      mark-third = then-room b c two-room w

      pub marks-written : {r'' : ℕ} {last'' : Bytes} → WroteAt (marked (32 ∷ 111 ∷ 109 ∷ 105 ∷ 116 ∷ 95 ∷ 105 ∷ 110 ∷ 118 ∷ []) back) last' r' r'' last'' → WroteAt (mark_text inv fwd back) dst at r'' last''
      unfolding a b c
      marks-written x = as_written three (both-written a (b ++ c) three-room v (both-written b c two-room w x))

-- ---- the whole step

cond-space : (b : Bool) (w : Bytes) (ws : Words) → after_each (32 ∷ []) (cond b (w ∷ []) [] ++ ws) ≡ cond b (32 ∷ w) [] ++ after_each (32 ∷ []) ws
unfolding after_each
cond-space true w ws = refl
cond-space false w ws = refl

cond-last : (b : Bool) (w : Bytes) → after_each (32 ∷ []) (cond b (w ∷ []) []) ≡ cond b (32 ∷ w) []
unfolding after_each
cond-last true w = ap (λ (t : Bytes). 32 ∷ t) (append-nil w)
cond-last false w = refl

marks-is : (s : Step) → after_each (32 ∷ []) (mark_words s) ≡ mark_text s.inv s.omit_fwd s.omit_inv
unfolding mark_words mark_word mark_text marked ascii
marks-is s =
    cond-space (is_set s.inv) (ascii "inv") _
    ∙ ap (λ (t : Bytes). cond (is_set s.inv) (32 ∷ 105 ∷ 110 ∷ 118 ∷ []) [] ++ t)
    (cond-space (is_set s.omit_fwd) (ascii "omit_fwd") _
    ∙ ap (λ (t : Bytes). cond (is_set s.omit_fwd) (32 ∷ 111 ∷ 109 ∷ 105 ∷ 116 ∷ 95 ∷ 102 ∷ 119 ∷ 100 ∷ []) [] ++ t) (cond-last (is_set s.omit_inv) (ascii "omit_inv")))

after-append : (a b : Words) → after_each (32 ∷ []) (a ++ b) ≡ after_each (32 ∷ []) a ++ after_each (32 ∷ []) b
unfolding after_each
after-append [] b = refl
after-append (w ∷ a) b = ap (λ (t : Bytes). 32 ∷ t) (ap (λ (t : Bytes). w ++ t) (after-append a b) ∙ sym (append_assoc w (after_each (32 ∷ []) a) (after_each (32 ∷ []) b)))

pub step_is : (s : Step) → writing s ≡ joined (operator_words (operator s) (args s)) ++ mark_text s.inv s.omit_fwd s.omit_inv
unfolding writing step_words operator_words joined joined_by
step_is s =
    ap (λ (t : Bytes). name_word (operator s) ++ t)
    (after-append (arg_words (operator s) (args s)) (mark_words s) ∙ ap (λ (t : Bytes). after_each (32 ∷ []) (arg_words (operator s) (args s)) ++ t) (marks-is s))
    ∙ sym (append_assoc (name_word (operator s)) (after_each (32 ∷ []) (arg_words (operator s) (args s))) (mark_text s.inv s.omit_fwd s.omit_inv))
