-- The words of a text, one by one: what a found word tells.
use mathlib.Core.Path.{◌≡◌, sym, ap, ◌∙◌}
use mathlib.Core.Bool.{false}
use mathlib.Core.List.{[], ◌∷◌, ◌++◌}
use Prim.Native.Nat.{ℕ, ◌-◌, ◌≤◌, ◌<◌}
use native.Mathlib.Decide.{dec_le}
use native.Mathlib.Omega.{arith}
use lib.ListN.{length, take, drop}
use Rattle.rules.specs.Text.Bytes.{Bytes, words}
use Rattle.rules.specs.Text.Reader.{part}
use Rattle.laws_text.specs.Passes.{in_word, words_append, words-nil}
use Rattle.text.proofs.RunEnd.{drop-next}
use Rattle.text.proofs.Lead.{word-there, word-edge, one_word, part-some, part_join, words-white}
use Rattle.std.proofs.Common.{List, Option, Some, None, Bor, rules}
use Rattle.std.proofs.lemmas.List.{take_rest}
use Rattle.std.specs.Iterator.{YieldsFirstRef, MakesProgress, item_count}
use Rattle.std.specs.declared.iter.Iterator.{can_next-default}
use Rattle.proj_words.specs.Words.{IsWord}

module _ {s : Bytes} {k from to : ℕ} (m : IsWord s k from to) where
  -- the word, and those behind it
  pub word-first : words (drop k s) ≡ part from to s ∷ words (drop to s)
  word-first = word-there m.gap m.body m.longer

  -- it ends there
  pub word-ends : in_word (drop to s) ≡ false
  word-ends = word-edge m.body

  pub word-within : to ≤ length s
  word-within = m.body.within

  pub word-further : k < to
  word-further = omega (arith, m.gap.ahead, m.longer)

  -- the words up to its end are this one
  pub word-alone : words (part k to s) ≡ part from to s ∷ []
  word-alone =
      ap words (part_join s k from to m.gap.ahead m.body.ahead) ∙ words-white (part k from s) (part from to s) m.gap.whole ∙ one_word m.gap m.body m.longer

-- the first word, and those of the rest of the text
pub word-split : {s : Bytes} {from to : ℕ} → IsWord s 0 from to → words s ≡ part from to s ∷ words (take (length s - to) (drop to s))
word-split {s} {from} {to} w = word-first w ∙ ap (λ (t : Bytes). part from to s ∷ words t) (sym (take_rest s to))

-- a part behind a word does not go on with it
pub behind-word : (s : Bytes) (k e : ℕ) → k ≤ e → e ≤ length s → in_word (drop k s) ≡ false → in_word (part k e s) ≡ false
unfolding in_word
behind-word s k e h l i = elim (dec_le e k) [ yes g ↦ none g | no g ↦ some (omega arith) ]
  where
    none : e ≤ k → in_word (part k e s) ≡ false
    none g = let z : e - k ≡ 0 = omega arith in ap (λ (j : ℕ). in_word (take j (drop k s))) z

    some : k < e → in_word (part k e s) ≡ false
    some g = let f : k < length s = omega arith in ap in_word (part-some s k e g l) ∙ sym (ap in_word (drop-next s k f)) ∙ i

-- the words of two parts in a row, where the second stands behind a word
pub words-parts : (s : Bytes) (k a e : ℕ) → k ≤ a → a ≤ e → e ≤ length s → in_word (drop a s) ≡ false → words (part k e s) ≡ words (part k a s) ++ words (part a e s)
words-parts s k a e h l w i = ap words (part_join s k a e h l) ∙ words_append (part k a s) (part a e s) (behind-word s a e l w i)

-- an empty part
pub words-empty : (s : Bytes) (k e : ℕ) → e ≤ k → words (part k e s) ≡ []
words-empty s k e h = let z : e - k ≡ 0 = omega arith in ap (λ (j : ℕ). words (take j (drop k s))) z ∙ words-nil

-- an iterator that yields the first of what is left comes to an end
pub less : {S A B : Type 0} (rest : S → List B) (s t : S) (x : A) {y : B} → rest s ≡ y ∷ rest t → MakesProgress (can_next-default S A) (item_count rest) s (Some x) t
less rest s t x e = let shorter = ap length e in search rules

pub progress : {S A : Type 0} (rest : S → List A) (s t : S) (r : Option (Bor A)) → YieldsFirstRef rest s r t → MakesProgress (can_next-default S (Bor A)) (item_count rest) s r t
progress rest s t (Some x) e = let shorter = ap length e in search rules
progress rest s t None e = search rules
