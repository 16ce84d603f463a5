-- How long words are together, each counted with a byte more for what stands behind it: a space, or a newline. A text's words are at most a
-- byte longer than the text, for its last word may have nothing behind it.
use Rattle.std.specs.Prelude.{◌≡◌, refl, Bool, true, false, cond, not, [], ◌∷◌, ◌++◌, ℕ, suc, ◌+◌, ◌-◌, ◌≤◌, length}
use Rattle.std.proofs.lemmas.Bool.{false≢true}
use native.Mathlib.Omega.{arith}
use Rattle.std.proofs.Common.{length-append}
use Rattle.rules.specs.Text.Lists.{kept, non_empty}
use Rattle.rules.specs.Text.Bytes.{Bytes, Words, white, cut, words, after_each, joined_by, joined}
use Rattle.laws_text.specs.Passes.{in_word, grow, words-cons}

unfoldable pub size : Words → ℕ
size [] = 0
size (w ∷ ws) = suc (length w + size ws)

pub size-append : (ws us : Words) → size (ws ++ us) ≡ size ws + size us
unfolding size
size-append [] us = omega arith
size-append (w ∷ ws) us = omega (arith, size-append ws us)

-- ---- as they are written

pub spaced-size : (ws : Words) → length (after_each (32 ∷ []) ws) ≡ size ws
unfolding size after_each
spaced-size [] = refl
spaced-size (w ∷ ws) = omega (arith, length-append w (after_each (32 ∷ []) ws), spaced-size ws)

pub joined-size : (ws : Words) → length (joined ws) ≡ size ws - 1
unfolding size joined joined_by
joined-size [] = omega arith
joined-size (w ∷ ws) = omega (arith, length-append w (after_each (32 ∷ []) ws), spaced-size ws)

pub some_size : (ws : Words) → non_empty ws ≡ true → 1 ≤ size ws
unfolding size non_empty
some_size [] e = absurd (false≢true e)
some_size (w ∷ ws) e = omega arith

-- ---- the words of a text

one-or-none : (b : Bool) → cond b 1 0 ≤ 1
one-or-none true = omega arith
one-or-none false = omega arith

size-grow : (x n : ℕ) (b : Bool) (ws : Words) → size ws ≤ n + cond b 1 0 → size (grow x b ws) ≤ suc n + 1
unfolding size grow
size-grow x n true [] h = omega arith
size-grow x n true (w ∷ ws) h = omega (arith, h)
size-grow x n false ws h = omega (arith, h)

words-within : (t : Bytes) → size (words t) ≤ length t + cond (in_word t) 1 0
unfolding in_word
words-within [] = unfold words kept cut non_empty size in omega arith
words-within (x ∷ t) = rw (words-cons x t) (go (white x) (words-within t))
  where
    go : (b : Bool) → size (words t) ≤ length t + cond (in_word t) 1 0
        → size (cond b (words t) (grow x (in_word t) (words t))) ≤ suc (length t) + cond (not b) 1 0
    go true h = omega (arith, h, one-or-none (in_word t))
    go false h = size-grow x (length t) (in_word t) (words t) h

pub words_size : (t : Bytes) → size (words t) ≤ suc (length t)
words_size t = omega (arith, words-within t, one-or-none (in_word t))
