-- How long the lines of all steps are together: at most a byte longer than the text that they are steps of. Each word goes with one byte
-- more, the space or the newline behind it, and there is such a byte in the text too, but perhaps behind its last word.
use mathlib.Core.Path.{◌≡◌, refl}
use mathlib.Core.Bool.{Bool, true, false, cond, false≢true}
use mathlib.Core.List.{List, [], ◌∷◌, ◌++◌, map, flat_map}
use Prim.Native.Nat.{ℕ, suc, ◌+◌, ◌≤◌}
use native.Mathlib.Omega.{arith}
use lib.ListN.{length, length-append}
use Rattle.rules.specs.Text.Ascii.{is, ascii}
use Rattle.rules.specs.Text.Lists.{kept, non_empty}
use Rattle.rules.specs.Text.Bytes.{Bytes, Words, onto, cut, words, joined_by, joined}
use Rattle.rules.specs.Text.Split.{modifier, leading, following, turned, steps_of, step_text, line}
use Rattle.split.specs.Lines.{lines_of}
use Rattle.laws_text.specs.Words.{size, size-append, joined-size, some_size, words_size}

-- ---- one step

-- turning the modifiers in front to the end changes no length, and leaves a word
halves : (ws : Words) → size (following ws) + size (leading ws) ≡ size ws
unfolding size following leading
halves [] = refl
halves (w ∷ ws) = go (modifier w) (halves ws)
  where
    go : (b : Bool) → size (following ws) + size (leading ws) ≡ size ws → size (cond b (following ws) (w ∷ ws)) + size (cond b (w ∷ leading ws) []) ≡ suc (length w + size ws)
    go true h = omega (arith, h)
    go false h = omega arith

turned-some : (ws : Words) → non_empty ws ≡ true → non_empty (turned ws) ≡ true
unfolding turned following leading
turned-some [] e = unfold non_empty in absurd (false≢true e)
turned-some (w ∷ ws) e = go (modifier w) (following ws)
  where
    behind : (us : Words) → non_empty (us ++ (w ∷ leading ws)) ≡ true
    behind [] = unfold non_empty in refl
    behind (u ∷ us) = unfold non_empty in refl

    go : (b : Bool) (us : Words) → non_empty (cond b us (w ∷ ws) ++ cond b (w ∷ leading ws) []) ≡ true
    go true us = behind us
    go false us = unfold non_empty in refl

-- a step's line is as long as its words, each with a byte more
line-size : (ws : Words) → non_empty ws ≡ true → length (line (step_text ws)) ≡ size ws
unfolding line step_text ascii turned
line-size ws e =
    let text = joined-size (turned ws) in
    let some = some_size (turned ws) (turned-some ws e) in
    omega (arith, length-append (joined (turned ws)) (10 ∷ []), text, some, size-append (following ws) (leading ws), halves ws)

-- and at most a byte longer than the text that its words are of
pub line-within : (t : Bytes) → length (line (step_text (words t))) ≤ suc (length t)
line-within t = go (words t) (words_size t)
  where
    go : (ws : Words) → size ws ≤ suc (length t) → length (line (step_text ws)) ≤ suc (length t)
    go [] h = unfold line step_text turned following leading joined joined_by ascii in omega arith
    go (w ∷ ws) h = omega (arith, h, line-size (w ∷ ws) (unfold non_empty in refl))

-- ---- all steps

-- pieces of a text, each with a byte more
sizes : List Bytes → ℕ
sizes [] = 0
sizes (p ∷ ps) = suc (length p) + sizes ps

onto-sizes : (x n : ℕ) (ps : List Bytes) → sizes ps ≡ suc n → sizes (onto x ps) ≡ suc (suc n)
unfolding sizes onto
onto-sizes x n [] h = absurd (none h)
  where
    none : ◌≡◌ {A = ℕ} 0 (suc n) → ⊥
    none h = omega arith
onto-sizes x n (p ∷ ps) h = omega (arith, h)

cut-sizes : (test : ℕ → Bool) (t : Bytes) → sizes (cut test t) ≡ suc (length t)
unfolding cut sizes
cut-sizes test [] = refl
cut-sizes test (x ∷ t) = go (test x) (cut-sizes test t)
  where
    go : (b : Bool) → sizes (cut test t) ≡ suc (length t) → sizes (cond b ([] ∷ cut test t) (onto x (cut test t))) ≡ suc (suc (length t))
    go true h = omega (arith, h)
    go false h = onto-sizes x (length t) (cut test t) h

pieces-lines : (ps : List Bytes) → length (lines_of (kept non_empty (map words ps))) ≤ sizes ps
unfolding kept sizes flat_map
pieces-lines [] = omega arith
pieces-lines (p ∷ ps) = go (non_empty (words p)) refl (pieces-lines ps)
  where
    go : (b : Bool) → non_empty (words p) ≡ b → length (lines_of (kept non_empty (map words ps))) ≤ sizes ps
        → length (lines_of (cond b (words p ∷ kept non_empty (map words ps)) (kept non_empty (map words ps)))) ≤ suc (length p) + sizes ps
    go true e h =
        omega (arith, h, length-append (line (step_text (words p))) (lines_of (kept non_empty (map words ps))), line-size (words p) e, words_size p)
    go false e h = omega (arith, h)

-- a text's steps, each with a newline, are at most a byte longer than it
pub lines-length : (t : Bytes) → length (lines_of (steps_of t)) ≤ suc (length t)
unfolding steps_of
lines-length t = omega (arith, pieces-lines (cut (is "|") t), cut-sizes (is "|") t)
