-- Each step is printed on a line of its own: its number, and its text, which has no newline within.
use Rattle.std.specs.Prelude.{◌≡◌, Bool, true, false, cond, not, ℕ, suc, eqb}
use Rattle.std.proofs.Math.Path.{refl}
use Rattle.std.proofs.Common.{sym, ap, ◌∙◌, true≢false, eqb-true}
use Rattle.std.proofs.lemmas.Bool.{false≢true}
use mathlib.Core.List.{List, [], ◌∷◌, ◌++◌, map, flat_map, append_assoc}
use Rattle.std.proofs.Math.Seq.{append_snoc}
use Rattle.rules.specs.Text.Ascii.{ascii, is}
use Rattle.rules.specs.Text.Lists.{all_of, kept, non_empty}
use Rattle.rules.specs.Text.Bytes.{Bytes, Words, Steps, white, onto, cut, words, after_each, joined_by, joined}
use Rattle.rules.specs.Text.Split.{modifier, leading, following, turned, steps_of, step_text, line}
use Rattle.rules.specs.Face.Shown.{heading, headed}
use Rattle.laws_lists.specs.Tests.{and_left, and_right}
use Rattle.laws_lists.specs.Lists.{all_append}
use Rattle.laws_proj.specs.Tests.{both, all-kept}

-- no newline
unfoldable pub free : Bytes → Bool
free t = all_of (λ (b : ℕ). not (eqb b 10)) t

-- ---- words

not-newline : (x : ℕ) → white x ≡ false → not (eqb x 10) ≡ true
unfolding white
not-newline x e = go (eqb x 10) refl
  where
    ten : x ≡ 10 → white x ≡ true
    ten z = rw z refl

    go : (b : Bool) → eqb x 10 ≡ b → not b ≡ true
    go true f = absurd (true≢false (sym (ten (eqb-true x 10 f)) ∙ e))
    go false f = refl

onto-free : (x : ℕ) (ps : List Bytes) → not (eqb x 10) ≡ true → all_of free ps ≡ true → all_of free (onto x ps) ≡ true
unfolding all_of free onto
onto-free x [] n e = rw n
onto-free x (p ∷ ps) n e =
    both (both n (and_left (free p) (all_of free ps) e)) (and_right (free p) (all_of free ps) e)

cut-free : (t : Bytes) → all_of free (cut white t) ≡ true
unfolding all_of free cut
cut-free [] = refl
cut-free (x ∷ t) = go (white x) refl (cut-free t)
  where
    go : (b : Bool) → white x ≡ b → all_of free (cut white t) ≡ true → all_of free (cond b ([] ∷ cut white t) (onto x (cut white t))) ≡ true
    go true e h = h
    go false e h = onto-free x (cut white t) (not-newline x e) h

words-free : (t : Bytes) → all_of free (words t) ≡ true
unfolding words
words-free t = all-kept free non_empty (cut white t) (cut-free t)

-- ---- a step's text

leading-free : (ws : Words) → all_of free ws ≡ true → all_of free (leading ws) ≡ true
unfolding all_of leading
leading-free [] e = refl
leading-free (w ∷ ws) e = go (modifier w) (leading-free ws (and_right (free w) (all_of free ws) e))
  where
    go : (b : Bool) → all_of free (leading ws) ≡ true → all_of free (cond b (w ∷ leading ws) []) ≡ true
    go true h = both (and_left (free w) (all_of free ws) e) h
    go false h = refl

following-free : (ws : Words) → all_of free ws ≡ true → all_of free (following ws) ≡ true
unfolding all_of following
following-free [] e = refl
following-free (w ∷ ws) e = go (modifier w) (following-free ws (and_right (free w) (all_of free ws) e))
  where
    go : (b : Bool) → all_of free (following ws) ≡ true → all_of free (cond b (following ws) (w ∷ ws)) ≡ true
    go true h = h
    go false h = e

spaced-free : (ws : Words) → all_of free ws ≡ true → free (after_each (32 ∷ []) ws) ≡ true
unfolding all_of free after_each
spaced-free [] e = refl
spaced-free (w ∷ ws) e =
    all_append (λ (b : ℕ). not (eqb b 10)) w (after_each (32 ∷ []) ws) (and_left (free w) (all_of free ws) e) (spaced-free ws (and_right (free w) (all_of free ws) e))

joined_free : (ws : Words) → all_of free ws ≡ true → free (joined ws) ≡ true
unfolding all_of free joined joined_by
joined_free [] e = refl
joined_free (w ∷ ws) e =
    all_append (λ (b : ℕ). not (eqb b 10)) w (after_each (32 ∷ []) ws) (and_left (free w) (all_of free ws) e) (spaced-free ws (and_right (free w) (all_of free ws) e))

text-free : (ws : Words) → all_of free ws ≡ true → free (step_text ws) ≡ true
unfolding step_text turned
text-free ws e = joined_free (following ws ++ leading ws) (all_append free (following ws) (leading ws) (following-free ws e) (leading-free ws e))

-- ---- all steps' texts

all_words : (ps : List Bytes) → all_of (λ (ws : Words). all_of free ws) (map words ps) ≡ true
unfolding all_of
all_words [] = refl
all_words (p ∷ ps) = both (words-free p) (all_words ps)

all-texts : (ss : Steps) → all_of (λ (ws : Words). all_of free ws) ss ≡ true → all_of free (map step_text ss) ≡ true
unfolding all_of
all-texts [] e = refl
all-texts (s ∷ ss) e =
    both (text-free s (and_left (all_of free s) (all_of (λ (ws : Words). all_of free ws) ss) e))
    (all-texts ss (and_right (all_of free s) (all_of (λ (ws : Words). all_of free ws) ss) e))

pub texts-free : (n : Bytes) → all_of free (map step_text (steps_of n)) ≡ true
unfolding steps_of
texts-free n =
    all-texts (kept non_empty (map words (cut (is "|") n)))
    (all-kept (λ (ws : Words). all_of free ws) non_empty (map words (cut (is "|") n)) (all_words (cut (is "|") n)))

-- ---- the lines, one after the other

-- the texts as lines, each behind its heading, the first of them step k
unfoldable pub numbered : ℕ → List Bytes → Bytes
numbered k [] = []
numbered k (t ∷ ts) = (heading k ++ line t) ++ numbered (suc k) ts

-- a line that has begun goes on to its newline
in-line : (k : ℕ) (t rest : Bytes) → free t ≡ true → headed k true (t ++ (10 ∷ rest)) ≡ t ++ (10 ∷ headed (suc k) false rest)
unfolding headed free all_of
in-line k [] rest e = refl
in-line k (x ∷ t) rest e = go (eqb x 10) refl (in-line k t rest (and_right (not (eqb x 10)) (free t) e))
  where
    go : (b : Bool) → eqb x 10 ≡ b → headed k true (t ++ (10 ∷ rest)) ≡ t ++ (10 ∷ headed (suc k) false rest)
        → x ∷ cond b (headed (suc k) false (t ++ (10 ∷ rest))) (headed k true (t ++ (10 ∷ rest))) ≡ x ∷ (t ++ (10 ∷ headed (suc k) false rest))
    go true f h = absurd (false≢true (sym (ap not f) ∙ and_left (not (eqb x 10)) (free t) e))
    go false f h = ap (λ (u : Bytes). x ∷ u) h

-- and begins with its heading
at-line : (k : ℕ) (t rest : Bytes) → headed k false (t ++ (10 ∷ rest)) ≡ heading k ++ headed k true (t ++ (10 ∷ rest))
unfolding headed
at-line k [] rest = refl
at-line k (x ∷ t) rest = refl

line-front : (t rest : Bytes) → line t ++ rest ≡ t ++ (10 ∷ rest)
unfolding line ascii
line-front t rest = append_snoc t 10 rest

pub lines-numbered : (k : ℕ) (ts : List Bytes) → all_of free ts ≡ true → headed k false (flat_map line ts) ≡ numbered k ts
unfolding flat_map all_of numbered
lines-numbered k [] e = unfold headed in refl
lines-numbered k (t ∷ ts) e =
    let rest = flat_map line ts in
    let next : Bytes = headed (suc k) false rest in
    ap (headed k false) (line-front t rest)
    ∙ (at-line k t rest
    ∙ (ap (λ (u : Bytes). heading k ++ u) (in-line k t rest (and_left (free t) (all_of free ts) e) ∙ sym (line-front t next))
    ∙ (sym (append_assoc (heading k) (line t) next)
    ∙ ap (λ (u : Bytes). (heading k ++ line t) ++ u) (lines-numbered (suc k) ts (and_right (free t) (all_of free ts) e)))))

-- so for the lines that splitting writes of a normalised text
pub steps-numbered : (n : Bytes) → headed 1 false (flat_map line (map step_text (steps_of n))) ≡ numbered 1 (map step_text (steps_of n))
steps-numbered n = lines-numbered 1 (map step_text (steps_of n)) (texts-free n)
