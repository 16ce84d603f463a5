-- Words and the spaces beside them. A text that begins or ends in a space, as ` step ` and `step ` do, is found at the edges of words alone, and trimming goes
-- no further than a word.
use Rattle.std.specs.Prelude.{◌≡◌, ℕ, zero, Bool, ◌&&◌, eqb, leb}
use Rattle.std.proofs.Math.Path.{refl}
use Rattle.std.proofs.Common.{ap, ◌∙◌}
use Rattle.std.proofs.Math.Bool.{true, false, and-false}
use Rattle.std.proofs.lemmas.Bool.{false≢true}
use mathlib.Core.List.{[], ◌∷◌, ◌++◌}
use Rattle.rules.specs.Text.Lists.{all_of, non_empty}
use Rattle.rules.specs.Text.Bytes.{Bytes, Words, white, same, starts, trim_start, trim_end, trimmed, onto, after_each, joined_by, joined}
use Rattle.laws_lists.specs.Tests.{and_left, or_left}
use Rattle.laws_text.specs.Passes.{keep, trim_end-cons}
use Rattle.laws_text.specs.Pieces.{prefixed}
use Rattle.laws_text.specs.Plain.{blankless, plain, blankless-first, blankless-rest, plain-blankless}
use Rattle.laws_source.specs.Words.{dark-byte}
use Rattle.laws_source.specs.Strings.{split_from, trim_start_matches, trim_from}

-- ---- the bytes of a word

no-space : (x : ℕ) → white x ≡ false → eqb x 32 ≡ false
unfolding white
no-space x e = or_left (eqb x 32) (leb 9 x && leb x 13) e

space-not : (p : ℕ) → white p ≡ false → eqb 32 p ≡ false
space-not p e = dark-byte p e 32 (unfold white in refl)

-- ---- finding

-- a word and the space behind it: found where that is the first word, and a space follows
pub starts-word : (old w t : Bytes) → blankless old ≡ true → blankless w ≡ true → starts (old ++ (32 ∷ [])) (w ++ (32 ∷ t)) ≡ same w old
unfolding starts same
starts-word [] [] t o e = refl
starts-word [] (x ∷ w) t o e = rw (no-space x (blankless-first x w e)) refl
starts-word (p ∷ old) [] t o e = rw (space-not p (blankless-first p old o)) refl
starts-word (p ∷ old) (x ∷ w) t o e = ap (λ (b : Bool). eqb x p && b) (starts-word old w t (blankless-rest p old o) (blankless-rest x w e))

-- not found in a word alone
pub starts-alone : (old w : Bytes) → blankless w ≡ true → starts (old ++ (32 ∷ [])) w ≡ false
unfolding starts
starts-alone [] [] e = refl
starts-alone [] (x ∷ w) e = rw (no-space x (blankless-first x w e)) refl
starts-alone (p ∷ old) [] e = refl
starts-alone (p ∷ old) (x ∷ w) e = rw (starts-alone old w (blankless-rest x w e)) (and-false (eqb x p))

-- a text that begins with a space is not found at a byte of a word
pub split-word : (old w t : Bytes) → blankless w ≡ true → split_from zero (32 ∷ old) (w ++ t) ≡ prefixed w (split_from zero (32 ∷ old) t)
unfolding split_from starts prefixed
split-word old [] t e = refl
split-word old (x ∷ w) t e = rw (no-space x (blankless-first x w e)) (ap (onto x) (split-word old w t (blankless-rest x w e)))

-- what is not found at the start stays
pub trim-stays : (old t : Bytes) → starts old t ≡ false → trim_start_matches old t ≡ t
unfolding trim_start_matches trim_from
trim-stays old [] e = refl
trim-stays old (x ∷ t) e = rw e refl

-- ---- trimming

-- the two ends, in either order
either_end : (test : ℕ → Bool) (t : Bytes) → trimmed test t ≡ trim_start test (trim_end test t)
unfolding trimmed
either_end test [] = unfold trim_start trim_end in refl
either_end test (x ∷ t) = rw (trim_end-cons test x t) (go (test x) refl (trim_end test t) refl (either_end test t))
  where
    go : (b : Bool) → test x ≡ b → (u : Bytes) → trim_end test t ≡ u → trim_end test (trim_start test t) ≡ trim_start test (trim_end test t)
        → trim_end test (trim_start test (x ∷ t)) ≡ trim_start test (keep test x u)
    go true e [] f i = unfold trim_start keep in rw (e, i, f) refl
    go true e (y ∷ u) f i = unfold trim_start keep in rw (e, i, f) refl
    go false e [] f i = unfold trim_start keep in rw e (trim_end-cons test x t ∙ unfold keep in rw (f, e) refl)
    go false e (y ∷ u) f i = unfold trim_start keep in rw e (trim_end-cons test x t ∙ unfold keep in rw f refl)

keep-dark : (x : ℕ) (t : Bytes) → white x ≡ false → keep white x t ≡ x ∷ t
unfolding keep
keep-dark x [] e = rw e refl
keep-dark x (y ∷ t) e = refl

-- trimming at the end leaves a word
end-word : (w t : Bytes) → blankless w ≡ true → trim_end white (w ++ t) ≡ w ++ trim_end white t
end-word [] t e = refl
end-word (x ∷ w) t e =
    trim_end-cons white x (w ++ t) ∙ rw (end-word w t (blankless-rest x w e)) (keep-dark x (w ++ trim_end white t) (blankless-first x w e))

-- and the space before it
pub end-behind : (w t : Bytes) → plain w ≡ true → trim_end white (32 ∷ (w ++ t)) ≡ 32 ∷ (w ++ trim_end white t)
unfolding plain non_empty
end-behind [] t e = absurd (false≢true e)
end-behind (x ∷ w) t e = trim_end-cons white 32 (x ∷ (w ++ t)) ∙ rw (end-word (x ∷ w) t e) (unfold keep in refl)

start_word : (w t : Bytes) → plain w ≡ true → trim_start white (w ++ t) ≡ w ++ t
unfolding plain non_empty trim_start
start_word [] t e = absurd (false≢true e)
start_word (x ∷ w) t e = rw (blankless-first x w e) refl

start-behind : (ws : Words) → all_of plain ws ≡ true → trim_start white (after_each (32 ∷ []) ws) ≡ joined ws
unfolding joined joined_by after_each trim_start white all_of
start-behind [] e = refl
start-behind (w ∷ ws) e = start_word w (after_each (32 ∷ []) ws) (and_left (plain w) (all_of plain ws) e)

-- a text that is words, each behind a space, and white space at the end
pub trim-behind : (t : Bytes) (ws : Words) → all_of plain ws ≡ true → trim_end white t ≡ after_each (32 ∷ []) ws → trimmed white t ≡ joined ws
trim-behind t ws e h = either_end white t ∙ ap (trim_start white) h ∙ start-behind ws e

-- and one with a word before that
pub trim-word : (w t : Bytes) (ws : Words) → plain w ≡ true → trim_end white t ≡ after_each (32 ∷ []) ws → trimmed white (w ++ t) ≡ joined (w ∷ ws)
unfolding trimmed joined joined_by
trim-word w t ws e h = ap (trim_end white) (start_word w t e) ∙ end-word w t (plain-blankless w e) ∙ ap (λ (u : Bytes). w ++ u) h
