-- Words without white space: a text's words are such, and such words with one space between are the words of the text that they make.
use Rattle.std.specs.Prelude.{◌≡◌, Bool, cond, not, ◌&&◌, ℕ}
use Rattle.std.proofs.Math.Path.{refl}
use Rattle.std.proofs.Common.{ap, ◌∙◌}
use Rattle.std.proofs.Math.Bool.{true, false}
use mathlib.Core.List.{List, [], ◌∷◌, ◌++◌, append-nil}
use Rattle.std.proofs.lemmas.Bool.{not-true}
use Rattle.rules.specs.Text.Lists.{all_of, kept, non_empty}
use Rattle.rules.specs.Text.Bytes.{Bytes, Words, white, onto, cut, words, after_each, joined_by, joined}
use Rattle.laws_lists.specs.Tests.{and_left, and_right}
use Rattle.laws_text.specs.Pieces.{prefixed, prefixed-first}

-- a byte that is no white space
abbrev pub dark : ℕ → Bool
dark b = not (white b)

-- no white space in it
unfoldable pub blankless : Bytes → Bool
blankless w = all_of dark w

-- and not empty
unfoldable pub plain : Bytes → Bool
plain w = non_empty w && blankless w

pub plain-blankless : (w : Bytes) → plain w ≡ true → blankless w ≡ true
unfolding plain
plain-blankless w e = and_right (non_empty w) (blankless w) e

pub blankless-first : (x : ℕ) (w : Bytes) → blankless (x ∷ w) ≡ true → white x ≡ false
unfolding blankless all_of
blankless-first x w e = not-true (white x) (and_left (not (white x)) (blankless w) e)

pub blankless-rest : (x : ℕ) (w : Bytes) → blankless (x ∷ w) ≡ true → blankless w ≡ true
unfolding blankless all_of
blankless-rest x w e = and_right (not (white x)) (blankless w) e

-- ---- a text's words

-- the pieces between some bytes have none of them
module _ (test : ℕ → Bool) where
  abbrev lacks : Bytes → Bool
  lacks p = all_of (λ (b : ℕ). not (test b)) p

  onto-lacks : (x : ℕ) (ps : List Bytes) → test x ≡ false → all_of lacks ps ≡ true → all_of lacks (onto x ps) ≡ true
  unfolding onto all_of
  onto-lacks x [] e f = rw e
  onto-lacks x (p ∷ ps) e f = rw e f

  pub cut-lacks : (t : Bytes) → all_of lacks (cut test t) ≡ true
  unfolding cut
  cut-lacks [] = unfold all_of in refl
  cut-lacks (x ∷ t) = go (test x) refl (cut-lacks t)
    where
      go : (b : Bool) → test x ≡ b → all_of lacks (cut test t) ≡ true → all_of lacks (cond b ([] ∷ cut test t) (onto x (cut test t))) ≡ true
      go true e h = unfold all_of in h
      go false e h = onto-lacks x (cut test t) e h

cut-dark : (t : Bytes) → all_of blankless (cut white t) ≡ true
unfolding blankless
cut-dark t = cut-lacks white t

kept-plain : (ps : List Bytes) → all_of blankless ps ≡ true → all_of plain (kept non_empty ps) ≡ true
unfolding all_of kept
kept-plain [] e = refl
kept-plain (p ∷ ps) e = go (non_empty p) refl (kept-plain ps (and_right (blankless p) (all_of blankless ps) e))
  where
    go : (b : Bool) → non_empty p ≡ b → all_of plain (kept non_empty ps) ≡ true → all_of plain (cond b (p ∷ kept non_empty ps) (kept non_empty ps)) ≡ true
    go true f h = unfold all_of plain in rw (f, and_left (blankless p) (all_of blankless ps) e) h
    go false f h = h

pub words-plain : (t : Bytes) → all_of plain (words t) ≡ true
unfolding words
words-plain t = kept-plain (cut white t) (cut-dark t)

-- ---- the words of words with one space between are these

cut_word : (w t : Bytes) → blankless w ≡ true → cut white (w ++ t) ≡ prefixed w (cut white t)
unfolding cut prefixed
cut_word [] t e = refl
cut_word (x ∷ w) t e = rw (blankless-first x w e) (ap (onto x) (cut_word w t (blankless-rest x w e)))

cut-first : (w : Bytes) (ws : Words) → plain w ≡ true → cut white (after_each (32 ∷ []) ws) ≡ [] ∷ ws → cut white (w ++ after_each (32 ∷ []) ws) ≡ w ∷ ws
cut-first w ws e h =
    cut_word w (after_each (32 ∷ []) ws) (plain-blankless w e) ∙ ap (prefixed w) h ∙ prefixed-first w [] ws ∙ ap (λ (v : Bytes). v ∷ ws) (append-nil w)

cut-behind : (ws : Words) → all_of plain ws ≡ true → cut white (after_each (32 ∷ []) ws) ≡ [] ∷ ws
unfolding all_of after_each cut white
cut-behind [] e = refl
cut-behind (w ∷ ws) e =
    ap (λ (ps : Words). [] ∷ ps) (cut-first w ws (and_left (plain w) (all_of plain ws) e) (cut-behind ws (and_right (plain w) (all_of plain ws) e)))

kept-words : (ws : Words) → all_of plain ws ≡ true → kept non_empty ws ≡ ws
unfolding all_of kept plain
kept-words [] e = refl
kept-words (w ∷ ws) e =
    rw (and_left (non_empty w) (blankless w) (and_left (plain w) (all_of plain ws) e))
    (ap (λ (us : Words). w ∷ us) (kept-words ws (and_right (plain w) (all_of plain ws) e)))

pub words-joined : (ws : Words) → all_of plain ws ≡ true → words (joined ws) ≡ ws
unfolding words joined joined_by all_of
words-joined [] e = unfold cut kept non_empty in refl
words-joined (w ∷ ws) e =
    ap (kept non_empty) (cut-first w ws (and_left (plain w) (all_of plain ws) e) (cut-behind ws (and_right (plain w) (all_of plain ws) e))) ∙ kept-words (w ∷ ws) e
