-- Texts whose words are one space apart, with no space beside some bytes, such as separators. A squeeze makes a text so, and of a text that is so it takes
-- nothing away but a space at the end.
use Rattle.std.specs.Prelude.{◌≡◌, ◌⊎◌, ℕ, Bool, cond, ◌&&◌, ◌||◌, not, eqb}
use Rattle.std.proofs.Math.Path.{refl}
use Rattle.std.proofs.Common.{ap, ◌∙◌, inr, eqb-true}
use Rattle.std.proofs.Math.Logic.{inl}
use Rattle.std.proofs.Math.Bool.{true, false}
use Rattle.std.proofs.lemmas.Bool.{false≢true}
use mathlib.Core.List.{List, [], ◌∷◌, ◌++◌, append_assoc}
use Rattle.rules.specs.Text.Lists.{any_of, kept, non_empty}
use Rattle.rules.specs.Text.Bytes.{Bytes, Words, white, cut, words, after_each, joined_by, joined}
use Rattle.laws_lists.specs.Tests.{never}
use Rattle.laws_text.specs.Passes.{in_word, grow, words-cons}

-- ---- a text whose words are one space apart

-- is the byte one of these?
abbrev pub among : List ℕ → ℕ → Bool
among cs x = any_of (λ (c : ℕ). eqb x c) cs

-- May the byte x come next? A space not at an edge, and not behind a space; one of `bars` not behind a space.
unfoldable pub fits : List ℕ → Bool → Bool → ℕ → Bool
fits bars edge gap x = cond (white x) (eqb x 32 && (not edge && not gap)) (not (among bars x && gap))

-- White space is single spaces, none of them behind one of `shut` or before one of `bars`, and the last byte is none unless it may be. `edge` says
-- that the byte before the text is one of `shut`, and `gap` that it is a space.
unfoldable pub Apart : Bool → List ℕ → List ℕ → Bool → Bool → Bytes → Type 0
Apart loose shut bars edge gap [] = not gap || loose ≡ true
Apart loose shut bars edge gap (x ∷ t) = (fits bars edge gap x ≡ true) × Apart loose shut bars (among shut x) (white x) t

-- a space that may come next
pub fits-white : (bars : List ℕ) (edge gap : Bool) (x : ℕ) → white x ≡ true → fits bars edge gap x ≡ true → (eqb x 32 ≡ true) × (edge ≡ false) × (gap ≡ false)
unfolding fits
fits-white bars edge gap x e h = go (eqb x 32) edge gap (rw e at h)
  where
    go : (a b c : Bool) → a && (not b && not c) ≡ true → (a ≡ true) × (b ≡ false) × (c ≡ false)
    go true true c h = absurd (false≢true h)
    go true false true h = absurd (false≢true h)
    go true false false h = (refl, refl, refl)
    go false b c h = absurd (false≢true h)

-- what is not a space may come next wherever no space is
pub fits_word : (bars : List ℕ) (edge : Bool) (x : ℕ) → white x ≡ false → fits bars edge false x ≡ true
unfolding fits
fits_word bars edge x e = rw e (go (among bars x))
  where
    go : (b : Bool) → not (b && false) ≡ true
    go true = refl
    go false = refl

-- a space is white space
pub space-white : (x : ℕ) → eqb x 32 ≡ true → white x ≡ true
unfolding white
space-white x e = rw e refl

pub and-true : (b : Bool) → b && true ≡ b
and-true true = refl
and-true false = refl

module _ (loose : Bool) (shut bars : List ℕ) where
  -- behind a space comes a word, which may come at any edge
  pub behind-space : (edge edge' : Bool) (t : Bytes) → Apart loose shut bars edge true t → Apart loose shut bars edge' false t
  unfolding Apart
  behind-space edge edge' [] h = refl
  behind-space edge edge' (x ∷ t) h = (go (white x) refl, h.1)
    where
      go : (b : Bool) → white x ≡ b → fits bars edge' false x ≡ true
      go true e = absurd (never (cc (fits-white bars edge true x e h.0).2))
      go false e = fits_word bars edge' x e

  -- whatever may come, may come behind a byte that is neither
  pub anywhere : (edge gap : Bool) (t : Bytes) → Apart loose shut bars edge gap t → Apart loose shut bars false false t
  unfolding Apart
  anywhere edge gap [] h = refl
  anywhere edge gap (x ∷ t) h = (go (white x) refl, h.1)
    where
      go : (b : Bool) → white x ≡ b → fits bars false false x ≡ true
      go true e = unfold fits in rw (e, (fits-white bars edge gap x e h.0).0) refl
      go false e = fits_word bars false x e

-- ---- what a squeeze makes

-- words joined begin where a space may stand before them
Begins : Words → Type 0
Begins [] = Unit {0}
Begins (w ∷ ws) = Apart false [] [] false true (joined (w ∷ ws))

grown : (x : ℕ) (b : Bool) (ws : Words) → white x ≡ false → Begins ws → Begins (grow x b ws)
unfolding Begins Apart grow joined joined_by after_each any_of fits
grown x true [] e h = rw e (refl, refl)
grown x true (w ∷ ws) e h = rw e (refl, anywhere false [] [] false true (joined (w ∷ ws)) h)
grown x false [] e h = rw e (refl, refl)
grown x false (w ∷ ws) e h = rw (e, space-white 32 refl) (refl, (refl, h))

words-begin : (t : Bytes) → Begins (words t)
words-begin [] = unfold words kept non_empty cut Begins in tt
words-begin (x ∷ t) = rw (words-cons x t) (go (white x) refl (words-begin t))
  where
    go : (b : Bool) → white x ≡ b → Begins (words t) → Begins (cond b (words t) (grow x (in_word t) (words t)))
    go true e h = h
    go false e h = grown x (in_word t) (words t) e h

pub words-apart : (t : Bytes) → Apart false [] [] true false (joined (words t))
words-apart t = go (words t) (words-begin t)
  where
    go : (ws : Words) → Begins ws → Apart false [] [] true false (joined ws)
    go [] h = unfold joined joined_by Apart in refl
    go (w ∷ ws) h = behind-space false [] [] false true (joined (w ∷ ws)) (unfold Begins in h)

-- ---- what a squeeze leaves of such a text

-- a squeeze takes a space at the end away, and nothing else
abbrev pub Squeezes : Bool → Bytes → Type 0
Squeezes loose t = (joined (words t) ≡ t) ⊎ ((loose ≡ true) × (joined (words t) ++ (32 ∷ []) ≡ t))

joined-next : (x : ℕ) (ws : Words) → joined (grow x true ws) ≡ x ∷ joined ws
unfolding joined joined_by after_each grow
joined-next x [] = refl
joined-next x (w ∷ ws) = refl

joined-gap : (x y : ℕ) (b : Bool) (ws : Words) → joined (grow x false (grow y b ws)) ≡ x ∷ 32 ∷ joined (grow y b ws)
unfolding joined joined_by after_each grow
joined-gap x y true [] = refl
joined-gap x y true (w ∷ ws) = refl
joined-gap x y false ws = refl

-- bytes more in front, that the squeeze leaves
more : (loose : Bool) (a t : Bytes) → joined (words (a ++ t)) ≡ a ++ joined (words t) → Squeezes loose t → Squeezes loose (a ++ t)
more loose a t e (inl k) = inl (e ∙ ap (λ (u : Bytes). a ++ u) k)
more loose a t e (inr k) = inr (k.0, rw (e, append_assoc a (joined (words t)) (32 ∷ []), k.1) refl)

squeeze-byte : (x y : ℕ) (t : Bytes) → white x ≡ false → white y ≡ false → joined (words (x ∷ y ∷ t)) ≡ x ∷ joined (words (y ∷ t))
unfolding in_word
squeeze-byte x y t e f = rw (words-cons x (y ∷ t), e, f) (joined-next x (words (y ∷ t)))

squeeze-space : (x y z : ℕ) (t : Bytes) → white x ≡ false → eqb y 32 ≡ true → white z ≡ false → joined (words (x ∷ y ∷ z ∷ t)) ≡ x ∷ y ∷ joined (words (z ∷ t))
unfolding in_word
squeeze-space x y z t e f g =
    rw (eqb-true y 32 f, words-cons x (32 ∷ z ∷ t), e, words-cons 32 (z ∷ t), words-cons z t, g) (unfold white in joined-gap x z (in_word t) (words t))

squeeze-one : (x : ℕ) → white x ≡ false → joined (words (x ∷ [])) ≡ x ∷ []
unfolding in_word
squeeze-one x e = rw (words-cons x [], e) (unfold words kept non_empty cut grow joined joined_by after_each in refl)

squeeze-last : (x y : ℕ) → white x ≡ false → eqb y 32 ≡ true → joined (words (x ∷ y ∷ [])) ≡ x ∷ []
unfolding in_word
squeeze-last x y e f = rw (eqb-true y 32 f, words-cons x (32 ∷ []), e) (unfold words kept non_empty cut grow joined joined_by after_each white in refl)

-- behind a space comes a byte of a word, and such a byte may come anywhere
word_next : (gap : Bool) (x : ℕ) → fits [] false gap x ≡ true → gap ≡ true → white x ≡ false
word_next gap x h g = go (white x) refl
  where
    go : (b : Bool) → white x ≡ b → white x ≡ false
    go true e = absurd (never (cc ((fits-white [] false gap x e h).2, g)))
    go false e = e

word_fits : (gap : Bool) (x : ℕ) → white x ≡ false → fits [] false gap x ≡ true
unfolding fits any_of
word_fits gap x e = rw e refl

pub squeezes : (loose : Bool) (t : Bytes) → Apart loose [] [] false true t → Squeezes loose t
unfolding Apart any_of
squeezes loose [] h = unfold words kept non_empty cut joined joined_by in inl refl
squeezes loose (x ∷ []) h = inl (squeeze-one x (word_next true x h.0 refl))
squeezes loose (x ∷ y ∷ t) h = go (white y) refl (squeezes loose (y ∷ t)) (squeezes loose t)
  where
    word : white x ≡ false
    word = word_next true x h.0 refl

    behind : (t : Bytes) → eqb y 32 ≡ true → Apart loose [] [] false true t → (Apart loose [] [] false true t → Squeezes loose t) → Squeezes loose (x ∷ y ∷ t)
    behind [] e k j = inr (k, rw (squeeze-last x y word e, eqb-true y 32 e) refl)
    behind (z ∷ t) e k j = more loose (x ∷ y ∷ []) (z ∷ t) (squeeze-space x y z t word e (word_next true z k.0 refl)) (j k)

    go : (b : Bool) → white y ≡ b → (Apart loose [] [] false true (y ∷ t) → Squeezes loose (y ∷ t)) → (Apart loose [] [] false true t → Squeezes loose t)
        → Squeezes loose (x ∷ y ∷ t)
    go true e i j = behind t (fits-white [] false (white x) y e h.1.0).0 (rw e at h.1.1) j
    go false e i j = more loose (x ∷ []) (y ∷ t) (squeeze-byte x y t word e) (i (word_fits true y e, h.1.1))
