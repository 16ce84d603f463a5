-- The pieces of a normal form between its separators: each is its words with one space between, unless they are all modifiers. The last squeeze takes
-- nothing away but a space at the end.
use Rattle.std.specs.Prelude.{◌≡◌, refl, ℕ, Bool, true, false, cond, ◌||◌, not, eqb}
use Rattle.std.proofs.Common.{sym, ap, ◌∙◌, inl, inr, eqb-true}
use Rattle.std.proofs.lemmas.Bool.{false≢true}
use mathlib.Core.List.{List, [], ◌∷◌, ◌++◌, append-nil}
use Rattle.rules.specs.Text.Ascii.{ascii, is}
use Rattle.rules.specs.Text.Lists.{any_of, all_of, kept, non_empty}
use Rattle.rules.specs.Text.Bytes.{Bytes, white, onto, cut, words, joined}
use Rattle.rules.specs.Text.Normal.{squeezed, normal}
use Rattle.rules.specs.Text.Split.{modifier}
use Rattle.laws_lists.specs.Lists.{Every}
use Rattle.laws_text.specs.Passes.{in_word, words-cons}
use Rattle.laws_text.specs.Apart.{among, fits, Apart, behind-space, Squeezes, squeezes}
use Rattle.laws_text.specs.Freed.{separators}
use Rattle.laws_text.specs.Spread.{inverse, forward, spoken, spread, normal-spread}
use Rattle.laws_text.specs.Pieces.{Tight, Edged, prefixed, prefixed-first, fits-any, inverse-apart, forward-apart, spread-edged}

-- ---- before the last squeeze

-- the words of a text that is spread are one space apart, but a space may be its last byte
spoken-loose : (edge gap : Bool) (x : ℕ) (u : Bytes) → fits separators edge gap x ≡ true → Apart true [] [] false (among separators x || white x) u
    → Apart true [] [] false (edge || gap) (spoken x ++ u)
unfolding spoken ascii any_of Apart white fits
spoken-loose edge gap x u f h = go (eqb x 62) refl (eqb x 60) refl
  where
    spaced : (y : ℕ) → eqb x y ≡ true → among separators y ≡ true → Apart true [] [] false true u
    spaced y e s = rw (ap (among separators) (eqb-true x y e) ∙ s) at h

    other : (s w : Bool) → Apart true [] [] false (s || w) u → Apart true [] [] false w u
    other true true k = k
    other true false k = behind-space true [] [] false false u k
    other false w k = k

    go : (a : Bool) → eqb x 62 ≡ a → (b : Bool) → eqb x 60 ≡ b → Apart true [] [] false (edge || gap) (cond a inverse (cond b forward (x ∷ [])) ++ u)
    go true d b e = (refl, inverse-apart true false u (spaced 62 d refl))
    go false d true e = (refl, forward-apart true false u (spaced 60 e refl))
    go false d false e = (fits-any separators edge gap x f, other (among separators x) (white x) h)

spread-loose : (edge gap : Bool) (t : Bytes) → Apart false separators separators edge gap t → Apart true [] [] false (edge || gap) (spread t)
unfolding spread Apart
spread-loose edge gap [] h = go (edge || gap)
  where
    go : (b : Bool) → not b || true ≡ true
    go true = refl
    go false = refl
spread-loose edge gap (x ∷ t) h = spoken-loose edge gap x (spread t) h.0 (spread-loose (among separators x) (white x) t h.1)

-- ---- without a space at the end

-- a space at the end is no word, and no tight text has one
pub words-end : (t : Bytes) → (words (t ++ (32 ∷ [])) ≡ words t) × (in_word (t ++ (32 ∷ [])) ≡ in_word t)
words-end [] = unfold words kept non_empty cut in_word white in (refl, refl)
words-end (x ∷ t) = let i = words-end t in (words-cons x (t ++ (32 ∷ [])) ∙ rw (i.0, i.1) (sym (words-cons x t)), unfold in_word in refl)

never-last : (gap : Bool) (t : Bytes) → Tight gap (t ++ (32 ∷ [])) → ⊥
unfolding Apart any_of white
never-last gap [] h = false≢true h.1
never-last gap (x ∷ t) h = never-last (white x) t h.1

edged-end : (t : Bytes) → Edged (t ++ (32 ∷ [])) → Edged t
edged-end t (inl h) = absurd (never-last true t h)
edged-end t (inr h) = inr (rw (words-end t).0 at h)

-- the bytes f are those of the first piece that have been gone over
prefixed-onto : (f : Bytes) (x : ℕ) (ps : List Bytes) → prefixed f (onto x ps) ≡ prefixed (f ++ (x ∷ [])) ps
unfolding prefixed
prefixed-onto [] x ps = refl
prefixed-onto (y ∷ f) x ps = ap (onto y) (prefixed-onto f x ps)

pieces_end : (f t : Bytes) → Every Edged (prefixed f (cut (is "|") (t ++ (32 ∷ [])))) → Every Edged (prefixed f (cut (is "|") t))
unfolding cut onto prefixed Every
pieces_end f [] h =
    let k : Every Edged ((f ++ (32 ∷ [])) ∷ []) = rw (prefixed-first f (32 ∷ []) []) at h in
    rw (prefixed-first f [] [], append-nil f) (edged-end f k.0, tt)
pieces_end f (x ∷ t) h = go (is "|" x) h (pieces_end [] t) (pieces_end (f ++ (x ∷ [])) t)
  where
    go : (b : Bool) → Every Edged (prefixed f (cond b ([] ∷ cut (is "|") (t ++ (32 ∷ []))) (onto x (cut (is "|") (t ++ (32 ∷ []))))))
        → (Every Edged (cut (is "|") (t ++ (32 ∷ []))) → Every Edged (cut (is "|") t))
        → (Every Edged (prefixed (f ++ (x ∷ [])) (cut (is "|") (t ++ (32 ∷ [])))) → Every Edged (prefixed (f ++ (x ∷ [])) (cut (is "|") t)))
        → Every Edged (prefixed f (cond b ([] ∷ cut (is "|") t) (onto x (cut (is "|") t))))
    go true h i j =
        let k : Every Edged ((f ++ []) ∷ cut (is "|") (t ++ (32 ∷ []))) = rw (prefixed-first f [] (cut (is "|") (t ++ (32 ∷ [])))) at h in
        rw (prefixed-first f [] (cut (is "|") t)) (k.0, i k.1)
    go false h i j = rw (prefixed-onto f x (cut (is "|") t)) (j (rw (prefixed-onto f x (cut (is "|") (t ++ (32 ∷ [])))) at h))

-- ---- a normal form

-- The edges of its pieces are those of their words.
pub normal-edged : (t : Bytes) → Every Edged (cut (is "|") (normal t))
unfolding squeezed
normal-edged t =
    let n = normal-spread t in
    let u = spread n.0 in
    rw n.1 (go u (spread-edged n.0 n.2) (squeezes true u (spread-loose true false n.0 n.2)))
  where
    go : (u : Bytes) → Every Edged (cut (is "|") u) → Squeezes true u → Every Edged (cut (is "|") (joined (words u)))
    go u h (inl e) = rw e h
    go u h (inr e) = unfold prefixed in pieces_end [] (joined (words u)) (rw e.1 h)

-- So a piece that has other words than modifiers is these words with one space between.
pub edged-joined : (p : Bytes) → Edged p → all_of modifier (words p) ≡ false → joined (words p) ≡ p
edged-joined p (inl h) n = go (squeezes false p h)
  where
    go : Squeezes false p → joined (words p) ≡ p
    go (inl e) = e
    go (inr e) = absurd (false≢true e.0)
edged-joined p (inr h) n = absurd (false≢true (sym n ∙ h))
