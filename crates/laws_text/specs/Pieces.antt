-- The pieces between the separators of a text in which `>` and `<` are replaced: the words of each stand one space apart, with nothing around them,
-- unless they are all modifiers. For the space that `>` and `<` bring is the last byte of a piece where no word follows.
use Rattle.std.specs.Prelude.{◌≡◌, ◌⊎◌, ℕ, Bool, cond, ◌&&◌, ◌||◌, not, eqb}
use Rattle.std.proofs.Math.Path.{refl}
use Rattle.std.proofs.Common.{ap, inl, eqb-true}
use Rattle.std.proofs.Math.Logic.{inr}
use Rattle.std.proofs.Math.Bool.{true, false}
use mathlib.Core.List.{List, [], ◌∷◌, ◌++◌, append-nil}
use Rattle.rules.specs.Text.Ascii.{ascii, is}
use Rattle.rules.specs.Text.Lists.{any_of, all_of, kept, non_empty}
use Rattle.rules.specs.Text.Bytes.{Bytes, white, same, onto, cut, words}
use Rattle.rules.specs.Text.Split.{modifier}
use Rattle.laws_lists.specs.Tests.{not_so}
use Rattle.laws_lists.specs.Lists.{Every}
use Rattle.laws_text.specs.Apart.{among, fits, fits-white, Apart}
use Rattle.laws_text.specs.Freed.{separators}
use Rattle.laws_text.specs.Spread.{inverse, forward, spoken, spread}

-- words one space apart, and nothing around them; `gap` says that a space, or the edge, stands before the text
abbrev pub Tight : Bool → Bytes → Type 0
Tight gap t = Apart false [] [] false gap t

-- a piece whose edges are those of its words, or that has modifiers alone, or nothing
abbrev pub Edged : Bytes → Type 0
Edged p = Tight true p ⊎ (all_of modifier (words p) ≡ true)

-- ---- pieces

-- some bytes in front of the first piece
unfoldable pub prefixed : Bytes → List Bytes → List Bytes
prefixed [] ps = ps
prefixed (x ∷ f) ps = onto x (prefixed f ps)

pub prefixed-first : (f q : Bytes) (qs : List Bytes) → prefixed f (q ∷ qs) ≡ (f ++ q) ∷ qs
unfolding prefixed onto
prefixed-first [] q qs = refl
prefixed-first (x ∷ f) q qs = rw (prefixed-first f q qs) refl

-- the first piece of a text behind a separator (`edge`), or behind a space (`gap`): of no bytes behind a separator alone
First : Bool → Bool → Bytes → Type 0
First true gap q = Tight true q ⊎ (q ≡ [])
First false gap q = Tight gap q

Pieces : Bool → Bool → List Bytes → Type 0
Pieces edge gap [] = ⊥
Pieces edge gap (q ∷ qs) = First edge gap q × Every Edged qs

-- a separator, and the pieces behind it: the first of them has modifiers in front, or nothing
barred : (edge : Bool) (m : Bytes) (ps : List Bytes) → all_of modifier (words m) ≡ true → ((q : Bytes) → Tight true q → Tight true (m ++ q))
    → Pieces true false ps → Pieces edge false ([] ∷ prefixed m ps)
unfolding Pieces First Every
barred edge m [] a k h = absurd h
barred edge m (q ∷ qs) a k h = rw (prefixed-first m q qs) (ended edge, (edged h.0, h.1))
  where
    ended : (edge : Bool) → First edge false []
    ended true = inr refl
    ended false = unfold Apart in refl

    edged : Tight true q ⊎ (q ≡ []) → Edged (m ++ q)
    edged (inl h) = inl (k q h)
    edged (inr e) = inr (rw (e, append-nil m) a)

-- another byte, in front of the first
pub fits-any : (bars : List ℕ) (edge gap : Bool) (x : ℕ) → fits bars edge gap x ≡ true → fits [] false (edge || gap) x ≡ true
unfolding fits any_of
fits-any bars edge gap x h = go (white x) refl
  where
    go : (b : Bool) → white x ≡ b → cond b (eqb x 32 && (not false && not (edge || gap))) (not (false && (edge || gap))) ≡ true
    go true e = let f = fits-white bars edge gap x e (unfold fits in h) in rw (f.0, f.1, f.2) refl
    go false e = refl

begun : (edge gap : Bool) (x : ℕ) (ps : List Bytes) → fits separators edge gap x ≡ true → Pieces false (white x) ps → Pieces edge gap (onto x ps)
unfolding Pieces First onto any_of Apart
begun edge gap x [] f h = absurd h
begun true gap x (q ∷ qs) f h = (inl (fits-any separators true gap x f, h.0), h.1)
begun false gap x (q ∷ qs) f h = ((fits-any separators false gap x f, h.0), h.1)

-- a separator, whatever it becomes: no space stands before it
separated : (edge gap : Bool) (x : ℕ) (m : Bytes) (ps : List Bytes) → among separators x ≡ true → white x ≡ false → fits separators edge gap x ≡ true
    → all_of modifier (words m) ≡ true → ((q : Bytes) → Tight true q → Tight true (m ++ q)) → Pieces (among separators x) (white x) ps → Pieces edge gap ([] ∷ prefixed m ps)
unfolding fits
separated edge gap x m ps s w f a k h =
    let n : gap ≡ false = not_so (rw (w, s) at f) in
    rw n (barred edge m ps a k (rw (w, s) at h))

-- a modifier and its space are modifiers alone, and words may stand behind them
module _ (loose gap : Bool) (q : Bytes) (h : Apart loose [] [] false true q) where
  pub inverse-apart : Apart loose [] [] false gap (ascii "omit_inv " ++ q)
  unfolding ascii Apart fits any_of white
  inverse-apart = (refl, (refl, (refl, (refl, (refl, (refl, (refl, (refl, (refl, h)))))))))

  pub forward-apart : Apart loose [] [] false gap (ascii "omit_fwd " ++ q)
  unfolding ascii Apart fits any_of white
  forward-apart = (refl, (refl, (refl, (refl, (refl, (refl, (refl, (refl, (refl, h)))))))))

all-modifiers : (all_of modifier (words (ascii "omit_inv ")) ≡ true) × (all_of modifier (words (ascii "omit_fwd ")) ≡ true)
unfolding all_of modifier same ascii words kept non_empty onto cut white
all-modifiers = (refl, refl)

-- what a byte becomes, and the pieces behind it
spoken-pieces : (edge gap : Bool) (x : ℕ) (u : Bytes) → fits separators edge gap x ≡ true → Pieces (among separators x) (white x) (cut (is "|") u)
    → Pieces edge gap (cut (is "|") (spoken x ++ u))
unfolding spoken cut ascii any_of white prefixed all_of words kept non_empty
spoken-pieces edge gap x u f h = go (eqb x 62) refl (eqb x 60) refl (eqb x 124) refl
  where
    go : (a : Bool) → eqb x 62 ≡ a → (b : Bool) → eqb x 60 ≡ b → (c : Bool) → eqb x 124 ≡ c → Pieces edge gap (cut (is "|") (cond a inverse (cond b forward (x ∷ [])) ++ u))
    go true d b e c i =
        let y = eqb-true x 62 d in
        separated edge gap x (ascii "omit_inv ") (cut (is "|") u) (ap (among separators) y) (ap white y) f all-modifiers.0 (inverse-apart false true) h
    go false d true e c i =
        let y = eqb-true x 60 e in
        separated edge gap x (ascii "omit_fwd ") (cut (is "|") u) (ap (among separators) y) (ap white y) f all-modifiers.1 (forward-apart false true) h
    go false d false e true i =
        let y = eqb-true x 124 i in
        rw i (separated edge gap x [] (cut (is "|") u) (ap (among separators) y) (ap white y) f refl (λ q k. k) h)
    go false d false e false i = rw i (begun edge gap x (cut (is "|") u) f (rw (e, d, i) at h))

spread-pieces : (edge gap : Bool) (t : Bytes) → Apart false separators separators edge gap t → Pieces edge gap (cut (is "|") (spread t))
unfolding spread Apart
spread-pieces edge gap [] h = unfold cut Pieces Every in (none edge, tt)
  where
    none : (edge : Bool) → First edge gap []
    none true = unfold First in inr refl
    none false = unfold First Apart in h
spread-pieces edge gap (x ∷ t) h = spoken-pieces edge gap x (spread t) h.0 (spread-pieces (among separators x) (white x) t h.1)

-- so each of them has the edges of its words, or modifiers alone
pieces-edged : (ps : List Bytes) → Pieces true false ps → Every Edged ps
unfolding Pieces First Every
pieces-edged [] h = absurd h
pieces-edged (q ∷ qs) h = (go h.0, h.1)
  where
    go : Tight true q ⊎ (q ≡ []) → Edged q
    go (inl k) = inl k
    go (inr e) = inr (rw e (unfold words kept non_empty cut all_of in refl))

pub spread-edged : (t : Bytes) → Apart false separators separators true false t → Every Edged (cut (is "|") (spread t))
spread-edged t h = pieces-edged (cut (is "|") (spread t)) (spread-pieces true false t h)
