-- The definitions on texts by the byte that comes first, as the loops of the passes meet it.
use Rattle.std.specs.Prelude.{◌≡◌, ℕ, Bool, true, cond, ◌&&◌, not, List, [], ◌∷◌, ◌++◌, get_or, ltb}
use Rattle.std.proofs.Math.Path.{refl}
use Rattle.std.proofs.Common.{sym}
use Rattle.std.proofs.Math.Bool.{false}
use Rattle.std.proofs.lemmas.Bool.{false≢true}
use Rattle.rules.specs.Text.Lists.{all_of, kept, non_empty}
use Rattle.rules.specs.Text.Bytes.{Bytes, Words, white, subscript, in_domain, trim_end, onto, cut, words}

-- ---- words

-- does the text begin with a byte of a word?
unfoldable pub in_word : Bytes → Bool
in_word [] = false
in_word (x ∷ t) = not (white x)

-- a byte of a word, before a text with the words ws: it begins the first of them if the text begins with that word, and else is a word
unfoldable pub grow : ℕ → Bool → Words → Words
grow x true [] = (x ∷ []) ∷ []
grow x true (w ∷ ws) = (x ∷ w) ∷ ws
grow x false ws = (x ∷ []) ∷ ws

onto-grow : (x y : ℕ) (ps : List Bytes) → kept non_empty (onto x (onto y ps)) ≡ grow x true (kept non_empty (onto y ps))
unfolding kept non_empty onto grow
onto-grow x y [] = refl
onto-grow x y (p ∷ ps) = refl

kept-grow : (x : ℕ) (t : Bytes) → kept non_empty (onto x (cut white t)) ≡ grow x (in_word t) (kept non_empty (cut white t))
unfolding in_word kept non_empty onto cut grow
kept-grow x [] = refl
kept-grow x (y ∷ t) = go (white y)
  where
    go : (b : Bool) → kept non_empty (onto x (cond b ([] ∷ cut white t) (onto y (cut white t)))) ≡ grow x (not b) (kept non_empty (cond b ([] ∷ cut white t) (onto y (cut white t))))
    go true = refl
    go false = onto-grow x y (cut white t)

pub words-cons : (x : ℕ) (t : Bytes) → words (x ∷ t) ≡ cond (white x) (words t) (grow x (in_word t) (words t))
unfolding words kept non_empty cut
words-cons x t = go (white x)
  where
    go : (b : Bool) → kept non_empty (cond b ([] ∷ cut white t) (onto x (cut white t))) ≡ cond b (kept non_empty (cut white t)) (grow x (in_word t) (kept non_empty (cut white t)))
    go true = refl
    go false = kept-grow x t

-- ---- words of two texts in a row

pub grow-some : (x : ℕ) (b : Bool) (ws : Words) → non_empty (grow x b ws) ≡ true
unfolding grow non_empty
grow-some x true [] = refl
grow-some x true (w ∷ ws) = refl
grow-some x false ws = refl

pub grow-append : (x : ℕ) (b : Bool) (ws us : Words) → (b ≡ true → non_empty ws ≡ true) → grow x b (ws ++ us) ≡ grow x b ws ++ us
unfolding grow non_empty
grow-append x true [] us n = absurd (false≢true (n refl))
grow-append x true (w ∷ ws) us n = refl
grow-append x false ws us n = refl

-- a text that begins with a byte of a word has a word
pub in_word-words : (t : Bytes) → in_word t ≡ true → non_empty (words t) ≡ true
unfolding in_word
in_word-words [] e = absurd (false≢true e)
in_word-words (x ∷ t) e = rw (words-cons x t) (go (white x) e)
  where
    go : (b : Bool) → not b ≡ true → non_empty (cond b (words t) (grow x (in_word t) (words t))) ≡ true
    go true f = absurd (false≢true f)
    go false f = grow-some x (in_word t) (words t)

pub words-nil : words [] ≡ []
unfolding words kept cut non_empty
words-nil = refl

-- words of two texts in a row, where the second does not go on with a word
pub words_append : (t u : Bytes) → in_word u ≡ false → words (t ++ u) ≡ words t ++ words u
words_append [] u e = rw words-nil
words_append (x ∷ []) u e = rw (words-cons x u, words-cons x [], e) (go (white x))
  where
    go : (b : Bool) → cond b (words u) (grow x false (words u)) ≡ cond b (words []) (grow x (in_word []) (words [])) ++ words u
    go true = unfold words kept cut non_empty in refl
    go false = unfold words kept cut non_empty in_word grow in refl
words_append (x ∷ y ∷ t) u e = rw (words-cons x (y ∷ t ++ u), words-cons x (y ∷ t)) (go (white x) (words_append (y ∷ t) u e))
  where
    go : (b : Bool) → words (y ∷ t ++ u) ≡ words (y ∷ t) ++ words u
        → cond b (words (y ∷ t ++ u)) (grow x (in_word (y ∷ t ++ u)) (words (y ∷ t ++ u))) ≡ cond b (words (y ∷ t)) (grow x (in_word (y ∷ t)) (words (y ∷ t))) ++ words u
    go true h = h
    go false h = rw h (unfold in_word in grow-append x (in_word (y ∷ t)) (words (y ∷ t)) (words u) (in_word-words (y ∷ t)))

-- ---- trimming at the end

-- x before a text that has been trimmed at its end
unfoldable pub keep : (ℕ → Bool) → ℕ → Bytes → Bytes
keep test x [] = cond (test x) [] (x ∷ [])
keep test x (y ∷ t) = x ∷ y ∷ t

trim_end-all : (test : ℕ → Bool) (t : Bytes) → all_of test t ≡ true → trim_end test t ≡ []
unfolding trim_end
trim_end-all test [] e = refl
trim_end-all test (x ∷ t) e = rw e

trim_end-non_empty : (test : ℕ → Bool) (x : ℕ) (t : Bytes) → all_of test t ≡ false → x ∷ trim_end test t ≡ keep test x (trim_end test t)
unfolding trim_end keep all_of
trim_end-non_empty test x [] e = absurd (false≢true (sym e))
trim_end-non_empty test x (y ∷ t) e = rw e

pub trim_end-cons : (test : ℕ → Bool) (x : ℕ) (t : Bytes) → trim_end test (x ∷ t) ≡ keep test x (trim_end test t)
unfolding trim_end all_of keep
trim_end-cons test x t = go (test x) (all_of test t) refl refl
  where
    go : (a b : Bool) → test x ≡ a → all_of test t ≡ b → cond (a && b) [] (x ∷ trim_end test t) ≡ keep test x (trim_end test t)
    go true true f e = rw (trim_end-all test t e, f)
    go false true f e = rw (trim_end-all test t e, f)
    go true false f e = trim_end-non_empty test x t e
    go false false f e = trim_end-non_empty test x t e

-- ---- the domain

-- does the text begin with a whole subscript digit?
unfoldable pub digit : Bytes → Bool
digit t = subscript (get_or t 0 0) (get_or t 1 0) (get_or t 2 0)

pub domain-ascii : (x : ℕ) (t : Bytes) → ltb x 128 ≡ true → in_domain (x ∷ t) ≡ in_domain t
unfolding in_domain
domain-ascii x [] e = e
domain-ascii x (y ∷ []) e = rw e
domain-ascii x (y ∷ z ∷ t) e = rw e

pub domain-digit : (x y z : ℕ) (t : Bytes) → ltb x 128 ≡ false → digit (x ∷ y ∷ z ∷ t) ≡ true → in_domain (x ∷ y ∷ z ∷ t) ≡ in_domain t
unfolding in_domain digit
domain-digit x y z t e d = rw (e, d)

pub domain-stop : (x : ℕ) (t : Bytes) → ltb x 128 ≡ false → digit (x ∷ t) ≡ false → in_domain (x ∷ t) ≡ false
unfolding in_domain digit
domain-stop x [] e d = e
domain-stop x (y ∷ []) e d = rw e
domain-stop x (y ∷ z ∷ t) e d = rw (e, d)
