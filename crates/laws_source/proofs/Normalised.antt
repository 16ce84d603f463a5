-- Two texts without newlines that have the same words have the same normal form: trimming colons at the ends of a text is trimming them at the outer ends of
-- its first and its last word, and normalising then goes on from the words.
use Rattle.std.specs.Prelude.{◌≡◌, ℕ, Bool, eqb}
use Rattle.std.proofs.Math.Path.{refl}
use Rattle.std.proofs.Common.{sym, ◌∙◌}
use Rattle.std.proofs.Math.Bool.{true, false, cond, not, false≢true}
use mathlib.Core.List.{[], ◌∷◌}
use Rattle.rules.specs.Text.Ascii.{ascii, is}
use Rattle.rules.specs.Text.Lists.{all_of, non_empty}
use Rattle.rules.specs.Text.Bytes.{Bytes, Words, white, starts, replace_from, replace, trim_start, trim_end, trimmed, words}
use Rattle.rules.specs.Text.Normal.{squeezed, continued, normal}
use Rattle.laws_lists.specs.Tests.{never, and_left, and_right, not_so}
use Rattle.laws_text.specs.Passes.{in_word, grow, words-cons, keep, trim_end-cons, words-nil, in_word-words}
use Rattle.laws_source.specs.Words.{dark-byte, words-trimmed}
use Rattle.laws_source.proofs.LineWords.{in_line, trimmed-all}

-- ---- the ends of a text and of its words

-- a text that begins with a word, or has no byte
fresh : Bytes → Bool
fresh [] = true
fresh (x ∷ t) = not (white x)

-- and one that ends so
closed : Bytes → Bool
closed [] = true
closed (x ∷ []) = not (white x)
closed (x ∷ y ∷ t) = closed (y ∷ t)

-- a word in front, if it has a byte
ahead : Bytes → Words → Words
ahead [] ws = ws
ahead (x ∷ w) ws = (x ∷ w) ∷ ws

-- the words of a text that is trimmed at its start, and at its end
start_words : (ℕ → Bool) → Words → Words
start_words test [] = []
start_words test (w ∷ ws) = ahead (trim_start test w) ws

end_words : (ℕ → Bool) → Words → Words
end_words test [] = []
end_words test (w ∷ []) = ahead (trim_end test w) []
end_words test (w ∷ v ∷ ws) = w ∷ end_words test (v ∷ ws)

-- a text that ends with a word has one
closed_some : (x : ℕ) (t : Bytes) → closed (x ∷ t) ≡ true → non_empty (words (x ∷ t)) ≡ true
unfolding closed
closed_some x [] h = in_word-words (x ∷ []) (unfold in_word in h)
closed_some x (y ∷ t) h = go (white x) refl (closed_some y t h)
  where
    go : (b : Bool) → white x ≡ b → non_empty (words (y ∷ t)) ≡ true → non_empty (words (x ∷ y ∷ t)) ≡ true
    go true e i = rw (words-cons x (y ∷ t), e) i
    go false e i = in_word-words (x ∷ y ∷ t) (unfold in_word in rw e refl)

one_word : (x : ℕ) → white x ≡ false → words (x ∷ []) ≡ (x ∷ []) ∷ []
unfolding in_word grow
one_word x e = rw (words-cons x [], e, words-nil) refl

-- what is trimmed at its start is fresh, and stays so
start-fresh : (t : Bytes) → fresh (trim_start white t) ≡ true
unfolding trim_start
start-fresh [] = unfold fresh in refl
start-fresh (x ∷ t) = go (white x) refl (start-fresh t)
  where
    go : (b : Bool) → white x ≡ b → fresh (trim_start white t) ≡ true → fresh (cond b (trim_start white t) (x ∷ t)) ≡ true
    go true e i = i
    go false e i = unfold fresh in rw e refl

end_fresh : (t : Bytes) → fresh t ≡ true → fresh (trim_end white t) ≡ true
unfolding trim_end
end_fresh [] h = h
end_fresh (x ∷ t) h = go (all_of white (x ∷ t))
  where
    go : (b : Bool) → fresh (cond b [] (x ∷ trim_end white t)) ≡ true
    go true = unfold fresh in refl
    go false = unfold fresh in h

-- what is trimmed at its end is closed, and what is left of it behind some bytes too
end-closed : (t : Bytes) → closed (trim_end white t) ≡ true
end-closed [] = unfold trim_end closed in refl
end-closed (x ∷ t) = rw (trim_end-cons white x t) (go (trim_end white t) (end-closed t))
  where
    one : (b : Bool) → white x ≡ b → closed (cond b [] (x ∷ [])) ≡ true
    one true e = unfold closed in refl
    one false e = unfold closed in rw e refl

    go : (u : Bytes) → closed u ≡ true → closed (keep white x u) ≡ true
    go [] i = unfold keep in one (white x) refl
    go (y ∷ u) i = unfold keep closed in i

closed-tail : (x : ℕ) (t : Bytes) → closed (x ∷ t) ≡ true → closed t ≡ true
unfolding closed
closed-tail x [] h = refl
closed-tail x (y ∷ t) h = h

-- ---- trimming bytes of which none is white space

module _ (test : ℕ → Bool) (dark : (x : ℕ) → white x ≡ true → test x ≡ false) where
  -- ---- at the start

  start_first : (x : ℕ) (b : Bool) (ws : Words) → test x ≡ false → start_words test (grow x b ws) ≡ grow x b ws
  unfolding start_words ahead grow trim_start
  start_first x true [] e = rw e refl
  start_first x true (w ∷ ws) e = rw e refl
  start_first x false ws e = rw e refl

  start-next : (x : ℕ) (ws : Words) → test x ≡ true → non_empty ws ≡ true → start_words test (grow x true ws) ≡ start_words test ws
  unfolding start_words grow trim_start non_empty
  start-next x [] e h = absurd (false≢true h)
  start-next x (w ∷ ws) e h = rw e refl

  start-one : (x : ℕ) (ws : Words) → test x ≡ true → start_words test (grow x false ws) ≡ ws
  unfolding start_words ahead grow trim_start
  start-one x ws e = rw e refl

  -- behind a word comes white space, which is not trimmed
  start_none : (t : Bytes) → in_word t ≡ false → trim_start test t ≡ t
  unfolding in_word trim_start
  start_none [] e = refl
  start_none (x ∷ t) e = go (white x) refl e
    where
      go : (b : Bool) → white x ≡ b → not b ≡ false → cond (test x) (trim_start test t) (x ∷ t) ≡ x ∷ t
      go true f e = rw (dark x f) refl
      go false f e = absurd (never (cc e))

  start-words : (t : Bytes) → fresh t ≡ true → words (trim_start test t) ≡ start_words test (words t)
  unfolding fresh trim_start
  start-words [] h = rw words-nil (unfold start_words in refl)
  start-words (x ∷ t) h = go (test x) refl (in_word t) refl (start-words t)
    where
      first : (b : Bool) → in_word t ≡ b → words (x ∷ t) ≡ grow x b (words t)
      first b f = words-cons x t ∙ rw (not_so {b = white x} h, f) refl

      begun : (t : Bytes) → in_word t ≡ true → fresh t ≡ true
      begun [] f = refl
      begun (y ∷ t) f = unfold in_word in f

      go : (a : Bool) → test x ≡ a → (b : Bool) → in_word t ≡ b → (fresh t ≡ true → words (trim_start test t) ≡ start_words test (words t))
          → words (cond a (trim_start test t) (x ∷ t)) ≡ start_words test (words (x ∷ t))
      go true e true f i = i (begun t f) ∙ rw (first true f) (sym (start-next x (words t) e (in_word-words t f)))
      go true e false f i = rw (start_none t f, first false f, start-one x (words t) e) refl
      go false e b f i = rw (first b f) (sym (start_first x b (words t) e))

  -- ---- at the end

  -- what is left of a text begins as it did
  end-begins : (x : ℕ) (t : Bytes) (y : ℕ) (u : Bytes) → trim_end test (x ∷ t) ≡ y ∷ u → in_word (y ∷ u) ≡ in_word (x ∷ t)
  unfolding trim_end in_word
  end-begins x t y u h = go (all_of test (x ∷ t)) h
    where
      go : (b : Bool) → cond b [] (x ∷ trim_end test t) ≡ y ∷ u → not (white y) ≡ not (white x)
      go true h = absurd (never (cc h))
      go false h = let e : x ≡ y = cc h in rw e refl

  -- one byte
  end-last : (w : Bytes) → end_words test (w ∷ []) ≡ ahead (trim_end test w) []
  unfolding end_words
  end-last w = refl

  end_none : trim_end test [] ≡ []
  unfolding trim_end
  end_none = refl

  end-one : (x : ℕ) → white x ≡ false → words (keep test x []) ≡ ahead (keep test x []) []
  unfolding keep
  end-one x e = go (test x)
    where
      go : (b : Bool) → words (cond b [] (x ∷ [])) ≡ ahead (cond b [] (x ∷ [])) []
      go true = unfold ahead in words-nil
      go false = unfold ahead in rw (words-cons x [], e, words-nil) (unfold in_word grow in refl)

  -- a byte of a word, before a text of which nothing is left: that is one word of such bytes
  end-gone : (x : ℕ) (ws : Words) → white x ≡ false → non_empty ws ≡ true → [] ≡ end_words test ws → words (keep test x []) ≡ end_words test (grow x true ws)
  unfolding end_words grow non_empty
  end-gone x [] e s i = absurd (false≢true s)
  end-gone x (w ∷ []) e s i = go (trim_end test w) refl i
    where
      go : (u : Bytes) → trim_end test w ≡ u → [] ≡ ahead u [] → words (keep test x []) ≡ ahead (trim_end test (x ∷ w)) []
      go [] f i = rw (trim_end-cons test x w, f) (end-one x e)
      go (z ∷ u) f i = absurd (none i)
        where
          none : [] ≡ ahead (z ∷ u) [] → ⊥
          none i = unfold ahead in never (cc i)
  end-gone x (w ∷ v ∷ ws) e s i = absurd (never (cc i))

  -- a byte of a word, before a text of which something is left
  end-left : (x : ℕ) (b : Bool) (ws : Words) → non_empty ws ≡ true → (b ≡ true → non_empty (end_words test ws) ≡ true) → grow x b (end_words test ws) ≡ end_words test (grow x b ws)
  unfolding end_words grow non_empty
  end-left x b [] s h = absurd (false≢true s)
  end-left x true (w ∷ []) s h = go (trim_end test w) refl (h refl)
    where
      go : (u : Bytes) → trim_end test w ≡ u → non_empty (ahead u []) ≡ true → grow x true (ahead u []) ≡ ahead (trim_end test (x ∷ w)) []
      go [] f n = absurd (false≢true (unfold ahead non_empty in n))
      go (z ∷ u) f n = rw (trim_end-cons test x w, f) (unfold ahead grow keep in refl)
  end-left x true (w ∷ v ∷ ws) s h = refl
  end-left x false (w ∷ ws) s h = refl

  -- white space before what is left is left too
  stays : (x : ℕ) → white x ≡ true → (u : Bytes) → keep test x u ≡ [] → ⊥
  unfolding keep
  stays x w [] k = go (test x) refl k
    where
      go : (b : Bool) → test x ≡ b → cond b [] (x ∷ []) ≡ [] → ⊥
      go true e k = false≢true (sym (dark x w) ∙ e)
      go false e k = never (cc k)
  stays x w (z ∷ u) k = never (cc k)

  end-words : (t : Bytes) → closed t ≡ true → words (trim_end test t) ≡ end_words test (words t)
  unfolding closed in_word
  end-words [] h = unfold trim_end end_words in rw words-nil refl
  end-words (x ∷ []) h =
      let e : white x ≡ false = not_so h in
      rw (one_word x e, end-last (x ∷ []), trim_end-cons test x [], end_none) (end-one x e)
  end-words (x ∷ y ∷ t) h = rw (trim_end-cons test x (y ∷ t), words-cons x (y ∷ t)) (go (white x) refl (trim_end test (y ∷ t)) refl (end-words (y ∷ t) h))
    where
      some : non_empty (words (y ∷ t)) ≡ true
      some = closed_some y t h

      -- white space in front is no word, and is not trimmed
      gap : (u : Bytes) → white x ≡ true → words (keep test x u) ≡ words u
      gap [] e = unfold keep in rw (dark x e, words-cons x [], e) refl
      gap (z ∷ u) e = unfold keep in rw (words-cons x (z ∷ u), e) refl

      go : (b : Bool) → white x ≡ b → (u : Bytes) → trim_end test (y ∷ t) ≡ u → words u ≡ end_words test (words (y ∷ t))
          → words (keep test x u) ≡ end_words test (cond b (words (y ∷ t)) (grow x (in_word (y ∷ t)) (words (y ∷ t))))
      go true e u f i = gap u e ∙ i
      go false e [] f i = gone (white y) refl f (sym words-nil ∙ i)
        where
          gone : (b : Bool) → white y ≡ b → trim_end test (y ∷ t) ≡ [] → [] ≡ end_words test (words (y ∷ t)) → words (keep test x []) ≡ end_words test (grow x (not b) (words (y ∷ t)))
          gone true w f i = absurd (stays y w (trim_end test t) (sym (trim_end-cons test y t) ∙ f))
          gone false w f i = end-gone x (words (y ∷ t)) e some i
      go false e (z ∷ u) f i =
          unfold keep in
          rw (words-cons x (z ∷ u), e, end-begins y t z u f, i)
          (end-left x (in_word (y ∷ t)) (words (y ∷ t)) some (λ b. rw (← i) (in_word-words (z ∷ u) (end-begins y t z u f ∙ b))))

  -- ---- at both, of a text that is trimmed of white space

  start-closed : (t : Bytes) → closed t ≡ true → closed (trim_start test t) ≡ true
  unfolding trim_start
  start-closed [] h = h
  start-closed (x ∷ t) h = go (test x) (start-closed t (closed-tail x t h))
    where
      go : (b : Bool) → closed (trim_start test t) ≡ true → closed (cond b (trim_start test t) (x ∷ t)) ≡ true
      go true i = i
      go false i = h

  trimmed-words : (t : Bytes) → words (trimmed test (trimmed white t)) ≡ end_words test (start_words test (words t))
  trimmed-words t = go (trimmed white t) (unfold trimmed in end_fresh (trim_start white t) (start-fresh t)) (unfold trimmed in end-closed (trim_start white t)) (words-trimmed t)
    where
      go : (u : Bytes) → fresh u ≡ true → closed u ≡ true → words u ≡ words t → words (trimmed test u) ≡ end_words test (start_words test (words t))
      go u f c e = unfold trimmed in rw (end-words (trim_start test u) (start-closed u c), start-words u f, e) refl

-- ---- normalising

-- no white space is a colon
colon-dark : (x : ℕ) → white x ≡ true → is ":" x ≡ false
colon-dark = dark-byte 58 (unfold white in refl)

-- without newlines there is no colon behind one
continued-line : (t : Bytes) → all_of in_line t ≡ true → continued t ≡ t
unfolding continued replace replace_from starts ascii all_of
continued-line [] h = refl
continued-line (x ∷ t) h = rw (not_so {b = eqb x 10} (and_left (not (eqb x 10)) (all_of in_line t) h), continued-line t (and_right (not (eqb x 10)) (all_of in_line t) h)) refl

begun-words : (t : Bytes) → all_of in_line t ≡ true → words (continued (trimmed (is ":") (trimmed white t))) ≡ end_words (is ":") (start_words (is ":") (words t))
begun-words t h =
    rw (continued-line (trimmed (is ":") (trimmed white t)) (trimmed-all in_line (is ":") (trimmed white t) (trimmed-all in_line white t h)))
    (trimmed-words (is ":") colon-dark t)

pub normal-words : (t u : Bytes) → all_of in_line t ≡ true → all_of in_line u ≡ true → words t ≡ words u → normal t ≡ normal u
unfolding normal squeezed
normal-words t u h k e = rw (begun-words t h, begun-words u k, e) refl
