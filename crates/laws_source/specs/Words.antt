-- The words of a text are those of its parts where white space stands between them. They stay what they are where white space is trimmed at the ends, and it
-- makes no difference to them whether a line is trimmed before it is cut at its `#`.
use Rattle.std.specs.Prelude.{◌≡◌, ℕ, Bool, cond, eqb}
use Rattle.std.proofs.Math.Path.{refl}
use Rattle.std.proofs.Common.{sym, ap, ◌∙◌, eqb-true}
use Rattle.std.proofs.Math.Bool.{true, false}
use Rattle.std.proofs.lemmas.Bool.{false≢true}
use mathlib.Core.List.{[], ◌∷◌, ◌++◌}
use Rattle.rules.specs.Text.Ascii.{is}
use Rattle.rules.specs.Text.Lists.{all_of}
use Rattle.rules.specs.Text.Bytes.{Bytes, white, trim_start, trim_end, trimmed, before, words}
use Rattle.laws_source.specs.Strings.{without_return}
use Rattle.laws_text.specs.Passes.{in_word, words-cons, words_append, keep, trim_end-cons}

-- a byte that is no white space is none that is
pub dark-byte : (c : ℕ) → white c ≡ false → (x : ℕ) → white x ≡ true → eqb x c ≡ false
dark-byte c d x e = go (eqb x c) refl
  where
    go : (b : Bool) → eqb x c ≡ b → b ≡ false
    go true f = sym e ∙ ap white (eqb-true x c f) ∙ d
    go false f = refl

-- ---- two parts with white space between

pub words-gap : (s : Bytes) (x : ℕ) (t : Bytes) → white x ≡ true → words (s ++ (x ∷ t)) ≡ words s ++ words t
words-gap s x t e = words_append s (x ∷ t) (unfold in_word in rw e refl) ∙ rw (words-cons x t, e) refl

-- ---- trimming

pub words-start : (t : Bytes) → words (trim_start white t) ≡ words t
unfolding trim_start
words-start [] = refl
words-start (x ∷ t) = go (white x) refl (words-start t)
  where
    go : (b : Bool) → white x ≡ b → words (trim_start white t) ≡ words t → words (cond b (trim_start white t) (x ∷ t)) ≡ words (x ∷ t)
    go true e i = rw (words-cons x t, e) i
    go false e i = refl

-- a CR at the end is trimmed as well
return-end : (t : Bytes) → trim_end white (without_return t) ≡ trim_end white t
unfolding without_return
return-end [] = refl
return-end (x ∷ []) = go (is "\r" x) refl
  where
    go : (b : Bool) → is "\r" x ≡ b → trim_end white (cond b [] (x ∷ [])) ≡ trim_end white (x ∷ [])
    go true e = rw (eqb-true x 13 e) (unfold trim_end all_of white in refl)
    go false e = refl
return-end (x ∷ y ∷ t) = rw (trim_end-cons white x (without_return (y ∷ t)), trim_end-cons white x (y ∷ t), return-end (y ∷ t)) refl

-- two texts with the same words, that begin alike
Alike : Bytes → Bytes → Type 0
Alike s t = (words s ≡ words t) × (in_word s ≡ in_word t)

alike-cons : (x : ℕ) (s t : Bytes) → Alike s t → Alike (x ∷ s) (x ∷ t)
unfolding Alike in_word
alike-cons x s t h = (rw (words-cons x s, words-cons x t, h.0, h.1) refl, refl)

alike-white : (x : ℕ) (t : Bytes) → white x ≡ true → Alike [] t → Alike [] (x ∷ t)
unfolding Alike in_word
alike-white x t e h = (rw (words-cons x t, e) h.0, rw e refl)

-- Bytes of which none is white space: what stands before the first of them has the same words, whether the text is trimmed or not.
module _ (test : ℕ → Bool) (dark : (x : ℕ) → white x ≡ true → test x ≡ false) where
  end-alike : (t : Bytes) → Alike (before test (trim_end white t)) (before test t)
  end-alike [] = unfold Alike trim_end in (refl, refl)
  end-alike (x ∷ t) = rw (trim_end-cons white x t) (go (trim_end white t) (end-alike t))
    where
      cut_off : (b : Bool) (s : Bytes) → Alike (before test s) (before test t) → Alike (cond b [] (x ∷ before test s)) (cond b [] (x ∷ before test t))
      cut_off true s i = unfold Alike in (refl, refl)
      cut_off false s i = alike-cons x (before test s) (before test t) i

      last : (b : Bool) → white x ≡ b → Alike (before test []) (before test t) → Alike (before test (cond b [] (x ∷ []))) (before test (x ∷ t))
      last true e i = unfold before in rw (dark x e) (alike-white x (before test t) e (unfold before in i))
      last false e i = unfold before in cut_off (test x) [] i

      go : (s : Bytes) → Alike (before test s) (before test t) → Alike (before test (keep white x s)) (before test (x ∷ t))
      go [] i = unfold keep in last (white x) refl i
      go (y ∷ s) i = unfold keep before in cut_off (test x) (y ∷ s) i

  start-before : (t : Bytes) → before test (trim_start white t) ≡ trim_start white (before test t)
  unfolding trim_start before
  start-before [] = refl
  start-before (x ∷ t) = go (white x) refl (test x) refl (start-before t)
    where
      go : (a : Bool) → white x ≡ a → (b : Bool) → test x ≡ b → before test (trim_start white t) ≡ trim_start white (before test t)
          → before test (cond a (trim_start white t) (x ∷ t)) ≡ trim_start white (cond b [] (x ∷ before test t))
      go true e true f i = absurd (false≢true (sym (dark x e) ∙ f))
      go true e false f i = rw e i
      go false e true f i = rw f refl
      go false e false f i = rw (e, f) refl

  words-before-end : (t : Bytes) → words (before test (trim_end white t)) ≡ words (before test t)
  words-before-end t = unfold Alike in (end-alike t).0

  pub words-before : (t : Bytes) → words (before test (trimmed white t)) ≡ words (before test t)
  unfolding trimmed
  words-before t = words-before-end (trim_start white t) ∙ rw (start-before t) (words-start (before test t))

  -- leaving off a line's CR changes no word
  pub words-before-return : (t : Bytes) → words (before test (without_return t)) ≡ words (before test t)
  words-before-return t = sym (words-before-end (without_return t)) ∙ rw (return-end t) (words-before-end t)

before-none : (t : Bytes) → before (λ (x : ℕ). false) t ≡ t
unfolding before
before-none [] = refl
before-none (x ∷ t) = rw (before-none t) refl

pub words-trimmed : (t : Bytes) → words (trimmed white t) ≡ words t
words-trimmed t = rw (before-none (trimmed white t), before-none t) at (words-before (λ (x : ℕ). false) (λ x e. refl) t)
