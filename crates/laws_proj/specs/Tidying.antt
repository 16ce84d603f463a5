-- A step's words as the answer has them, word by word: what is taken out, what is changed, and what comes last.
use Rattle.std.proofs.Math.Path.{◌≡◌, refl, sym, ap}
use Rattle.std.proofs.Common.{◌∙◌, true≢false}
use Rattle.std.specs.Prelude.{Bool, not, ◌&&◌, ◌||◌, drop}
use Rattle.std.proofs.Math.Bool.{true, false, cond}
use Rattle.std.proofs.lemmas.Bool.{false≢true}
use mathlib.Core.List.{[], ◌∷◌, ◌++◌, append-nil}
use Prim.Native.Nat.{ℕ, zero, suc, ◌-◌, ◌<◌}
use native.Mathlib.Omega.{arith}
use borrow.Author.Tests.{lt-ltb, ltb-true, ltb-false, ne_eqb, eq-eqb}
use Rattle.std.proofs.Math.Dec.{eqb, ltb}
use Rattle.rules.specs.Text.Ascii.{ascii}
use Rattle.rules.specs.Text.Lists.{any_of}
use Rattle.rules.specs.Text.Bytes.{Bytes, Words, starts}
use Rattle.rules.specs.Proj.Words.{has_key, last_of, without_last, composed, ellipsoid, scale, exchanged, tidied}
use Rattle.laws_proj.specs.Tests.{starts_other}

-- ---- the definitions

-- how many words begin with a key
unfoldable pub count_of : Bytes → Words → ℕ
count_of key [] = 0
count_of key (w ∷ ws) = cond (starts key w) (suc (count_of key ws)) (count_of key ws)

-- the last word that begins with it, or else w
unfoldable pub last_from : Bytes → Bytes → Words → Bytes
last_from key w [] = w
last_from key w (v ∷ ws) = last_from key (cond (starts key v) v w) ws

-- the words without the n-th that begins with the key: all of them where n is 0
unfoldable pub without : ℕ → Bytes → Words → Words
without zero key ws = ws
without (suc n) key [] = []
without (suc n) key (w ∷ ws) = cond (starts key w) (cond (eqb n 0) ws (w ∷ without n key ws)) (w ∷ without (suc n) key ws)

-- the scale, if it is still to come
unfoldable pub scaling : Bool → Words → Words
scaling still ws = cond still (scale ws) ws

-- What is left of the tidied words: of those that begin with `a=` and with `rf=`, the so-manieth is taken out, and the last
-- words follow.
unfoldable pub tidy_rest : ℕ → ℕ → Bool → Words → Words → Words
tidy_rest a rf still last ws = scaling still (without rf (ascii "rf=") (without a (ascii "a=") ws) ++ last)

-- "`ellps=a,rf`", by both values
unfoldable pub ellps_of : Bytes → Bytes → Bytes
ellps_of a rf = ascii "ellps=" ++ (a ++ (ascii "," ++ rf))

-- a word of its own, or the scale
unfoldable pub own_word : Bool → Bytes → Bytes
own_word scaled w = cond scaled (ascii "k_0=" ++ drop 2 w) w

-- ---- taking out

module _ (key w : Bytes) (ws : Words) where
  pub without-last : (n : ℕ) → n ≡ 1 → starts key w ≡ true → without n key (w ∷ ws) ≡ ws
  unfolding without
  without-last zero z e = absurd (never z)
    where
      never : ◌≡◌ {A = ℕ} zero 1 → ⊥
      never z = omega arith
  without-last (suc n) z e = let y : n ≡ 0 = omega arith in rw (e, eq-eqb n 0 y)

  pub without_more : (n : ℕ) → 1 < n → starts key w ≡ true → without n key (w ∷ ws) ≡ w ∷ without (n - 1) key ws
  unfolding without
  without_more zero h e = absurd (never h)
    where
      never : 1 < zero → ⊥
      never h = omega arith
  without_more (suc n) h e =
      let y : suc n - 1 ≡ n = omega arith in
      let x : eqb n 0 ≡ false = ne_eqb n 0 (λ z. never n z h) in
      rw (e, x, y)
    where
      never : (n : ℕ) → n ≡ 0 → 1 < suc n → ⊥
      never n z h = omega arith

  pub without_other : (n : ℕ) → starts key w ≡ false → without n key (w ∷ ws) ≡ w ∷ without n key ws
  unfolding without
  without_other zero e = refl
  without_other (suc n) e = rw e

pub without-none : (key : Bytes) (ws : Words) (n : ℕ) → n ≡ 0 → without n key ws ≡ ws
unfolding without
without-none key ws n z = rw z

pub scaling-other : (still : Bool) (w : Bytes) (ws : Words) → starts (ascii "k=") w ≡ false → scaling still (w ∷ ws) ≡ w ∷ scaling still ws
unfolding scaling scale
scaling-other true w ws e = rw e
scaling-other false w ws e = refl

pub scaling-done : (still : Bool) (w : Bytes) (ws : Words) → still ≡ false → scaling still (w ∷ ws) ≡ w ∷ scaling still ws
unfolding scaling
scaling-done still w ws e = rw e

-- ---- a word more

module _ (a rf : ℕ) (still : Bool) (last : Words) (w : Bytes) (ws : Words) where
  -- what comes of the words after the two are taken out
  abbrev behind : ℕ → ℕ → Words
  behind i j = without j (ascii "rf=") (without i (ascii "a=") ws) ++ last

  module _ (e : starts (ascii "a=") w ≡ true) where
    no-rf : starts (ascii "rf=") w ≡ false
    unfolding ascii
    no-rf = starts_other 97 114 _ _ w e refl

    no-k : starts (ascii "k=") w ≡ false
    unfolding ascii
    no-k = starts_other 97 107 _ _ w e refl

    pub rest-a-last : a ≡ 1 → tidy_rest a rf still last (w ∷ ws) ≡ tidy_rest 0 rf still last ws
    unfolding tidy_rest
    rest-a-last z = rw (without-last (ascii "a=") w ws a z e, without-none (ascii "a=") ws 0 refl)

    pub rest-a-more : 1 < a → tidy_rest a rf still last (w ∷ ws) ≡ w ∷ tidy_rest (a - 1) rf still last ws
    unfolding tidy_rest
    rest-a-more h = rw (without_more (ascii "a=") w ws a h e, without_other (ascii "rf=") w (without (a - 1) (ascii "a=") ws) rf no-rf) (scaling-other still w (behind (a - 1) rf) no-k)

    pub rest-a-none : a ≡ 0 → tidy_rest a rf still last (w ∷ ws) ≡ w ∷ tidy_rest a rf still last ws
    unfolding tidy_rest
    rest-a-none z =
        rw (without-none (ascii "a=") (w ∷ ws) a z, without-none (ascii "a=") ws a z, without_other (ascii "rf=") w ws rf no-rf) (scaling-other still w (without rf (ascii "rf=") ws ++ last) no-k)

  module _ (n : starts (ascii "a=") w ≡ false) where
    past-a : tidy_rest a rf still last (w ∷ ws) ≡ scaling still (without rf (ascii "rf=") (w ∷ without a (ascii "a=") ws) ++ last)
    unfolding tidy_rest
    past-a = rw (without_other (ascii "a=") w ws a n)

    module _ (e : starts (ascii "rf=") w ≡ true) where
      rf-no-k : starts (ascii "k=") w ≡ false
      unfolding ascii
      rf-no-k = starts_other 114 107 _ _ w e refl

      pub rest-rf-last : rf ≡ 1 → tidy_rest a rf still last (w ∷ ws) ≡ tidy_rest a 0 still last ws
      unfolding tidy_rest
      rest-rf-last z = past-a ∙ rw (without-last (ascii "rf=") w (without a (ascii "a=") ws) rf z e, without-none (ascii "rf=") (without a (ascii "a=") ws) 0 refl)

      pub rest-rf-more : 1 < rf → tidy_rest a rf still last (w ∷ ws) ≡ w ∷ tidy_rest a (rf - 1) still last ws
      unfolding tidy_rest
      rest-rf-more h = past-a ∙ rw (without_more (ascii "rf=") w (without a (ascii "a=") ws) rf h e) (scaling-other still w (behind a (rf - 1)) rf-no-k)

      pub rest-rf-none : rf ≡ 0 → tidy_rest a rf still last (w ∷ ws) ≡ w ∷ tidy_rest a rf still last ws
      unfolding tidy_rest
      rest-rf-none z =
          past-a ∙ rw (without-none (ascii "rf=") (w ∷ without a (ascii "a=") ws) rf z, without-none (ascii "rf=") (without a (ascii "a=") ws) rf z)
          (scaling-other still w (without a (ascii "a=") ws ++ last) rf-no-k)

    module _ (m : starts (ascii "rf=") w ≡ false) where
      past-both : tidy_rest a rf still last (w ∷ ws) ≡ scaling still (w ∷ behind a rf)
      past-both = past-a ∙ ap (λ (us : Words). scaling still (us ++ last)) (without_other (ascii "rf=") w (without a (ascii "a=") ws) rf m)

      pub rest-scale : starts (ascii "k=") w ≡ true → still ≡ true → tidy_rest a rf still last (w ∷ ws) ≡ (ascii "k_0=" ++ drop 2 w) ∷ tidy_rest a rf false last ws
      unfolding tidy_rest scaling scale
      rest-scale e z = past-both ∙ rw (z, e)

      pub rest-scaled : still ≡ false → tidy_rest a rf still last (w ∷ ws) ≡ w ∷ tidy_rest a rf still last ws
      unfolding tidy_rest
      rest-scaled z = past-both ∙ scaling-done still w (behind a rf) z

      pub rest_plain : starts (ascii "k=") w ≡ false → tidy_rest a rf still last (w ∷ ws) ≡ w ∷ tidy_rest a rf still last ws
      unfolding tidy_rest
      rest_plain e = past-both ∙ scaling-other still w (behind a rf) e

-- the last words: the scale is not among them
pub rest_end : (a rf : ℕ) (still : Bool) (x y : Bytes) → tidy_rest a rf still (ellps_of x y ∷ []) [] ≡ ellps_of x y ∷ []
unfolding tidy_rest scaling scale ellps_of ascii starts
rest_end a rf still x y = rw (without-nil (ascii "a=") a, without-nil (ascii "rf=") rf) (go still)
  where
    without-nil : (key : Bytes) (n : ℕ) → without n key [] ≡ []
    without-nil key zero = unfold without in refl
    without-nil key (suc n) = unfold without in refl

    go : (b : Bool) → cond b (scale (ellps_of x y ∷ [])) (ellps_of x y ∷ []) ≡ ellps_of x y ∷ []
    go true = unfold scale starts in refl
    go false = refl

pub rest-nothing : (a rf : ℕ) (still : Bool) → tidy_rest a rf still [] [] ≡ []
unfolding tidy_rest scaling scale
rest-nothing a rf still = rw (without-nil (ascii "a=") a, without-nil (ascii "rf=") rf) (go still)
  where
    without-nil : (key : Bytes) (n : ℕ) → without n key [] ≡ []
    without-nil key zero = unfold without in refl
    without-nil key (suc n) = unfold without in refl

    go : (b : Bool) → ◌≡◌ {A = Words} (cond b [] []) []
    go true = refl
    go false = refl

-- ---- the whole

module _ (key : Bytes) where
  pub has-count : (ws : Words) → has_key key ws ≡ ltb 0 (count_of key ws)
  unfolding has_key any_of count_of
  has-count [] = refl
  has-count (w ∷ ws) = go (starts key w) (has-count ws)
    where
      go : (b : Bool) → any_of (starts key) ws ≡ ltb 0 (count_of key ws) → (b || any_of (starts key) ws) ≡ ltb 0 (cond b (suc (count_of key ws)) (count_of key ws))
      go true h = sym (lt-ltb 0 (suc (count_of key ws)) (omega arith))
      go false h = h

  last-same : (us : Words) (u : Bytes) → has_key key us ≡ false → last_from key u us ≡ u
  unfolding has_key any_of last_from
  last-same [] u f = refl
  last-same (x ∷ us) u f = turn (starts key x) f (last-same us u)
    where
      turn : (b : Bool) → (b || has_key key us) ≡ false → (has_key key us ≡ false → last_from key u us ≡ u) → last_from key (cond b x u) us ≡ u
      turn true g h = absurd (true≢false g)
      turn false g h = h g

  pub last-from : (ws : Words) (w : Bytes) → has_key key ws ≡ true → last_from key w ws ≡ last_of key ws
  unfolding has_key any_of last_from last_of
  last-from [] w e = absurd (false≢true e)
  last-from (v ∷ ws) w e = go (has_key key ws) refl (starts key v) e (last-from ws)
    where
      go : (d : Bool) → has_key key ws ≡ d → (b : Bool) → (b || has_key key ws) ≡ true → ((u : Bytes) → has_key key ws ≡ true → last_from key u ws ≡ last_of key ws)
          → last_from key (cond b v w) ws ≡ cond d (last_of key ws) v
      go true f b g h = h (cond b v w) f
      go false f true g h = last-same ws v f
      go false f false g h = absurd (false≢true (sym f ∙ g))

  pub last-starts : (ws : Words) → has_key key ws ≡ true → starts key (last_of key ws) ≡ true
  unfolding has_key any_of last_of
  last-starts [] e = absurd (false≢true e)
  last-starts (w ∷ ws) e = go (has_key key ws) refl (starts key w) refl e (last-starts ws)
    where
      go : (d : Bool) → has_key key ws ≡ d → (b : Bool) → starts key w ≡ b → (b || has_key key ws) ≡ true
          → (has_key key ws ≡ true → starts key (last_of key ws) ≡ true) → starts key (cond d (last_of key ws) w) ≡ true
      go true f b k g h = h f
      go false f true k g h = k
      go false f false k g h = absurd (false≢true (sym f ∙ g))

  count-some : (ws : Words) → has_key key ws ≡ true → 0 < count_of key ws
  count-some ws e = ltb-true 0 (count_of key ws) (sym (has-count ws) ∙ e)

  count_none : (ws : Words) → has_key key ws ≡ false → count_of key ws ≡ 0
  count_none ws e = let l = ltb-false 0 (count_of key ws) (sym (has-count ws) ∙ e) in omega arith

  one_less : (n : ℕ) → suc n - 1 ≡ n
  one_less n = omega arith

  -- the last of them is the so-manieth
  pub without-count : (ws : Words) → has_key key ws ≡ true → without (count_of key ws) key ws ≡ without_last key ws
  unfolding has_key any_of without_last count_of
  without-count [] e = absurd (false≢true e)
  without-count (w ∷ ws) e = go (has_key key ws) refl (starts key w) refl e (without-count ws)
    where
      go : (d : Bool) → has_key key ws ≡ d → (b : Bool) → starts key w ≡ b → (b || has_key key ws) ≡ true
          → (has_key key ws ≡ true → without (count_of key ws) key ws ≡ without_last key ws)
          → without (cond b (suc (count_of key ws)) (count_of key ws)) key (w ∷ ws) ≡ cond d (w ∷ without_last key ws) ws
      go true f true k g h =
          without_more key w ws (suc (count_of key ws)) (omega (arith, count-some ws f)) k
          ∙ ap (λ (n : ℕ). w ∷ without n key ws) (one_less (count_of key ws)) ∙ ap (λ (us : Words). w ∷ us) (h f)
      go true f false k g h = without_other key w ws (count_of key ws) k ∙ ap (λ (us : Words). w ∷ us) (h f)
      go false f true k g h = without-last key w ws (suc (count_of key ws)) (omega (arith, count_none ws f)) k
      go false f false k g h = absurd (false≢true (sym f ∙ g))

  -- a test that no word passes which begins with the key
  module _ (test : Bytes → Bool) (n : (w : Bytes) → starts key w ≡ true → test w ≡ false) where
    pub without-any : (ws : Words) → has_key key ws ≡ true → any_of test (without_last key ws) ≡ any_of test ws
    unfolding has_key any_of without_last
    without-any [] e = absurd (false≢true e)
    without-any (w ∷ ws) e = go (has_key key ws) refl (starts key w) refl e (without-any ws)
      where
        go : (d : Bool) → has_key key ws ≡ d → (b : Bool) → starts key w ≡ b → (b || has_key key ws) ≡ true
            → (has_key key ws ≡ true → any_of test (without_last key ws) ≡ any_of test ws)
            → any_of test (cond d (w ∷ without_last key ws) ws) ≡ (test w || any_of test ws)
        go true f b k g h = ap (λ (x : Bool). test w || x) (h f)
        go false f true k g h = sym (rw (n w k))
        go false f false k g h = absurd (false≢true (sym f ∙ g))

-- the same of words that begin with another key
pub without-key : (key other : Bytes) → ((w : Bytes) → starts key w ≡ true → starts other w ≡ false) → (ws : Words) → has_key key ws ≡ true
    → count_of other (without_last key ws) ≡ count_of other ws
unfolding has_key any_of without_last count_of
without-key key other n [] e = absurd (false≢true e)
without-key key other n (w ∷ ws) e = go (has_key key ws) refl (starts key w) refl e (without-key key other n ws)
  where
    go : (d : Bool) → has_key key ws ≡ d → (b : Bool) → starts key w ≡ b → (b || has_key key ws) ≡ true
        → (has_key key ws ≡ true → count_of other (without_last key ws) ≡ count_of other ws)
        → count_of other (cond d (w ∷ without_last key ws) ws) ≡ cond (starts other w) (suc (count_of other ws)) (count_of other ws)
    go true f b k g h = ap (λ (x : ℕ). cond (starts other w) (suc x) x) (h f)
    go false f true k g h = sym (rw (n w k))
    go false f false k g h = absurd (false≢true (sym f ∙ g))

pub a-no-rf : (w : Bytes) → starts (ascii "a=") w ≡ true → starts (ascii "rf=") w ≡ false
unfolding ascii
a-no-rf w e = starts_other 97 114 _ _ w e refl

-- does a step's ellipsoid have to be composed?
unfoldable pub composes : Words → Bool
composes ws = not (has_key (ascii "ellps=") ws) && (has_key (ascii "a=") ws && has_key (ascii "rf=") ws)

module _ (ws : Words) where
  pub tidied-alone : composes (exchanged ws) ≡ false → tidied ws ≡ tidy_rest 0 0 true [] (exchanged ws)
  unfolding tidied ellipsoid composes tidy_rest scaling
  tidied-alone e =
      rw (e, without-none (ascii "a=") (exchanged ws) 0 refl, without-none (ascii "rf=") (exchanged ws) 0 refl, append-nil (exchanged ws))

  module _ (a : has_key (ascii "a=") (exchanged ws) ≡ true) (r : has_key (ascii "rf=") (exchanged ws) ≡ true) where
    rf-left : has_key (ascii "rf=") (without_last (ascii "a=") (exchanged ws)) ≡ true
    rf-left =
        has-count (ascii "rf=") (without_last (ascii "a=") (exchanged ws)) ∙ ap (ltb 0) (without-key (ascii "a=") (ascii "rf=") a-no-rf (exchanged ws) a)
        ∙ sym (has-count (ascii "rf=") (exchanged ws)) ∙ r

    pub tidied-composed : has_key (ascii "ellps=") (exchanged ws) ≡ false
        → tidied ws ≡ tidy_rest (count_of (ascii "a=") (exchanged ws)) (count_of (ascii "rf=") (exchanged ws)) true
        (ellps_of (drop 2 (last_of (ascii "a=") (exchanged ws))) (drop 3 (last_of (ascii "rf=") (exchanged ws))) ∷ []) (exchanged ws)
    unfolding tidied ellipsoid composed tidy_rest scaling ellps_of
    tidied-composed e =
        rw (
          e,
          a,
          r,
          without-count (ascii "a=") (exchanged ws) a,
          ← without-key (ascii "a=") (ascii "rf=") a-no-rf (exchanged ws) a,
          without-count (ascii "rf=") (without_last (ascii "a=") (exchanged ws)) rf-left,
        )
