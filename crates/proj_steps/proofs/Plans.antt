-- What comes of a step's words: which of them are left out or changed, and whether the ellipsoid is composed.
use Rattle.std.proofs.Common.{◌≡◌, refl, sym, ap, ◌∙◌, Bool, true, false, not, [], ◌∷◌, ◌++◌, ℕ, ◌-◌, ◌<◌, length, drop, Option, None, Some, arith, Bor}
use mathlib.Core.Bool.{xor, beq, and-false}
use native.Mathlib.Decide.{dec_lt}
use borrow.Author.Tests.{lt-ltb, le-ltb}
use Rattle.rules.specs.Text.Ascii.{ascii}
use Rattle.rules.specs.Text.Bytes.{Bytes, Words, starts}
use Rattle.rules.specs.Proj.Words.{exchanged, has_key, last_of, tidied}
use Rattle.laws_proj.specs.Tidying.{count_of, composes, has-count, last-from, tidy_rest, tidied-alone, tidied-composed}
use Rattle.laws_proj.specs.Tidying.{rest-a-last, rest-a-more, rest-a-none, rest-rf-last, rest-rf-more, rest-rf-none, rest-scale, rest-scaled, rest_plain}
use Rattle.proj_words.specs.Facts.{IsKey}
use Rattle.proj_words.specs.declared.exchange.Key.{Key}
use Rattle.proj_steps.specs.Plans.{FoundEllipsoid, last_words, ahead_of, kept, IsCounted, rest_of, IsPassed}
use Rattle.proj_steps.specs.declared.element.Element.{Element}
use Rattle.proj_steps.specs.declared.element.Element.TheVariants.{Plain, Scale}
use Rattle.proj_steps.specs.declared.element.Ellipsoid.{Ellipsoid}
use Rattle.proj_steps.specs.declared.step.Ahead.{Ahead}

-- ---- a word

pub counted-last : {n m : ℕ} {w : Bytes} → n ≡ 1 → m ≡ n - 1 → IsCounted n w None m
counted-last e h = record { less = h; last = λ _. refl; other = λ f. absurd (f e) }

pub counted-other : {n m : ℕ} {w : Bor Bytes} → (n ≡ 1 → ⊥) → m ≡ n - 1 → IsCounted n w.now (Some (Plain w)) m
counted-other f h = record { less = h; last = λ e. absurd (f e); other = λ _. refl }

-- the so-manieth is left out, and the others stay: of what follows, the three cases are these
counting : {n m : ℕ} {w : Bytes} {r : Option Element} (f : ℕ → Words) (g : Words) → IsCounted n w r m
    → (n ≡ 1 → g ≡ f 0) → (1 < n → g ≡ w ∷ f (n - 1)) → (n ≡ 0 → g ≡ w ∷ f n) → g ≡ kept r ++ f m
counting {n} {m} {w} {r} f g k a b d = elim (dec_lt 1 n) [ yes h ↦ more h | no h ↦ elim (dec_lt 0 n) [ yes j ↦ one (omega arith) | no j ↦ none (omega arith) ] ]
  where
    one : n ≡ 1 → g ≡ kept r ++ f m
    one e = let z : m ≡ 0 = omega (arith, k.less) in rw (k.last e, z) (a e)

    more : 1 < n → g ≡ kept r ++ f m
    more h = let o : (n ≡ 1 → ⊥) = λ e. omega arith in rw (k.other o, k.less) (b h)

    none : n ≡ 0 → g ≡ kept r ++ f m
    none e = let o : (n ≡ 1 → ⊥) = λ z. omega arith in let z : m ≡ n = omega (arith, k.less) in rw (k.other o, z) (d e)

module _ {w : Bytes} {h : Ahead} where
  pub passed-a : starts (ascii "a=") w ≡ true → {r : Option Element} {m : ℕ} → IsCounted h.a w r m → IsPassed w h r (record h { a = m })
  passed-a e k = record {
    rest = λ last ws.
        counting (λ n. tidy_rest n h.rf h.scale last ws) (rest_of h last (w ∷ ws)) k (rest-a-last h.a h.rf h.scale last w ws e)
        (rest-a-more h.a h.rf h.scale last w ws e) (rest-a-none h.a h.rf h.scale last w ws e);
  }

  module _ (n : starts (ascii "a=") w ≡ false) where
    pub passed-rf : starts (ascii "rf=") w ≡ true → {r : Option Element} {m : ℕ} → IsCounted h.rf w r m → IsPassed w h r (record h { rf = m })
    passed-rf e k = record {
      rest = λ last ws.
          counting (λ j. tidy_rest h.a j h.scale last ws) (rest_of h last (w ∷ ws)) k (rest-rf-last h.a h.rf h.scale last w ws n e)
          (rest-rf-more h.a h.rf h.scale last w ws n e) (rest-rf-none h.a h.rf h.scale last w ws n e);
    }

    module _ (m : starts (ascii "rf=") w ≡ false) where
      pub passed-scale : h.scale ≡ true → starts (ascii "k=") w ≡ true → {v : Bor Bytes} → v.now ≡ drop 2 w → IsPassed w h (Some (Scale v)) (record h { scale = false })
      passed-scale z e {v} d = record {
        rest = λ last ws. rest-scale h.a h.rf h.scale last w ws n m e z ∙ ap (λ (t : Bytes). (ascii "k_0=" ++ t) ∷ tidy_rest h.a h.rf false last ws) (sym d);
      }

      pub passed-plain : starts (ascii "k=") w ≡ false → {v : Bor Bytes} → v.now ≡ w → IsPassed w h (Some (Plain v)) h
      passed-plain e {v} d = record { rest = λ last ws. rest_plain h.a h.rf h.scale last w ws n m e ∙ ap (λ (t : Bytes). t ∷ rest_of h last ws) (sym d) }

      pub passed-scaled : h.scale ≡ false → {v : Bor Bytes} → v.now ≡ w → IsPassed w h (Some (Plain v)) h
      passed-scaled z {v} d = record { rest = λ last ws. rest-scaled h.a h.rf h.scale last w ws n m z ∙ ap (λ (t : Bytes). t ∷ rest_of h last ws) (sym d) }

-- ---- the ellipsoid

module _ (ws : Words) where
  key-no : (key : Bytes) → count_of key ws ≡ 0 → has_key key ws ≡ false
  key-no key z = has-count key ws ∙ le-ltb 0 (count_of key ws) (omega arith)

  key-yes : (key : Bytes) {r : Key} → IsKey ws key r → has_key key ws ≡ true
  key-yes key k = has-count key ws ∙ lt-ltb 0 (count_of key ws) (omega (arith, k.some, k.count))

  pub without-a : count_of (ascii "a=") ws ≡ 0 → composes ws ≡ false
  unfolding composes
  without-a z = rw (key-no (ascii "a=") z) (and-false (not (has_key (ascii "ellps=") ws)))

  pub without-rf : count_of (ascii "rf=") ws ≡ 0 → composes ws ≡ false
  unfolding composes
  without-rf z = rw (key-no (ascii "rf=") z, and-false (has_key (ascii "a=") ws)) (and-false (not (has_key (ascii "ellps=") ws)))

  pub with-name : {r : Key} → IsKey ws (ascii "ellps=") r → composes ws ≡ false
  unfolding composes
  with-name k = rw (key-yes (ascii "ellps=") k)

  -- the value of the last
  value-is : (key : Bytes) {r : Key} → IsKey ws key r → r.value.now ≡ drop (length key) (last_of key ws)
  value-is key k = k.value ∙ ap (drop (length key)) (last-from key ws [] (key-yes key k))

-- the tidied words, as they will be told
pub tidied-rest : (ws : Words) (e : Option Ellipsoid) → FoundEllipsoid (exchanged ws) e → tidied ws ≡ rest_of (ahead_of e) (last_words e) (exchanged ws)
unfolding ascii
tidied-rest ws None f = tidied-alone ws f
tidied-rest ws (Some e) f =
    tidied-composed ws (key-yes (exchanged ws) (ascii "a=") f.a) (key-yes (exchanged ws) (ascii "rf=") f.rf) (key-no (exchanged ws) (ascii "ellps=") f.unnamed)
    ∙ rw (← f.a.count, ← f.rf.count, ← value-is (exchanged ws) (ascii "a=") f.a, ← value-is (exchanged ws) (ascii "rf=") f.rf)

-- ---- one of two

pub differ : (a b : Bool) → not (beq a b) ≡ xor a b
unfolding xor
differ true true = refl
differ true false = refl
differ false true = refl
differ false false = refl
