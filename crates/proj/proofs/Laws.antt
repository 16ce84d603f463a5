-- `translate` on its way: each text has room, a text that is no PROJ text is known, and each return is the one that the promise names.
use Rattle.rules.specs.declared.Refusal.{Refusal}
use Rattle.std.specs.Prelude.{Result, Ok}
use mathlib.Core.Path.{◌≡◌, refl, sym, ap, ◌∙◌, subst}
use mathlib.Core.Bool.{Bool, true, false, cond, not, ◌&&◌, ◌||◌, false≢true}
use mathlib.Core.List.{[], ◌∷◌, ◌++◌}
use Prim.Native.Nat.{ℕ, suc, ◌+◌, ◌*◌, ◌≤◌, ◌<◌}
use native.Mathlib.Omega.{arith}
use borrow.Author.Tests.{lt-ltb, le-ltb, lt-leb, le-leb, ltb-true, ltb-false}
use lib.ListN.{length, take, drop}
use lib.Dec.{eqb, ltb, leb}
use Rattle.rules.specs.Text.Ascii.{ascii, is}
use Rattle.rules.specs.Text.Lists.{any_of}
use Rattle.rules.specs.Text.Bytes.{Bytes, Steps, starts, contains, words, in_domain}
use Rattle.rules.specs.Text.Refusal.{answers, Writes, Lends, refusal}
use Rattle.rules.specs.Proj.Words.{proj_steps}
use Rattle.rules.specs.Proj.Translate.{Pipeline, pipeline, translation, translated, translate}
use Rattle.laws_text.specs.Entry.{lends-refusal, lends-no-room, lends-text, lends-so}
use Rattle.laws_text.specs.Sizes.{proj-length}
use Rattle.text.specs.Wrote.{Holds}
use Rattle.text.specs.Places.{ahead}
use Rattle.text.proofs.Wrote.{wrote-front}
use Rattle.proj_words.specs.Clean.{cleaned}
use Rattle.laws_text.specs.Plain.{words-plain}
use Rattle.laws_proj.specs.Step.{Global}
use Rattle.laws_proj.specs.Ordering.{whole, whole_length}
use Rattle.laws_proj.specs.Cutting.{steps-plain, translation-is}
use Rattle.proj_words.specs.Cuts.{steps_in, steps_from}
use Rattle.proj_steps.specs.Plans.{said}
use Rattle.proj.specs.Places.{texts_of, Ready, Laid, writes, backs, total_of, IsWriting}
use Rattle.proj.specs.Flaws.{IsFlaw, IsPipe}
use Rattle.proj.specs.declared.Flaw.{Flaw}
use Rattle.proj_steps.specs.declared.pipe.Pipe.{Pipe}
use Rattle.proj.specs.declared.layout.Pass.{Pass}
use Rattle.std.proofs.Common.{Option, Some, None}

-- ---- the steps of a cleaned text

module _ (n : Bytes) {p : Pipeline} {f : Option Flaw} (m : IsFlaw p (steps_from n 0) f) where
  pub steps-flaw : {x : Flaw} {out : Bytes} → f ≡ Some x → Lends (translated p (steps_from n 0)) out (refusal x.number x.place) out
  unfolding translated
  steps-flaw e = lends-refusal (m.says (answers (translation p (steps_from n 0))) ∙ rw e)

  module _ (z : f ≡ None) (k : Global p) where
    reply-is : translated p (steps_from n 0) ≡ answers (whole p.inverted (texts_of p (steps_from n 0)))
    unfolding translated texts_of steps_from steps_in
    reply-is =
        m.says (answers (translation p (steps_from n 0))) ∙ rw z
        (ap answers (translation-is p k (steps_from n 0) (steps-plain (ltb 0 0) (words (drop 0 n)) (words-plain (drop 0 n)))))

    module _ {total : ℕ} {out out₁ : Bytes} (c : Laid false (whole false (texts_of p (steps_from n 0))) out total out₁) where
      long-is : total ≡ length (whole p.inverted (texts_of p (steps_from n 0)))
      long-is = c.count ∙ sym (whole_length p.inverted (texts_of p (steps_from n 0)))

      pub steps-no-room : length out₁ < total → Lends (translated p (steps_from n 0)) out (refusal 7 0) out₁
      steps-no-room l =
          subst (λ (d : Bytes). Lends (translated p (steps_from n 0)) out (refusal 7 0) d) (sym c.done)
          (lends-no-room reply-is (omega (arith, long-is, ap length c.done)))

      module _ (l : total ≤ length out₁) {w : Pass} (x : IsWriting p.inverted total w) where
        pub steps-ready : Ready (writes w) (total_of w) (whole (backs w) (texts_of p (steps_from n 0))) out₁
        steps-ready = rw (x.writes, x.backs, x.totals) (record { exact = λ e. long-is; inside = l })

        pub steps-done : {r : ℕ} {out₂ : Bytes} → Laid (writes w) (whole (backs w) (texts_of p (steps_from n 0))) out₁ r out₂
            → Lends (translated p (steps_from n 0)) out (Ok r) out₂
        steps-done {r} {out₂} y =
            let v : Laid true (whole p.inverted (texts_of p (steps_from n 0))) out₁ r out₂ = rw (x.writes, x.backs) at y in
            lends-text reply-is (omega (arith, long-is, ap length c.done)) v.count
            (v.done ∙ ap (λ (d : Bytes). whole p.inverted (texts_of p (steps_from n 0)) ++ drop r d) c.done)

pub count-ready : {text out : Bytes} → Ready false 0 text out
count-ready = record { exact = λ e. absurd (false≢true e); inside = omega arith }

-- ---- which text it is

ltb-suc : (a b : ℕ) → ltb a b ≡ ltb (suc a) (suc b)
ltb-suc a b = go (ltb a b) refl
  where
    go : (c : Bool) → ltb a b ≡ c → c ≡ ltb (suc a) (suc b)
    go true e = sym (lt-ltb (suc a) (suc b) (omega (arith, ltb-true a b e)))
    go false e = sym (le-ltb (suc a) (suc b) (omega (arith, ltb-false a b e)))

contains-ahead : (p : ℕ) (old t : Bytes) → contains (p ∷ old) t ≡ ltb (ahead (p ∷ old) t) (length t)
unfolding contains ahead
contains-ahead p old [] = unfold starts in refl
contains-ahead p old (x ∷ t) = go (starts (p ∷ old) (x ∷ t)) (contains-ahead p old t)
  where
    go : (b : Bool) → contains (p ∷ old) t ≡ ltb (ahead (p ∷ old) t) (length t) → (b || contains (p ∷ old) t) ≡ ltb (cond b 0 (suc (ahead (p ∷ old) t))) (suc (length t))
    go true h = sym (lt-ltb 0 (suc (length t)) (omega arith))
    go false h = h ∙ ltb-suc (ahead (p ∷ old) t) (length t)

bar-contains : (t : Bytes) → any_of (is "|") t ≡ contains (124 ∷ []) t
unfolding any_of contains starts
bar-contains [] = refl
bar-contains (x ∷ t) = go (eqb x 124) (bar-contains t)
  where
    go : (b : Bool) → any_of (is "|") t ≡ contains (124 ∷ []) t → (b || any_of (is "|") t) ≡ ((b && true) || contains (124 ∷ []) t)
    go true h = refl
    go false h = h

module _ (t : Bytes) where
  pub other-bar : {i : ℕ} → i ≡ 0 + ahead (124 ∷ []) (drop 0 t) → i < length t → true ≡ (any_of (is "|") t || not (contains (ascii "proj") t))
  other-bar {i} e h =
      let b : any_of (is "|") t ≡ true = bar-contains t ∙ contains-ahead 124 [] t ∙ lt-ltb (ahead (124 ∷ []) t) (length t) (omega arith) in
      sym (rw b)

  no-bar : {i : ℕ} → i ≡ 0 + ahead (124 ∷ []) (drop 0 t) → length t ≤ i → any_of (is "|") t ≡ false
  no-bar {i} e h = bar-contains t ∙ contains-ahead 124 [] t ∙ le-ltb (ahead (124 ∷ []) t) (length t) (omega arith)

  pub other-proj : {i j : ℕ} → i ≡ 0 + ahead (124 ∷ []) (drop 0 t) → length t ≤ i → j ≡ 0 + ahead (112 ∷ 114 ∷ 111 ∷ 106 ∷ []) (drop 0 t)
      → leb (length t) j ≡ (any_of (is "|") t || not (contains (ascii "proj") t))
  unfolding ascii
  other-proj {i} {j} e h f = sym (rw (no-bar e h, contains-ahead 112 (114 ∷ 111 ∷ 106 ∷ []) t) (turned (ahead (112 ∷ 114 ∷ 111 ∷ 106 ∷ []) t) f))
    where
      turned : (a : ℕ) → j ≡ 0 + a → not (ltb a (length t)) ≡ leb (length t) j
      turned a g = go (ltb a (length t)) refl
        where
          go : (c : Bool) → ltb a (length t) ≡ c → not c ≡ leb (length t) j
          go true x = sym (lt-leb (length t) j (omega (arith, ltb-true a (length t) x)))
          go false x = sym (le-leb (length t) j (omega (arith, ltb-false a (length t) x)))

-- ---- the call

steps-are : (t : Bytes) → proj_steps t ≡ steps_from (cleaned t) 0
unfolding proj_steps steps_from steps_in cleaned
steps-are t = refl

translate-other : (t : Bytes) → (any_of (is "|") t || not (contains (ascii "proj") t)) ≡ true → translate t ≡ answers t
unfolding translate
translate-other t e = rw e

translate-proj : (t : Bytes) → (any_of (is "|") t || not (contains (ascii "proj") t)) ≡ false → translate t ≡ translated (pipeline (steps_from (cleaned t) 0)) (steps_from (cleaned t) 0)
unfolding translate
translate-proj t e = rw e (ap (λ (ss : Steps). translated (pipeline ss) ss) (steps-are t))

pub unchanged-so : {t out out' : Bytes} {r : Result ℕ Refusal} → length t ≤ 4096 → in_domain t ≡ true
    → (any_of (is "|") t || not (contains (ascii "proj") t)) ≡ true → Lends (answers t) out r out' → Writes translate t out r out'
unchanged-so {t} h d e w = lends-so h d (translate-other t e) w

module _ (t : Bytes) {a : Bytes} {n : ℕ} (w : Holds (cleaned t) n a) where
  pub cleaned-small : length t ≤ 4096 → length (take n a) ≤ 40960
  unfolding cleaned
  cleaned-small h = rw (wrote-front w) (omega (arith, proj-length t))

  pub pipe-room : {x y : ℕ} → 10 * length t < x → y ≡ x → length (take n a) ≤ y
  unfolding cleaned
  pipe-room h e = rw (wrote-front w) (omega (arith, proj-length t))

  pub globals-small : {p : Pipe} → length t ≤ 4096 → IsPipe (length (take n a)) (steps_from (take n a) 0) p → length p.globals.now ≤ 40960
  globals-small h i = omega (arith, cleaned-small h, i.few)

  pub translate-so : {p : Pipe} {out out' : Bytes} {r : Result ℕ Refusal} → length t ≤ 4096 → in_domain t ≡ true → (any_of (is "|") t || not (contains (ascii "proj") t)) ≡ false
      → IsPipe (length (take n a)) (steps_from (take n a) 0) p
      → Lends (translated (said p) (steps_from (take n a) 0)) out r out' → Writes translate t out r out'
  translate-so {p} {out} {out'} {r} h d e i l =
      let z : take n a ≡ cleaned t = wrote-front w in
      lends-so h d
      (translate-proj t e ∙ ap (λ (s : Bytes). translated (pipeline (steps_from s 0)) (steps_from s 0)) (sym z) ∙ ap (λ (q : Pipeline). translated q (steps_from (take n a) 0)) i.is) l
