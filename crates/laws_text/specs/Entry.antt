-- A promise, return by return: these serve every call that reads a text and writes into lent storage.
use Rattle.rules.specs.declared.Refusal.{Refusal}
use Rattle.std.proofs.Math.Path.{◌≡◌, refl}
use Rattle.std.proofs.Common.{sym, ap, ◌∙◌, arith, length-append, take_at, drop_at}
use Rattle.std.specs.Prelude.{ℕ, ◌≤◌, ◌<◌, Bool, not, List, ◌++◌, length, take, drop, Result, Ok, Err, ⊤}
use Rattle.std.proofs.Math.Bool.{true, false, cond}
use borrow.Author.Tests.{lt-ltb, le-ltb, ltb-false, ltb-true}
use Rattle.std.proofs.Math.Dec.{ltb}
use Rattle.rules.specs.Text.Bytes.{Bytes, in_domain}
use Rattle.rules.specs.Text.Refusal.{Reply, answers, refuses, refuses12, tested, lent, outcome, Promised, written, Writes, Lends, refusal, told as says}
use Rattle.laws_lists.specs.Tests.{never}

-- ---- for the call itself

module _ {A R : Type 0} {in_words : Reply ℕ → R} {own : Bytes → Reply (List A)} {t : Bytes} {out : List A} where
  pub too-long : 4096 < length t → Promised in_words own t out (in_words (refuses 1 0)) out
  unfolding outcome lent tested
  too-long h = record { exactly = rw (lt-ltb 4096 (length t) h) }

  pub not-text : length t ≤ 4096 → in_domain t ≡ false → Promised in_words own t out (in_words (refuses 2 0)) out
  unfolding outcome lent tested
  not-text h d = record { exactly = rw (le-ltb 4096 (length t) h, d) }

  pub refused : {number place : ℕ} → length t ≤ 4096 → in_domain t ≡ true → own t ≡ refuses number place
      → Promised in_words own t out (in_words (refuses number place)) out
  unfolding outcome lent tested
  refused h d o = record { exactly = rw (le-ltb 4096 (length t) h, d, o) }

  pub no_room : {xs : List A} → length t ≤ 4096 → in_domain t ≡ true → own t ≡ answers xs → length out < length xs
      → Promised in_words own t out (in_words (refuses 7 0)) out
  unfolding outcome lent tested
  no_room {xs} h d o l = record { exactly = rw (le-ltb 4096 (length t) h, d, o, lt-ltb (length out) (length xs) l) }

  pub answered : {xs out' : List A} {r : ℕ} → length t ≤ 4096 → in_domain t ≡ true → own t ≡ answers xs → length xs ≤ length out
      → r ≡ length xs → out' ≡ xs ++ drop r out → Promised in_words own t out (in_words (answers r)) out'
  unfolding outcome lent tested
  answered {xs} h d o l c w = record { exactly = rw (w, c, le-ltb 4096 (length t) h, d, o, le-ltb (length out) (length xs) l) }

-- a promise, told in other words
abbrev told : {A R S : Type 0} → (R → S) → R × List A → S × List A
told f x = (f x.0, x.1)

told-cond : {A R S : Type 0} (f : R → S) (b : Bool) (x y : R × List A) → cond b (told f x) (told f y) ≡ told f (cond b x y)
told-cond f true x y = refl
told-cond f false x y = refl

lent-told : {A R S : Type 0} (in_words : Reply ℕ → R) (f : R → S) (reply : Reply (List A)) (storage : List A)
    → lent (λ (x : Reply ℕ). f (in_words x)) reply storage ≡ told f (lent in_words reply storage)
unfolding lent
lent-told in_words f (refuses number place) storage = refl
lent-told in_words f (refuses12 place offset) storage = refl
lent-told in_words f (answers xs) storage =
    told-cond f (ltb (length storage) (length xs)) (in_words (refuses 7 0), storage) (in_words (answers (length xs)), xs ++ drop (length xs) storage)

pub in-other-words : {A R S : Type 0} {in_words : Reply ℕ → R} (f : R → S) {own : Bytes → Reply (List A)} {t : Bytes} {storage storage' : List A} {r : R}
    → Promised in_words own t storage r storage' → Promised (λ (x : Reply ℕ). f (in_words x)) own t storage (f r) storage'
unfolding outcome
in-other-words {A} {R} {S} {in_words} f {own} {t} {storage} {storage'} {r} p =
    record { exactly = ap (told f) p.exactly ∙ sym (lent-told in_words f (tested own t) storage) }

-- ---- a reply brought into the lent buffer: for what a text call does once the text is known to be short and in the domain

module _ {reply : Reply Bytes} {out : Bytes} where
  pub lends-refusal : {number place : ℕ} → reply ≡ refuses number place → Lends reply out (refusal number place) out
  unfolding lent written
  lends-refusal e = record { exactly = rw e }

  pub lends-no-room : {text : Bytes} → reply ≡ answers text → length out < length text → Lends reply out (refusal 7 0) out
  unfolding lent written
  lends-no-room {text} e l = record { exactly = rw (e, lt-ltb (length out) (length text) l) }

  pub lends-text : {text out' : Bytes} {r : ℕ} → reply ≡ answers text → length text ≤ length out → r ≡ length text → out' ≡ text ++ drop r out
      → Lends reply out (Ok r) out'
  unfolding lent written
  lends-text {text} e l c w = record { exactly = rw (w, c, e, le-ltb (length out) (length text) l) }

pub lends-so : {own : Bytes → Reply Bytes} {t out out' : Bytes} {r : Result ℕ Refusal} {reply : Reply Bytes} → length t ≤ 4096 → in_domain t ≡ true → own t ≡ reply
    → Lends reply out r out' → Writes own t out r out'
unfolding outcome tested
lends-so {own} {t} {out} h d e w = record { exactly = w.exactly ∙ sym (rw (le-ltb 4096 (length t) h, d, e)) }

-- ---- "Text calls test 1, 2, then their own."

-- the first of the two that a text is refused with, if it is
unfoldable pub both_tests : Bytes → Result ⊤ Refusal
both_tests t = cond (ltb 4096 (length t)) (refusal 1 0) (cond (not (in_domain t)) (refusal 2 0) (Ok tt))

pub record Tested (t : Bytes) (r : Result ⊤ Refusal) : Type 0 where
  pub exactly : r ≡ both_tests t

-- a text that is neither too long nor outside the domain
record Passed (t : Bytes) : Type 0 where
  short : length t ≤ 4096
  domain : in_domain t ≡ true

module _ {t : Bytes} {r : Result ⊤ Refusal} (tests : Tested t r) where
  passed : {u : ⊤} → r ≡ Ok u → Passed t
  unfolding both_tests
  passed {u} z = go (ltb 4096 (length t)) refl (in_domain t) refl (sym z ∙ tests.exactly)
    where
      go : (long : Bool) → ltb 4096 (length t) ≡ long → (fine : Bool) → in_domain t ≡ fine
          → ◌≡◌ {A = Result ⊤ Refusal} (Ok u) (cond long (refusal 1 0) (cond (not fine) (refusal 2 0) (Ok tt))) → Passed t
      go true l fine d f = absurd (never (cc f))
      go false l true d f = record { short = ltb-false 4096 (length t) l; domain = d }
      go false l false d f = absurd (never (cc f))

  pub passed-short : {u : ⊤} → r ≡ Ok u → length t ≤ 4096
  passed-short z = (passed z).short

  pub passed-domain : {u : ⊤} → r ≡ Ok u → in_domain t ≡ true
  passed-domain z = (passed z).domain

  pub writes-first : {own : Bytes → Reply Bytes} {out : Bytes} {e : Refusal} → r ≡ Err e → Writes own t out (Err e) out
  unfolding both_tests written
  writes-first {own} {out} {e} n = go (ltb 4096 (length t)) refl (in_domain t) refl (sym n ∙ tests.exactly)
    where
      go : (long : Bool) → ltb 4096 (length t) ≡ long → (fine : Bool) → in_domain t ≡ fine
          → ◌≡◌ {A = Result ⊤ Refusal} (Err e) (cond long (refusal 1 0) (cond (not fine) (refusal 2 0) (Ok tt))) → Writes own t out (Err e) out
      go true l fine d f = let g : e ≡ says 1 0 = cc f in rw g (too-long (ltb-true 4096 (length t) l))
      go false l true d f = absurd (never (cc f))
      go false l false d f = let g : e ≡ says 2 0 = cc f in rw g (not-text (ltb-false 4096 (length t) l) d)

-- ---- for the callers of a text call

-- where the call answers, the answer stands at the buffer's front, and the rest is as it was
pub record Answers (own : Bytes → Reply Bytes) (t out : Bytes) (r : ℕ) (out' : Bytes) : Type 0 where
  pub short : length t ≤ 4096
  pub domain : in_domain t ≡ true
  pub answer : own t ≡ answers (take r out')
  pub fits : r ≤ length out'
  pub rest : drop r out' ≡ drop r out

-- which tests were passed, where each stands for itself
record Picked (long text? : Bool) (reply : Reply Bytes) (out : Bytes) (r : ℕ) (out' : Bytes) : Type 0 where
  short : long ≡ false
  domain : text? ≡ true
  text : Bytes
  reply-is : reply ≡ answers text
  room : length text ≤ length out
  count : r ≡ length text
  whole : out' ≡ text ++ drop (length text) out

abbrev same? : Result ℕ Refusal × Bytes → Result ℕ Refusal × Bytes → Type 0
same? x y = x ≡ y

picked : (long text? : Bool) (reply : Reply Bytes) (out : Bytes) (r : ℕ) (out' : Bytes)
    → same? (Ok r, out') (lent written (cond long (refuses 1 0) (cond (not text?) (refuses 2 0) reply)) out)
    → Picked long text? reply out r out'
unfolding lent written
picked true text? reply out r out' e = absurd (never (cc (ap (λ (x : Result ℕ Refusal × Bytes). x.0) e)))
picked false false reply out r out' e = absurd (never (cc (ap (λ (x : Result ℕ Refusal × Bytes). x.0) e)))
picked false true (refuses number place) out r out' e =
    absurd (never (cc (ap (λ (x : Result ℕ Refusal × Bytes). x.0) e)))
picked false true (refuses12 place offset) out r out' e =
    absurd (never (cc (ap (λ (x : Result ℕ Refusal × Bytes). x.0) e)))
picked false true (answers text) out r out' e = go (ltb (length out) (length text)) refl e
  where
    go : (b : Bool) → ltb (length out) (length text) ≡ b
        → same? (Ok r, out') (cond b (refusal 7 0, out) (Ok (length text), text ++ drop (length text) out))
        → Picked false true (answers text) out r out'
    go true l f = absurd (never (cc (ap (λ (x : Result ℕ Refusal × Bytes). x.0) f)))
    go false l f = record {
      short = refl;
      domain = refl;
      text = text;
      reply-is = refl;
      room = ltb-false (length out) (length text) l;
      count = cc (ap (λ (x : Result ℕ Refusal × Bytes). x.0) f);
      whole = ap (λ (x : Result ℕ Refusal × Bytes). x.1) f;
    }

picked-answers : (own : Bytes → Reply Bytes) (t out : Bytes) (r : ℕ) (out' : Bytes)
    → Picked (ltb 4096 (length t)) (in_domain t) (own t) out r out' → Answers own t out r out'
picked-answers own t out r out' q =
    let f : take r out' ≡ q.text = rw q.whole (take_at q.text (drop (length q.text) out) r (sym q.count)) in
    record {
      short = ltb-false 4096 (length t) q.short;
      domain = q.domain;
      answer = rw f q.reply-is;
      fits = rw (q.whole, length-append) (omega (arith, q.count));
      rest = rw (q.whole, q.count) (drop_at q.text (drop (length q.text) out) (length q.text) refl);
    }

pub answers-so : {own : Bytes → Reply Bytes} {t out : Bytes} {r : ℕ} {out' : Bytes}
    → Writes own t out (Ok r) out' → Answers own t out r out'
unfolding outcome tested
answers-so {own} {t} {out} {r} {out'} p =
    picked-answers own t out r out' (picked (ltb 4096 (length t)) (in_domain t) (own t) out r out' p.exactly)
