-- The exports: behind each answer in plain records there is one of the call that is exported, with the same storage afterwards. So whatever is
-- promised of the call holds of the export; and number 0 is an answer, a pass, or a run that is done.
use Rattle.rules.specs.declared.Refusal.{Refusal}
use Rattle.rules.specs.declared.Finished.{Finished}
use Rattle.std.specs.Prelude.{◌≡◌, refl, ℕ, suc, true, false, List, [], ◌∷◌, eqb, Float, Option, None, Some, Result, Ok}
use Rattle.std.proofs.Common.{sym, ap, ◌∙◌, subst, arith}
use Rattle.std.proofs.lemmas.Bool.{false≢true}
use Rattle.rules.specs.Text.Lists.{any_of}
use Rattle.rules.specs.Text.Bytes.{Bytes}
use Rattle.rules.specs.Text.Refusal.{Reply, outcome, Promised, written, prepared, Writes, refusal}
use Rattle.rules.specs.Text.Normal.{normalise}
use Rattle.rules.specs.Text.Split.{split}
use Rattle.rules.specs.Text.Parameters.{parameters}
use Rattle.rules.specs.Proj.Translate.{translate}
use Rattle.rules.specs.Text.Reader.{next, define}
use Rattle.rules.specs.Pipeline.Prepare.{prepare, prepare_as, Prepares, PreparesAs}
use Rattle.rules.specs.Pipeline.Run.{Outcome, runs, Runs, done}
use Rattle.rules.specs.Pipeline.Check.{check}
use Rattle.rules.specs.Face.Plain.{plain_written, plain_found, plain_prepared, record_count, direction_of, plain_verdict, plain_check, PlainChecks, plain_ran, PlainOutcome, plain_outcome, PlainRuns}
use Rattle.rules.specs.Face.Demands.{OneOf, Ends, RunEnds, ExportsText}
use Rattle.rules.specs.declared.Reading.{Reading}
use Rattle.rules.specs.declared.Mode.{Mode}
use Rattle.rules.specs.declared.Step.{Step}
use Rattle.rules.specs.declared.Found.{Found}
use Rattle.rules.specs.declared.Answer.{Answer}
use Rattle.rules.specs.declared.Part.{Part}
use Rattle.rules.specs.declared.Checked.{Checked}
use Rattle.rules.specs.declared.Done.{Done}
use Rattle.rules.specs.declared.Verdict.{Verdict}
use Rattle.rules.specs.declared.Verdict.TheVariants as verdict-is
use Rattle.laws_text.specs.Entry.{in-other-words}
use Rattle.laws_text.specs.Once.{once}
use Rattle.laws_steps.specs.Foretold.{check-refused}
use Rattle.laws_steps.specs.Runs.{used}
use Rattle.laws_steps.specs.Ending.{normalise-ends, definition-ends, split-ends, parameters-ends, translate-ends, prepare-ends, prepare-as-ends, run_ends}

behind : {A R S : Type 0} (in_words : Reply ℕ → R) (f : R → S) (own : Bytes → Reply (List A)) (text : Bytes) (storage : List A) {r : S} {storage' : List A}
    → Promised (λ (x : Reply ℕ). f (in_words x)) own text storage r storage' → (w : R) × Promised in_words own text storage w storage' × (r ≡ f w)
behind {A} {R} in_words f own text storage p =
    let o = outcome in_words own text storage in
    let q : Promised in_words own text storage o.0 o.1 = record { exactly = refl } in
    let e = once p (in-other-words f q) in
    (o.0, subst (λ (s : List A). Promised in_words own text storage o.0 s) (sym e.1) q, e.0)

no : (k : ℕ) → 0 ≡ suc k → ⊥
no k z = omega arith

-- no refusal has number 0
not-0 : (numbers : List ℕ) {number : ℕ} → any_of (eqb 0) numbers ≡ false → OneOf numbers number → number ≡ 0 → ⊥
not-0 numbers none h z = false≢true (sym none ∙ subst (λ (k : ℕ). any_of (eqb k) numbers ≡ true) z h)

-- ---- the text calls, and preparing: what is said of an answer in plain words is its length, and of a refusal its number

module _ {A R : Type 0} (in_words : Reply ℕ → R) (plain : R → Answer) {answer : ℕ → R} {refusal : ℕ → ℕ → ℕ → R}
    (says-length : (n : ℕ) → (plain (answer n)).length ≡ n) (says-number : (number place offset : ℕ) → (plain (refusal number place offset)).number ≡ number) where
  is-answer : {numbers : List ℕ} {storage : List A} {w : R} {storage' : List A} → any_of (eqb 0) numbers ≡ false
      → Ends answer refusal numbers storage w storage' → (plain w).number ≡ 0 → w ≡ answer (plain w).length
  is-answer none (Ends.answers n e fits same past) z = e ∙ ap answer (sym (ap (λ (x : R). (plain x).length) e ∙ says-length n))
  is-answer {numbers} none (Ends.refuses number place offset e h same) z = absurd (not-0 numbers none h (sym (ap (λ (x : R). (plain x).number) e ∙ says-number number place offset) ∙ z))

  behind-0 : (own : Bytes → Reply (List A)) (numbers : List ℕ) (none : any_of (eqb 0) numbers ≡ false) (text : Bytes) (storage : List A) (r : Answer) (storage' : List A)
      → ((w : R) → Promised in_words own text storage w storage' → Ends answer refusal numbers storage w storage')
      → Promised (λ (x : Reply ℕ). plain (in_words x)) own text storage r storage'
      → (w : R) × Promised in_words own text storage w storage' × (r ≡ plain w) × (r.number ≡ 0 → w ≡ answer r.length)
  behind-0 own numbers none text storage r storage' ends p =
      let b = behind in_words plain own text storage p in
      (b.0, b.1, b.2, λ z. is-answer none (ends b.0 b.1) (sym (ap (λ (x : Answer). x.number) b.2) ∙ z) ∙ ap (λ (x : Answer). answer x.length) (sym b.2))

behind-text : (own : Bytes → Reply Bytes) (numbers : List ℕ) (none : any_of (eqb 0) numbers ≡ false)
    → ((text out : Bytes) (w : Result ℕ Refusal) (out' : Bytes) → Writes own text out w out' → Ends Ok (λ number place offset. refusal number place) numbers out w out')
    → ExportsText own
unfolding plain_written
behind-text own numbers none ends text out r out' p =
    behind-0 written plain_written (λ n. refl) (λ number place offset. refl) own numbers none text out r out' (λ w h. ends text out w out' h) p

pub behind-normalise : ExportsText normalise
unfolding any_of
behind-normalise = behind-text normalise _ refl (λ text out w out' h. normalise-ends h)

pub behind-definition : ExportsText define
unfolding any_of
behind-definition = behind-text define _ refl (λ text out w out' h. definition-ends h)

pub behind-split : ExportsText split
unfolding any_of
behind-split = behind-text split _ refl (λ text out w out' h. split-ends h)

pub behind-parameters : ExportsText parameters
unfolding any_of
behind-parameters = behind-text parameters _ refl (λ text out w out' h. parameters-ends h)

pub behind-translate : ExportsText translate
unfolding any_of
behind-translate = behind-text translate _ refl (λ text out w out' h. translate-ends h)

pub behind-prepare : {text : Bytes} {table : List Step} {r : Answer} {table' : List Step} → Promised record_count prepare text table r table'
    → (w : Result ℕ Refusal) × Prepares text table w table' × (r ≡ plain_prepared w) × (r.number ≡ 0 → w ≡ Ok r.length)
unfolding any_of plain_prepared
behind-prepare {text} {table} {r} {table'} p =
    behind-0 prepared plain_prepared (λ n. refl) (λ number place offset. refl) prepare _ refl
    text table r table' (λ w h. prepare-ends h) p

pub behind-prepare-as : (how : Reading) (m : Mode) {text : Bytes} {table : List Step} {r : Answer} {table' : List Step} → Promised record_count (prepare_as how m) text table r table'
    → (w : Result ℕ Refusal) × PreparesAs how m text table w table' × (r ≡ plain_prepared w) × (r.number ≡ 0 → w ≡ Ok r.length)
unfolding any_of plain_prepared
behind-prepare-as how m {text} {table} {r} {table'} p =
    behind-0 prepared plain_prepared (λ n. refl) (λ number place offset. refl) (prepare_as how m) _ refl
    text table r table' (λ w h. prepare-as-ends how m h) p

-- ---- the reader

no_part : (f : Option Found) → (plain_found f).found ≡ 0 → f ≡ None
unfolding plain_found
no_part None e = refl
no_part (Some f) e = absurd (no 0 (sym e))

pub behind-next : (text : Bytes) (at : ℕ) (r : Part) → r ≡ plain_found (next text at)
    → (f : Option Found) × (f ≡ next text at) × (r ≡ plain_found f) × (r.found ≡ 0 → f ≡ None)
behind-next text at r e = (next text at, refl, e, λ z. no_part (next text at) (sym (ap (λ (x : Part). x.found) e) ∙ z))

-- ---- the check

passing : (v : Verdict) → ((number k : ℕ) → v ≡ verdict-is.Refused number k → number ≡ 18) → (plain_verdict v).number ≡ 0 → v ≡ verdict-is.Passes
unfolding plain_verdict
passing verdict-is.Passes h e = refl
passing (verdict-is.TooFew k) h e = absurd (no 0 (sym e))
passing (verdict-is.TooMany k) h e = absurd (no 1 (sym e))
passing (verdict-is.Refused number k) h e = absurd (no 17 (sym e ∙ h number k refl))

pub behind-pass : (inverse : ℕ) (t : List Step) (r : Checked) → PlainChecks inverse t r → r.said.number ≡ 0 → (check (direction_of inverse) t).verdict ≡ verdict-is.Passes
unfolding plain_check
behind-pass inverse t r p e =
    passing (check (direction_of inverse) t).verdict (λ number k h. (check-refused (direction_of inverse) t number k h).0)
    (sym (ap (λ (x : Checked). x.said.number) p.exactly) ∙ e)

-- ---- the run

pub behind-run : {inverse : ℕ} {t : List Step} {xs store : List Float} {r : Done} {xs' store' : List Float} → PlainRuns inverse t xs store r xs' store'
    → (w : Result Finished Refusal) × Runs (direction_of inverse) t xs store w xs' store' × (r ≡ plain_ran w) × (r.number ≡ 0 → w ≡ done r.count r.left)
unfolding plain_outcome plain_ran any_of
behind-run {inverse} {t} {xs} {store} {r} {xs'} {store'} p =
    (o.answer, record { exactly = λ i. record { answer = o.answer; list = (p.exactly i).list; store = (p.exactly i).store } }, A, λ z. go z (run_ends whole))
  where
    o : Outcome
    o = runs (direction_of inverse) t xs store

    whole : Runs (direction_of inverse) t xs store o.answer o.list o.store
    whole = record { exactly = refl }

    A : r ≡ plain_ran o.answer
    A = ap (λ (x : PlainOutcome). x.answer) p.exactly

    go : r.number ≡ 0 → RunEnds (15 ∷ 16 ∷ 17 ∷ 18 ∷ []) (used (direction_of inverse) t xs) xs store o.answer o.list o.store
        → o.answer ≡ done r.count r.left
    go z (RunEnds.answers c n e x y w) = let f = A ∙ ap plain_ran e in e ∙ sym (λ i. done (f i).count (f i).left)
    go z (RunEnds.refuses number place e h x y) =
        absurd (not-0 (15 ∷ 16 ∷ 17 ∷ 18 ∷ []) refl h (sym (ap (λ (x : Done). x.number) (A ∙ ap plain_ran e)) ∙ z))
