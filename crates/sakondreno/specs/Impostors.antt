-- The five impostors of document 01, by their names: no program of that kind meets a public call's promise, whatever else it makes up. A
-- program is seen from outside: what it returns, and what it leaves in the storage that it is lent, for each thing that it is given.
-- One input, or two, tell each of them.
use Rattle.std.specs.Prelude.{◌≡◌, refl, Bool, false, List, [], ◌∷◌, ℕ, suc, length, take, replicate, pos, Float}
use Rattle.std.proofs.Common.{sym, ap, ◌∙◌, arith}
use Rattle.std.proofs.lemmas.Bool.{false≢true}
use Rattle.std.specs.Float.{binary64}
use Rattle.std.specs.Float.Ieee.{of_int, eq}
use Rattle.rules.specs.Text.Ascii.{ascii}
use Rattle.rules.specs.Text.Bytes.{Bytes}
use Rattle.rules.specs.Text.Refusal.{Reply, outcome, Promised}
use Rattle.rules.specs.Text.Normal.{normalise}
use Rattle.rules.specs.Text.Split.{split}
use Rattle.rules.specs.Text.Parameters.{parameters}
use Rattle.rules.specs.Proj.Translate.{translate}
use Rattle.rules.specs.Pipeline.Prepare.{prepare, prepare_as}
use Rattle.rules.specs.Text.Reader.{next, define}
use Rattle.rules.specs.Pipeline.Check.{span_at, check}
use Rattle.rules.specs.Pipeline.Run.{runs}
use Rattle.rules.specs.Pipeline.Record.{reading_of, no_span, step_with, blank, with_spans}
use Rattle.rules.specs.Pipeline.Write.{spans_in_turn}
use Rattle.rules.specs.Examples.{on, records, one_to_four}
use Rattle.rules.specs.Opened.{opened}
use Rattle.rules.specs.declared.Mode.{Mode}
use Rattle.rules.specs.declared.Mode.TheVariants as mode-is
use Rattle.rules.specs.declared.Reading.{Reading}
use Rattle.rules.specs.declared.Reading.TheVariants.{Crate, Proj}
use Rattle.rules.specs.declared.Span.{Span}
use Rattle.rules.specs.declared.Step.{Step}
use Rattle.rules.specs.declared.Answer.{Answer}
use Rattle.rules.specs.declared.Part.{Part}
use Rattle.rules.specs.declared.Checked.{Checked}
use Rattle.rules.specs.declared.Done.{Done}
use Rattle.rules.specs.Face.Plain.{plain_written, replied, plain_found, plain_prepared, record_count, mode_of, direction_of, plain_verdict, plain_check, PlainChecks, plain_ran, PlainOutcome, plain_outcome, PlainRuns}

no : {k : ℕ} → 0 ≡ suc k → ⊥
no z = omega arith

-- ---- `normalise`, `definition`, `split`, `parameters`, `translate`, `prepare` and `prepare_as`

module _ {A : Type 0} (in_words : Reply ℕ → Answer) (own : Bytes → Reply (List A)) where
  abbrev pub Meets : (Bytes → List A → Answer × List A) → Type 0
  Meets program = (t : Bytes) (storage : List A) → Promised in_words own t storage (program t storage).0 (program t storage).1

  -- what tells: the empty text, whose answer is empty, and a text whose answer alters the storage
  pub record Telling : Type 0 where
    pub nothing : ◌≡◌ {A = Answer × List A} (outcome in_words own [] []) (record { number = 0; place = 0; length = 0; offset = 0 }, [])
    pub text : Bytes
    pub storage : List A
    pub more : ℕ
    pub after : List A
    pub something : ◌≡◌ {A = Answer × List A} (outcome in_words own text storage) (record { number = 0; place = 0; length = suc more; offset = 0 }, after)
    pub altered : storage ≡ after → ⊥

  -- Refusing everything, with any number but 0, any place and any offset
  pub refusing-everything : Telling → (number place offset : Bytes → List A → ℕ) → ((t : Bytes) (storage : List A) → number t storage ≡ 0 → ⊥)
      → Meets (λ t storage. (record { number = number t storage; place = place t storage; length = 0; offset = offset t storage }, storage)) → ⊥
  refusing-everything by number place offset positive meets = positive [] [] (ap (λ (x : Answer × List A). x.0.number) ((meets [] []).exactly ∙ by.nothing))

  -- One fixed answer, whatever is left in the storage
  pub one-fixed-answer : Telling → (answer : Answer) (left : Bytes → List A → List A) → Meets (λ t storage. (answer, left t storage)) → ⊥
  one-fixed-answer by answer left meets =
      no (sym (ap (λ (x : Answer × List A). x.0.length) ((meets [] []).exactly ∙ by.nothing))
      ∙ ap (λ (x : Answer × List A). x.0.length) ((meets by.text by.storage).exactly ∙ by.something))

  -- Doing nothing, whatever is answered
  pub doing-nothing : Telling → (answer : Bytes → List A → Answer) → Meets (λ t storage. (answer t storage, storage)) → ⊥
  doing-nothing by answer meets = by.altered (ap (λ (x : Answer × List A). x.1) ((meets by.text by.storage).exactly ∙ by.something))

-- the first byte
first : Bytes → ℕ
first [] = 0
first (x ∷ t) = x

pub tells-normalise : Telling replied normalise
unfolding opened plain_written first
tells-normalise = record { nothing = refl; text = ascii "a"; storage = 0 ∷ []; more = 0; after = ascii "a"; something = refl; altered = λ e. no (ap first e) }

pub tells-definition : Telling replied define
unfolding opened plain_written first
tells-definition = record { nothing = refl; text = ascii "a"; storage = 0 ∷ []; more = 0; after = ascii "a"; something = refl; altered = λ e. no (ap first e) }

pub tells-split : Telling replied split
unfolding opened plain_written first
tells-split = record { nothing = refl; text = ascii "a"; storage = 0 ∷ 0 ∷ []; more = 1; after = ascii "a\n"; something = refl; altered = λ e. no (ap first e) }

pub tells-parameters : Telling replied parameters
unfolding opened plain_written first
tells-parameters =
    record {
      nothing = refl;
      text = ascii "a";
      storage = 0 ∷ 0 ∷ 0 ∷ 0 ∷ 0 ∷ 0 ∷ 0 ∷ 0 ∷ [];
      more = 7;
      after = ascii "_name=a\n";
      something = refl;
      altered = λ e. no (ap first e);
    }

pub tells-translate : Telling replied translate
unfolding opened plain_written first
tells-translate = record { nothing = refl; text = ascii "a"; storage = 0 ∷ []; more = 0; after = ascii "a"; something = refl; altered = λ e. no (ap first e) }

-- of preparing: a record that stands there before is another one afterwards
operator_of_first : List Step → ℕ
operator_of_first [] = 0
operator_of_first (s ∷ l) = s.operator

pub tells-prepare : Telling record_count prepare
unfolding opened plain_prepared operator_of_first
tells-prepare =
    record {
      nothing = refl;
      text = ascii "pop";
      storage = blank ∷ [];
      more = 0;
      after = records (on prepare "pop");
      something = refl;
      altered = λ e. no (ap operator_of_first e);
    }

-- of preparing in a reading and a mode, likewise
module _ (how : Reading) (mode : Mode) where
  abbrev own : Bytes → Reply (List Step)
  own = prepare_as how mode

  tells-pop : ◌≡◌ {A = Answer × List Step} (outcome record_count own [] []) (record { number = 0; place = 0; length = 0; offset = 0 }, [])
      → ◌≡◌ {A = Answer × List Step} (outcome record_count own (ascii "pop") (blank ∷ [])) (record { number = 0; place = 0; length = 1; offset = 0 }, records (on own "pop"))
      → operator_of_first (records (on own "pop")) ≡ 1 → Telling record_count own
  unfolding operator_of_first blank step_with
  tells-pop e f g =
      record {
        nothing = e;
        text = ascii "pop";
        storage = blank ∷ [];
        more = 0;
        after = records (on own "pop");
        something = f;
        altered = λ h. no (ap operator_of_first h ∙ g);
      }

pub tells-prepare-as : (how : Reading) (mode : Mode) → Telling record_count (prepare_as how mode)
unfolding opened plain_prepared operator_of_first
tells-prepare-as Crate mode-is.Crate = tells-pop Crate mode-is.Crate refl refl refl
tells-prepare-as Crate mode-is.Documented = tells-pop Crate mode-is.Documented refl refl refl
tells-prepare-as Proj mode-is.Crate = tells-pop Proj mode-is.Crate refl refl refl
tells-prepare-as Proj mode-is.Documented = tells-pop Proj mode-is.Documented refl refl refl

-- The reading forgotten: the same records whatever is asked
reading_of_first : List Step → ℕ
reading_of_first [] = 0
reading_of_first (s ∷ l) = s.reading

pub reading-forgotten : (program : ℕ → Bytes → List Step → Answer × List Step)
    → ((reading mode : ℕ) → Meets record_count (prepare_as (reading_of reading) (mode_of mode)) (program mode)) → ⊥
unfolding opened plain_prepared reading_of_first
reading-forgotten program meets =
    no (sym (ap (λ (x : Answer × List Step). reading_of_first x.1) (meets 0 0 (ascii "push") (blank ∷ [])).exactly)
    ∙ ap (λ (x : Answer × List Step). reading_of_first x.1) (meets 1 0 (ascii "push") (blank ∷ [])).exactly)

-- The mode forgotten: likewise
pub mode-forgotten : (program : ℕ → Bytes → List Step → Answer × List Step)
    → ((reading mode : ℕ) → Meets record_count (prepare_as (reading_of reading) (mode_of mode)) (program reading)) → ⊥
unfolding opened plain_prepared operator_of_first
mode-forgotten program meets =
    ten-eleven (sym (ap (λ (x : Answer × List Step). operator_of_first x.1) (meets 0 0 (ascii "adapt") (blank ∷ [])).exactly)
    ∙ ap (λ (x : Answer × List Step). operator_of_first x.1) (meets 0 1 (ascii "adapt") (blank ∷ [])).exactly)
  where
    ten-eleven : ◌≡◌ {A = ℕ} 10 11 → ⊥
    ten-eleven z = omega arith

-- The offset forgotten: never one but 0
pub offset-forgotten : (program : Bytes → List Step → Answer × List Step) → ((t : Bytes) (storage : List Step) → (program t storage).0.offset ≡ 0)
    → Meets record_count prepare program → ⊥
unfolding opened plain_prepared
offset-forgotten program forgotten meets =
    no (sym (forgotten (ascii "push v_1=no") []) ∙ ap (λ (x : Answer × List Step). x.0.offset) (meets (ascii "push v_1=no") []).exactly)

-- The place for the offset: the two of them alike
pub place-for-offset : (program : Bytes → List Step → Answer × List Step) → ((t : Bytes) (storage : List Step) → (program t storage).0.offset ≡ (program t storage).0.place)
    → Meets record_count prepare program → ⊥
unfolding opened plain_prepared
place-for-offset program alike meets =
    nine-one (sym (ap (λ (x : Answer × List Step). x.0.offset) (meets (ascii "push v_1=no") []).exactly) ∙ alike (ascii "push v_1=no") []
    ∙ ap (λ (x : Answer × List Step). x.0.place) (meets (ascii "push v_1=no") []).exactly)
  where
    nine-one : ◌≡◌ {A = ℕ} 9 1 → ⊥
    nine-one z = omega arith

-- the span of the first record
pub span_of_first : List Step → Span
span_of_first [] = no_span
span_of_first (s ∷ l) = s.span

-- The spans left out: records that tell of no bytes
pub spans-left-out : (program : Bytes → List Step → Answer × List Step) → ((t : Bytes) (storage : List Step) → (span_of_first (program t storage).1).length ≡ 0)
    → Meets record_count prepare program → ⊥
unfolding opened plain_prepared span_of_first
spans-left-out program out meets =
    no (sym (out (ascii "push") (blank ∷ [])) ∙ ap (λ (x : Answer × List Step). (span_of_first x.1).length) (meets (ascii "push") (blank ∷ [])).exactly)

-- Spans in the lines of a split, whose first begins with the first byte
pub spans-of-lines : (program : Bytes → List Step → Answer × List Step) → ((t : Bytes) (storage : List Step) → (span_of_first (program t storage).1).from ≡ 0)
    → Meets record_count prepare program → ⊥
unfolding opened plain_prepared span_of_first
spans-of-lines program first_byte meets =
    no (sym (first_byte (ascii "|push") (blank ∷ [])) ∙ ap (λ (x : Answer × List Step). (span_of_first x.1).from) (meets (ascii "|push") (blank ∷ [])).exactly)

-- ---- the walk over the steps

abbrev pub MeetsNext : (Bytes → ℕ → Part) → Type 0
MeetsNext program = (t : Bytes) (at : ℕ) → program t at ≡ plain_found (next t at)

-- One fixed answer, and with it always the end
pub one-fixed-part : (answer : Part) → MeetsNext (λ t at. answer) → ⊥
unfolding opened plain_found
one-fixed-part answer meets = no (sym (ap (λ (x : Part). x.found) (meets [] 0)) ∙ ap (λ (x : Part). x.found) (meets (ascii "a") 0))

-- Doing the first step only: always the same of a text, wherever the walk stands
pub first-part-only : (answer : Bytes → Part) → MeetsNext (λ t at. answer t) → ⊥
unfolding opened plain_found
first-part-only answer meets = no (sym (ap (λ (x : Part). x.from) (meets (ascii "a|b") 0)) ∙ ap (λ (x : Part). x.from) (meets (ascii "a|b") 1))

-- ---- the check

abbrev pub MeetsCheck : (ℕ → List Step → Checked) → Type 0
MeetsCheck program = (inverse : ℕ) (t : List Step) → PlainChecks inverse t (program inverse t)

-- the table of a definition
abbrev table : Bytes → List Step
table t = records (prepare t)

-- Refusing everything, and failing everything: never a pass
pub never-passing : (answer : ℕ → List Step → Checked) → ((inverse : ℕ) (t : List Step) → (answer inverse t).said.number ≡ 0 → ⊥) → MeetsCheck answer → ⊥
unfolding opened direction_of plain_check plain_verdict
never-passing answer positive meets = positive 0 [] (ap (λ (x : Checked). x.said.number) (meets 0 []).exactly)

-- One fixed answer
pub one-fixed-check : (answer : Checked) → MeetsCheck (λ inverse t. answer) → ⊥
unfolding opened direction_of plain_check plain_verdict
one-fixed-check answer meets =
    no (sym (ap (λ (x : Checked). x.said.number) (meets 0 []).exactly)
    ∙ ap (λ (x : Checked). x.said.number) (meets 0 (table (ascii "pop v_1"))).exactly)

-- The first step and feigning the rest
pub first-step-checked : MeetsCheck (λ inverse t. plain_check (check (direction_of inverse) (take 1 t))) → ⊥
unfolding opened direction_of plain_check plain_verdict
first-step-checked meets = no (ap (λ (x : Checked). x.said.number) (meets 0 (table (ascii "push|pop v_1"))).exactly)

-- An invented depth: told by the direction and by how many records there are
pub invented-depth : (depth : ℕ → ℕ → ℕ) (answer : ℕ → List Step → Checked) → ((inverse : ℕ) (t : List Step) → (answer inverse t).deepest ≡ depth inverse (length t))
    → MeetsCheck answer → ⊥
unfolding opened direction_of plain_check plain_verdict
invented-depth depth answer invented meets =
    no (sym (ap (λ (x : Checked). x.deepest) (meets 0 (table (ascii "push"))).exactly) ∙ invented 0 (table (ascii "push"))
    ∙ sym (invented 0 (table (ascii "push v_1"))) ∙ ap (λ (x : Checked). x.deepest) (meets 0 (table (ascii "push v_1"))).exactly)

-- The span forgotten: never one with a byte
pub span-forgotten : (answer : ℕ → List Step → Checked) → ((inverse : ℕ) (t : List Step) → (answer inverse t).span.length ≡ 0) → MeetsCheck answer → ⊥
unfolding opened direction_of plain_check
span-forgotten answer forgotten meets =
    no (sym (forgotten 0 (table (ascii "pop v_1"))) ∙ ap (λ (x : Checked). x.span.length) (meets 0 (table (ascii "pop v_1"))).exactly)

-- The next step's span, for that of the step named
abbrev two : List Step
two = table (ascii "pop v_1|push")

pub next-span : (answer : ℕ → List Step → Checked) → ((inverse : ℕ) (t : List Step) → (answer inverse t).span ≡ span_at (suc (answer inverse t).said.place) t)
    → MeetsCheck answer → ⊥
unfolding opened direction_of plain_check plain_verdict
next-span answer next meets =
    no (sym (ap (λ (x : Checked). x.span.from) (meets 0 two).exactly) ∙ ap (λ (p : Span). p.from) (next 0 two)
    ∙ ap (λ (x : Checked). (span_at (suc x.said.place) two).from) (meets 0 two).exactly)

-- ---- the run

abbrev pub Runner : Type 0
Runner = ℕ → List Step → List Float → List Float → PlainOutcome

abbrev pub MeetsRun : Runner → Type 0
MeetsRun program =
    (inverse : ℕ) (t : List Step) (xs store : List Float)
    → PlainRuns inverse t xs store (program inverse t xs store).answer (program inverse t xs store).list (program inverse t xs store).store

-- is the first number 1?
is_one : List Float → Bool
is_one [] = false
is_one (x ∷ l) = eq x (of_int binary64 (pos 1))

-- Refusing everything, with any number but 0
pub refusing-every-run : (number place : ℕ → List Step → List Float → List Float → ℕ) → ((inverse : ℕ) (t : List Step) (xs store : List Float) → number inverse t xs store ≡ 0 → ⊥)
    → MeetsRun (λ inverse t xs store. record { answer = record { number = number inverse t xs store; place = place inverse t xs store; count = 0; left = 0 }; list = xs; store = store }) → ⊥
unfolding opened direction_of plain_outcome plain_ran
refusing-every-run number place positive meets = positive 0 [] [] [] (ap (λ (x : PlainOutcome). x.answer.number) (meets 0 [] [] []).exactly)

-- One fixed answer, whatever is left
pub one-fixed-run : (answer : Done) (list store' : ℕ → List Step → List Float → List Float → List Float)
    → MeetsRun (λ inverse t xs store. record { answer = answer; list = list inverse t xs store; store = store' inverse t xs store }) → ⊥
unfolding opened direction_of plain_outcome plain_ran
one-fixed-run answer list store' meets =
    no (sym (ap (λ (x : PlainOutcome). x.answer.count) (meets 0 [] [] []).exactly) ∙ ap (λ (x : PlainOutcome). x.answer.count) (meets 0 [] one_to_four []).exactly)

-- Doing nothing, whatever is answered
pub nothing_run : (answer : ℕ → List Step → List Float → List Float → Done) (store' : ℕ → List Step → List Float → List Float → List Float)
    → MeetsRun (λ inverse t xs store. record { answer = answer inverse t xs store; list = xs; store = store' inverse t xs store }) → ⊥
unfolding opened direction_of plain_outcome plain_ran is_one
nothing_run answer store' meets = false≢true (sym (ap (λ (x : PlainOutcome). is_one x.list) (meets 0 (table (ascii "axisswap order=2,1")) one_to_four []).exactly))

-- The first step and feigning the rest: answer and store as in truth
pub first-step-run : (answer : ℕ → List Step → List Float → List Float → Done) (store' : ℕ → List Step → List Float → List Float → List Float)
    → MeetsRun (λ inverse t xs store. record {
      answer = answer inverse t xs store;
      list = (runs (direction_of inverse) (take 1 t) xs store).list;
      store = store' inverse t xs store;
    }) → ⊥
unfolding opened direction_of plain_outcome plain_ran is_one
first-step-run answer store' meets =
    false≢true (ap (λ (x : PlainOutcome). is_one x.list) (meets 0 (table (ascii "axisswap order=2,1|axisswap order=2,1")) one_to_four []).exactly)

-- An invented count: told by how many numbers there are
pub invented-count : (count : ℕ → ℕ) (program : Runner) → ((inverse : ℕ) (t : List Step) (xs store : List Float) → (program inverse t xs store).answer.count ≡ count (length xs))
    → MeetsRun program → ⊥
unfolding opened direction_of plain_outcome plain_ran
invented-count count program invented meets =
    no (sym (ap (λ (x : PlainOutcome). x.answer.count) (meets 0 (table (ascii "stack drop")) one_to_four []).exactly) ∙ invented 0 (table (ascii "stack drop")) one_to_four []
    ∙ sym (invented 0 [] one_to_four []) ∙ ap (λ (x : PlainOutcome). x.answer.count) (meets 0 [] one_to_four []).exactly)

-- ---- and three slips of the calls over a row

-- 65 good records
abbrev too_many : List Step
too_many = with_spans (spans_in_turn 0 (replicate 65 (ascii "x"))) (replicate 65 blank)

-- More than 64 records cut at 64: the check
pub check-cut : MeetsCheck (λ inverse t. plain_check (check (direction_of inverse) (take 64 t))) → ⊥
unfolding opened direction_of plain_check plain_verdict
check-cut meets = no (ap (λ (x : Checked). x.said.number) (meets 0 too_many).exactly)

-- The same of the run
pub run-cut : MeetsRun (λ inverse t xs store. plain_outcome (runs (direction_of inverse) (take 64 t) xs store)) → ⊥
unfolding opened direction_of plain_outcome plain_ran
run-cut meets = no (ap (λ (x : PlainOutcome). x.answer.number) (meets 0 too_many [] []).exactly)

-- The direction forgotten
pub check-forward : (answer : List Step → Checked) → MeetsCheck (λ inverse t. answer t) → ⊥
unfolding opened direction_of plain_check plain_verdict
check-forward answer meets =
    no (sym (ap (λ (x : Checked). x.said.number) (meets 0 (table (ascii "push v_1"))).exactly)
    ∙ ap (λ (x : Checked). x.said.number) (meets 1 (table (ascii "push v_1"))).exactly)
