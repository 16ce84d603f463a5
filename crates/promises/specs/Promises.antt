-- What is signed: the release's three demands, each sentence above what is proved of it. Statements, and nothing else; proofs/Kept.antt proves every one. They
-- speak of what a caller holds, results and lent storage before and after, through the calls' contracts, in the words of crates/rules.
use Rattle.rules.specs.declared.Refusal.{Refusal}
use Rattle.rules.specs.declared.Finished.{Finished}
use Rattle.std.specs.Prelude.{◌≡◌, ◌↔◌, ℕ, ◌-◌, ◌*◌, ◌/◌, ◌%◌, ◌≤◌, ◌<◌, Bool, true, false, not, List, [], ◌∷◌, ◌++◌, map, T, length, get_or, take, drop, ℤ, Float, Option, None, Some, Result, Ok}
use Rattle.std.specs.Float.{binary64}
use Rattle.std.specs.Float.Ieee.{mul, div, fits, to_bits}
use borrow.Fn.World.{World}
use Rattle.rules.specs.Text.Bytes.{Bytes, joined}
use Rattle.rules.specs.Text.Lists.{all_of}
use Rattle.rules.specs.Text.Refusal.{Reply, answers, refuses, refuses12, Promised, Writes, Lends, Wrote, refusal_at}
use Rattle.rules.specs.Text.Normal.{normalise}
use Rattle.rules.specs.Text.Split.{steps, split}
use Rattle.rules.specs.Text.Parameters.{parameters}
use Rattle.rules.specs.Proj.Translate.{translate}
use Rattle.rules.specs.Text.Reader.{next, definition, define}
use Rattle.rules.specs.Pipeline.Prepare.{prepare, prepare_as, Prepares, PreparesAs}
use Rattle.rules.specs.Pipeline.Record.{reading_number, reading_of, no_span, step_with, in_reading, with_spans, operator, args, is_set, of_mode, made, table_reading, refusal18, listed}
use Rattle.rules.specs.Pipeline.Running.{opposite, act, running}
use Rattle.rules.specs.Operators.Arguments.{size, arg}
use Rattle.rules.specs.Operators.Descriptions.{Documented}
use Rattle.rules.specs.Operators.Numbers.{number, turn}
use Rattle.rules.specs.Operators.Adapt.{Word, one}
use Rattle.rules.specs.Operators.Documented.{input_at, combined_by_axis, adapted_by_axis}
use Rattle.rules.specs.Pipeline.Columns.{after, depths, deepest}
use Rattle.rules.specs.Pipeline.Tuples.{numbers, acted}
use Rattle.rules.specs.Pipeline.Run.{start, count, Runs, done}
use Rattle.rules.specs.Pipeline.Check.{place, any_adapt, span_at, Checks}
use Rattle.rules.specs.Pipeline.Write.{written_spans, write}
use Rattle.rules.specs.Face.Plain.{plain_prepared, replied, record_count, plain_found, mode_of, direction_of, plain_check, PlainChecks, plain_ran, PlainRuns}
use Rattle.rules.specs.Examples.{examples, also, printed, rewritten, readings, modes, offsets, underlined, demanded, AllHold}
use Rattle.rules.specs.declared.Mode.{Mode}
use Rattle.rules.specs.declared.Mode.TheVariants as mode-is
use Rattle.rules.specs.declared.Reading.{Reading}
use Rattle.rules.specs.declared.Reading.TheVariants.{Crate, Proj}
use Rattle.rules.specs.declared.Step.{Step}
use Rattle.rules.specs.declared.Coord.{Coord}
use Rattle.rules.specs.declared.Direction.{Direction}
use Rattle.rules.specs.declared.Found.{Found}
use Rattle.rules.specs.declared.Part.{Part}
use Rattle.rules.specs.declared.Foretold.{Foretold}
use Rattle.rules.specs.declared.Verdict.TheVariants.{Passes, TooFew, TooMany, Refused}
use Rattle.rules.specs.declared.Answer.{Answer}
use Rattle.rules.specs.declared.Checked.{Checked}
use Rattle.rules.specs.declared.Done as plain-run
use Rattle.rules.specs.Face.Contract.{Keeps, KeepsIf}
use Rattle.rules.specs.Face.Shown.{shown}
use Rattle.laws_lists.specs.Lists.{Every}
use Rattle.laws_records.specs.Readings.{InIt}
use Rattle.laws_records.specs.Faithful.{Slots}
use Rattle.laws_records.specs.Exact.{Texted}
use Rattle.laws_records.specs.ReadBack.{TextedAlone}
use Rattle.laws_records.specs.Operators.Adapt.Words.{IsWord}
use Rattle.sakondreno.specs.contracts as calls
use Rattle.reader.specs.contracts as reading
use Rattle.show.specs.contracts as program
use Rattle.sakondreno.proofs as calls-code
use Rattle.reader.proofs as reading-code
use Rattle.show.proofs as program-code
use Rattle.rules.specs.Face.Demands.{Ends, text_refusal, RunEnds, CheckEnds, NextEnds, ExportsText, EachWell, Few, Many, FirstAtFault, number_at, Bits, Alike, sign_angle, EachUnit, FirstFault}
use Rattle.rules.specs.Face.Demands.{bytes_at, Rise, Walk, SameButSpans, SaysTheSame}

-- ==== The public calls. "Every entry point ends on every text, step table and list .. No caller is asked to have looked first": each call's own code,
-- whatever it is given, returns; its contract asks nothing; and what it says is one equation with the written rule, of the result and of all that was lent.
-- (`before` are the arguments, the first `.0`, the second `.1 .0` and so on; `after` are the same at exit; `now` is what a reference lends; `r` is the result.)

pub record Calls (w : World) : Type 1 where
  pub normalise-keeps : Keeps w calls.normalise.ended calls-code.normalise.Symbol.code calls-code.normalise.Symbol.name
      (λ l before r after. Writes normalise before.0.now before.1.0.now r after.1.0.now)
  pub definition-keeps : Keeps w calls.definition.ended calls-code.definition.Symbol.code calls-code.definition.Symbol.name
      (λ l before r after. Writes define before.0.now before.1.0.now r after.1.0.now)
  pub split-keeps : Keeps w calls.split.ended calls-code.split.Symbol.code calls-code.split.Symbol.name
      (λ l before r after. Writes split before.0.now before.1.0.now r after.1.0.now)
  pub parameters-keeps : Keeps w calls.parameters.ended calls-code.parameters.Symbol.code calls-code.parameters.Symbol.name
      (λ l before r after. Writes parameters before.0.now before.1.0.now r after.1.0.now)
  pub translate-keeps : Keeps w calls.translate.ended calls-code.translate.Symbol.code calls-code.translate.Symbol.name
      (λ l before r after. Writes translate before.0.now before.1.0.now r after.1.0.now)
  pub prepare-keeps : Keeps w calls.prepare.ended calls-code.prepare.Symbol.code calls-code.prepare.Symbol.name
      (λ l before r after. Prepares before.0.now before.1.0.now r after.1.0.now)
  pub prepare-as-keeps : Keeps w calls.prepare_as.ended calls-code.prepare_as.Symbol.code calls-code.prepare_as.Symbol.name
      (λ l before r after. PreparesAs before.1.0 before.1.1.0 before.0.now before.1.1.1.0.now r after.1.1.1.0.now)
  pub check-keeps : Keeps w calls.check.ended calls-code.check.Symbol.code calls-code.check.Symbol.name
      (λ l before r after. Checks before.1.0 before.0.now r)
  pub run-keeps : Keeps w calls.run.ended calls-code.run.Symbol.code calls-code.run.Symbol.name
      (λ l before r after. Runs before.1.0 before.0.now before.1.1.0.now before.1.1.1.0.now r after.1.1.0.now after.1.1.1.0.now)
  pub next-keeps : Keeps w reading.Reader.next.ended reading-code.Reader.next.Symbol.code reading-code.Reader.next.Symbol.name
      (λ l before r after. r ≡ next before.0.text.now before.0.at)
  pub next-from-keeps : Keeps w calls.next_from.ended calls-code.next_from.Symbol.code calls-code.next_from.Symbol.name
      (λ l before r after. r ≡ next before.0.now before.1.0)
  pub write_keeps : Keeps w calls.write.ended calls-code.write.Symbol.code calls-code.write.Symbol.name
      (λ l before r after. Lends (write (listed before.0)) before.1.0.now r after.1.0.now)
  pub write-step-keeps : Keeps w calls.write_step.ended calls-code.write_step.Symbol.code calls-code.write_step.Symbol.name
      (λ l before r after. Lends (write (before.0 ∷ [])) before.1.0.now r after.1.0.now)
  -- the same in the words of plain records: the functions that crates/sakondreno_c exports for C and Rust. Its proofs/Exports.antt says the same of the exports' own code
  pub sakondreno-normalise-keeps : Keeps w calls.sakondreno_normalise.ended calls-code.sakondreno_normalise.Symbol.code calls-code.sakondreno_normalise.Symbol.name
      (λ l before r after. Promised replied normalise before.0.now before.1.0.now r after.1.0.now)
  pub sakondreno-definition-keeps : Keeps w calls.sakondreno_definition.ended calls-code.sakondreno_definition.Symbol.code calls-code.sakondreno_definition.Symbol.name
      (λ l before r after. Promised replied define before.0.now before.1.0.now r after.1.0.now)
  pub sakondreno-split-keeps : Keeps w calls.sakondreno_split.ended calls-code.sakondreno_split.Symbol.code calls-code.sakondreno_split.Symbol.name
      (λ l before r after. Promised replied split before.0.now before.1.0.now r after.1.0.now)
  pub sakondreno-parameters-keeps : Keeps w calls.sakondreno_parameters.ended calls-code.sakondreno_parameters.Symbol.code calls-code.sakondreno_parameters.Symbol.name
      (λ l before r after. Promised replied parameters before.0.now before.1.0.now r after.1.0.now)
  pub sakondreno-translate-keeps : Keeps w calls.sakondreno_translate.ended calls-code.sakondreno_translate.Symbol.code calls-code.sakondreno_translate.Symbol.name
      (λ l before r after. Promised replied translate before.0.now before.1.0.now r after.1.0.now)
  pub sakondreno-next-keeps : Keeps w calls.sakondreno_next.ended calls-code.sakondreno_next.Symbol.code calls-code.sakondreno_next.Symbol.name
      (λ l before r after. r ≡ plain_found (next before.0.now before.1.0))
  pub sakondreno-prepare-keeps : Keeps w calls.sakondreno_prepare.ended calls-code.sakondreno_prepare.Symbol.code calls-code.sakondreno_prepare.Symbol.name
      (λ l before r after. Promised record_count prepare before.0.now before.1.0.now r after.1.0.now)
  pub sakondreno-prepare-as-keeps : Keeps w calls.sakondreno_prepare_as.ended calls-code.sakondreno_prepare_as.Symbol.code calls-code.sakondreno_prepare_as.Symbol.name
      (λ l before r after. Promised record_count (prepare_as (reading_of before.1.0) (mode_of before.1.1.0)) before.0.now before.1.1.1.0.now r after.1.1.1.0.now)
  pub sakondreno-check-keeps : Keeps w calls.sakondreno_check.ended calls-code.sakondreno_check.Symbol.code calls-code.sakondreno_check.Symbol.name
      (λ l before r after. PlainChecks before.1.0 before.0.now r)
  pub sakondreno-run-keeps : Keeps w calls.sakondreno_run.ended calls-code.sakondreno_run.Symbol.code calls-code.sakondreno_run.Symbol.name
      (λ l before r after. PlainRuns before.1.0 before.0.now before.1.1.0.now before.1.1.1.0.now r after.1.1.0.now after.1.1.1.0.now)
  -- The program `steps` prints `shown reading mode text` of what it reads, in the reading and mode that it is asked for: this is the function that it
  -- prints by, lent buffers of these lengths.
  pub steps-prints : KeepsIf w program.show.ended program-code.show.Symbol.code program-code.show.Symbol.name
      (λ l before. (length before.1.1.1.0.now ≡ 65536) ∷ (length before.1.1.1.1.0.now ≡ 65536) ∷ (139264 ≤ length before.1.1.1.1.1.0.now) ∷ [])
      (λ l before r after. Wrote (shown before.1.0 before.1.1.0 before.0.now) before.1.1.1.1.1.0.now r after.1.1.1.1.1.0.now)

-- ==== Demand 1. "It answers, or refuses with a number from the documents' tables, and a refused call alters nothing it was lent."

pub record Demand1 : Type 1 where
  -- the text calls, each with its numbers; an answer writes nothing past its own end
  pub normalise-ends : {text out : Bytes} {r : Result ℕ Refusal} {out' : Bytes} → Writes normalise text out r out'
      → Ends Ok text_refusal (1 ∷ 2 ∷ 7 ∷ []) out r out'
  pub definition-ends : {text out : Bytes} {r : Result ℕ Refusal} {out' : Bytes} → Writes define text out r out'
      → Ends Ok text_refusal (1 ∷ 2 ∷ 7 ∷ []) out r out'
  pub split-ends : {text out : Bytes} {r : Result ℕ Refusal} {out' : Bytes} → Writes split text out r out'
      → Ends Ok text_refusal (1 ∷ 2 ∷ 6 ∷ 7 ∷ 8 ∷ []) out r out'
  pub parameters-ends : {text out : Bytes} {r : Result ℕ Refusal} {out' : Bytes} → Writes parameters text out r out'
      → Ends Ok text_refusal (1 ∷ 2 ∷ 6 ∷ 7 ∷ 9 ∷ []) out r out'
  pub translate-ends : {text out : Bytes} {r : Result ℕ Refusal} {out' : Bytes} → Writes translate text out r out'
      → Ends Ok text_refusal (1 ∷ 2 ∷ 3 ∷ 4 ∷ 5 ∷ 7 ∷ []) out r out'
  pub write-ends : {out : Bytes} {r : Result ℕ Refusal} {out' : Bytes} (table : List Step) → Lends (write table) out r out'
      → Ends Ok text_refusal (7 ∷ 18 ∷ []) out r out'
  -- the calls on step tables, and the reader
  pub prepare-ends : {text : Bytes} {table : List Step} {r : Result ℕ Refusal} {table' : List Step} → Prepares text table r table'
      → Ends Ok refusal_at (1 ∷ 2 ∷ 6 ∷ 7 ∷ 8 ∷ 9 ∷ 10 ∷ 11 ∷ 12 ∷ 13 ∷ 14 ∷ []) table r table'
  pub prepare-as-ends : (how : Reading) (mode : Mode) {text : Bytes} {table : List Step} {r : Result ℕ Refusal} {table' : List Step} → PreparesAs how mode text table r table'
      → Ends Ok refusal_at (1 ∷ 2 ∷ 6 ∷ 7 ∷ 8 ∷ 9 ∷ 10 ∷ 11 ∷ 12 ∷ 13 ∷ 14 ∷ []) table r table'
  pub check-ends : {d : Direction} {t : List Step} {f : Foretold} → Checks d t f → CheckEnds f
  pub run_ends : {d : Direction} {t : List Step} {xs store : List Float} {r : Result Finished Refusal} {xs' store' : List Float} → Runs d t xs store r xs' store'
      → RunEnds (15 ∷ 16 ∷ 17 ∷ 18 ∷ []) (deepest (depths acted (running d t) (start xs)) * (length xs / 4)) xs store r xs' store'
  pub next-ends : {text : Bytes} {at : ℕ} {r : Option Found} → r ≡ next text at → NextEnds text at r
  -- No second outcome meets a contract: of a text call or of preparing, in Rattle's words or in the exports',
  pub text-once : {A R : Type 0} {in_words : Reply ℕ → R} {own : Bytes → Reply (List A)} {text : Bytes} {storage storage' storage'' : List A} {r s : R}
      → Promised in_words own text storage r storage' → Promised in_words own text storage s storage'' → (r ≡ s) × (storage' ≡ storage'')
  -- of writing, of the check and of the run, and of the reader.
  pub write-once : {reply : Reply Bytes} {out out' out'' : Bytes} {r s : Result ℕ Refusal} → Lends reply out r out' → Lends reply out s out'' → (r ≡ s) × (out' ≡ out'')
  pub check-once : {d : Direction} {t : List Step} {f g : Foretold} → Checks d t f → Checks d t g → f ≡ g
  pub run-once : {d : Direction} {t : List Step} {xs store : List Float} {r s : Result Finished Refusal} {xs' xs'' store' store'' : List Float}
      → Runs d t xs store r xs' store' → Runs d t xs store s xs'' store'' → (r ≡ s) × (xs' ≡ xs'') × (store' ≡ store'')
  pub next-once : {r s : Option Found} (text : Bytes) (at : ℕ) → r ≡ next text at → s ≡ next text at → r ≡ s

-- ==== Demand 2. "Within document 01's domain, normalised text, steps, parameters, PROJ translation, transformed tuples and success count equal the
-- Rust's, bit for bit .. Each is also proved against definitions". What is proved: a call's answer is the written rule's, and by demand 1 no other. That
-- the written rules are the Rust's is tested, on ten million inputs: docs/DIFFERENCES.md. Three parts of that are also proved, from the Rust's lines as crates/laws_source
-- restates them: stripping comments, once normalised; cutting a PROJ text into steps; reading a word of `adapt`. This is a statement about the crate's reading and the crate's mode.

pub record Demand2 : Type 0 where
  -- the bytes that a text call answers, and the records that preparing answers, are those of its rule
  pub text-answer : {own : Bytes → Reply Bytes} {text out : Bytes} {n : ℕ} {out' : Bytes} → Writes own text out (Ok n) out' → own text ≡ answers (take n out')
  pub records-answer : {text : Bytes} {table : List Step} {n : ℕ} {table' : List Step} → Prepares text table (Ok n) table' → prepare text ≡ answers (take n table')
  -- the tuples after a run, the success count and the columns left are those of the steps one after the other
  pub run-answer : {d : Direction} {t : List Step} {xs store : List Float} {c n : ℕ} {xs' store' : List Float} → Runs d t xs store (done c n) xs' store'
      → let end = after acted (running d t) (start xs) in (xs' ≡ numbers end.tuples) × (c ≡ count (running d t) (start xs)) × (n ≡ length end.columns)
  -- a sign that is turned or kept is the Rust's product with -1 or 1, for every f64 (IEEE 754 as the kit defines it)
  pub sign-is-product : (minus : Bool) (x : Float) → T (fits binary64 x) → turn minus x ≡ mul binary64 x (turn minus one)
  -- and the documents' examples are so
  pub examples-hold : AllHold examples × AllHold also × AllHold printed × AllHold rewritten × AllHold readings × AllHold modes × AllHold offsets × AllHold underlined × AllHold demanded

-- ==== Demand 3. "A check reads a prepared pipeline and a direction, never the data."

-- "After a pass, on every list the run accepts, the depth after each step is the one foretold"; so are the deepest and the columns left, and the check
-- tells the four places unless an `adapt` step runs
pub record AsForetold (d : Direction) (t : List Step) (f : Foretold) (xs : List Float) (left : ℕ) : Type 0 where
  pub depth-after-each-step : depths acted (running d t) (start xs) ≡ take f.run f.depths
  pub deepest-of-all : deepest (depths acted (running d t) (start xs)) ≡ f.deepest
  pub columns-left : left ≡ f.left
  pub told-unless-adapt : f.told ≡ not (any_adapt (running d t))

-- "every output number is one of its own tuple's four inputs, sign kept or turned, from the place the check named for all tuples alike": number j of tuple i
pub record FromThePlacesNamed (f : Foretold) (xs xs' : List Float) : Type 0 where
  pub four-for-each-tuple : (length xs' ≡ length xs) × (length xs / 4 * 4 ≡ length xs)
  pub one-of-four : (j : ℕ) → (1 ≤ (place j f.places).axis) × ((place j f.places).axis ≤ 4)
  pub bit-for-bit : (j : ℕ) → 1 ≤ j → j ≤ 4 → (i : ℕ) → i < length xs / 4
      → (p q : ℕ) → Bits p (number_at xs i (place j f.places).axis) → Bits q (number_at xs' i j) → Alike (place j f.places).minus p q

-- (A record names its reading, and by its operator its mode, and a step does what it does in these: so each of these speaks of tables of either, and of
-- mixed modes. `adapt` is the one operator or the other: `any_adapt` looks for both.)
pub record Demand3 : Type 0 where
  -- Whatever preparing leaves, in either reading and mode, is never refused 18, by a check or by a run.
  pub check-takes-what-is-prepared : (how : Reading) (mode : Mode) {text : Bytes} {table table' : List Step} {n : ℕ} {d : Direction} {f : Foretold} (k : ℕ)
      → PreparesAs how mode text table (Ok n) table' → Checks d (take n table') f → f.verdict ≡ Refused 18 k → ⊥
  pub run-takes-what-is-prepared : (how : Reading) (mode : Mode) {text : Bytes} {table table' : List Step} {n : ℕ} {d : Direction} {xs store xs' store' : List Float} (k offset : ℕ)
      → PreparesAs how mode text table (Ok n) table' → Runs d (take n table') xs store (refusal_at 18 k offset) xs' store' → ⊥
  -- "It passes exactly when no step finds fewer columns than it takes and the depth never exceeds 64": no record is bad, and so it is of every step that
  -- runs, on any one list or on all;
  pub passes-exactly-when : {d : Direction} {t : List Step} {f : Foretold} → Checks d t f → (xs : List Float)
      → (f.verdict ≡ Passes) ↔ ((refusal18 t ≡ None) × EachWell (running d t) xs)
  -- "else it names the first step at fault in running order", and which of the two it is
  pub too-few-exactly-when : {d : Direction} {t : List Step} {f : Foretold} → Checks d t f → (xs : List Float) (k : ℕ)
      → (f.verdict ≡ TooFew k) ↔ ((refusal18 t ≡ None) × FirstAtFault (Few xs) k (running d t) xs)
  pub too-many-exactly-when : {d : Direction} {t : List Step} {f : Foretold} → Checks d t f → (xs : List Float) (k : ℕ)
      → (f.verdict ≡ TooMany k) ↔ ((refusal18 t ≡ None) × FirstAtFault (Many xs) k (running d t) xs)
  -- (or the first record that no preparation in the first's reading makes, or whose span does not rise)
  pub refused-exactly-when : {d : Direction} {t : List Step} {f : Foretold} → Checks d t f → (number k : ℕ)
      → (f.verdict ≡ Refused number k) ↔ ((number ≡ 18) × (refusal18 t ≡ Some k))
  -- "on every list the run accepts": after a pass that is every list of whole tuples, 65,536 at most, with a store for the deepest
  pub run-accepts : {d : Direction} {t : List Step} {f : Foretold} {xs store : List Float} {r : Result Finished Refusal} {xs' store' : List Float} → Checks d t f → f.verdict ≡ Passes
      → Runs d t xs store r xs' store' → length xs % 4 ≡ 0 → length xs / 4 ≤ 65536 → f.deepest * (length xs / 4) ≤ length store
      → (c : ℕ) × (n : ℕ) × (r ≡ done c n)
  pub after-a-pass : {d : Direction} {t : List Step} {f : Foretold} {xs store : List Float} {c n : ℕ} {xs' store' : List Float} → Checks d t f → f.verdict ≡ Passes
      → Runs d t xs store (done c n) xs' store' → AsForetold d t f xs n
  -- "and if no `adapt` step runs"
  pub after-a-pass-without-adapt : {d : Direction} {t : List Step} {f : Foretold} {xs store : List Float} {c n : ℕ} {xs' store' : List Float} → Checks d t f
      → f.verdict ≡ Passes → any_adapt (running d t) ≡ false → Runs d t xs store (done c n) xs' store' → FromThePlacesNamed f xs xs'
  -- (every f64 has such bits)
  pub has-bits : (x : Float) → T (fits binary64 x) → Bits (to_bits binary64 x) x

-- ==== Document 02, request 1. "Give preparation a second reading, named PROJ, beside the crate's: in it `inv` also turns `push`, `pop` and `stack`."

pub record Readings : Type 0 where
  -- `prepare` is the case of `prepare_as` for the crate's reading and the crate's mode
  pub prepare-is-the-crates : {text : Bytes} {table : List Step} {r : Result ℕ Refusal} {table' : List Step}
      → PreparesAs Crate mode-is.Crate text table r table' ↔ Prepares text table r table'
  -- the records that preparing answers are those of its rule, in either reading and mode, and "Records name their reading."
  pub records-answer-as : (how : Reading) (mode : Mode) {text : Bytes} {table : List Step} {n : ℕ} {table' : List Step}
      → PreparesAs how mode text table (Ok n) table' → (prepare_as how mode text ≡ answers (take n table')) × Every (InIt (reading_number how)) (take n table')
  -- "`inv` also turns `push`, `pop` and `stack`": whatever the operator, a step with `inv` does what the step without it does in the other direction
  pub inv-turns-every-operator : (d : Direction) (number : ℕ) (l : List ℤ) (fwd back : ℕ)
      → act d (in_reading Proj (step_with number l 1 fwd back)) ≡ act (opposite d) (in_reading Proj (step_with number l 0 fwd back))
  -- "18 at a record whose reading is not the first's": a table of one mode (of records with eight slots, as all are) is not refused 18 exactly when its spans rise, up to
  -- byte 40,960, and some text prepares to it in that mode, spans aside
  pub refused-18-unless-prepared : (mode : Mode) (t : List Step) → Every Slots t → all_of (of_mode mode) t ≡ true
      → (refusal18 t ≡ None) ↔ (Rise 40960 0 t × ((how : Reading) × Texted how mode t))
  -- and any table, exactly when it has 64 records at most, all of its first one's reading, its spans rise, and each alone has a text, in some mode, spans aside
  pub refused-18-unless-each : (t : List Step) → Every Slots t
      → (refusal18 t ≡ None) ↔ ((length t ≤ 64) × Every (InIt (table_reading t)) t × Rise 40960 0 t × Every TextedAlone t)
  -- a record alone, in its own reading: it is made, and of a mode, exactly when some text prepares to it in that mode, spans aside
  pub made-exactly : (mode : Mode) (s : Step) → Slots s → ((made s ≡ true) × (of_mode mode s ≡ true)) ↔ Texted (reading_of s.reading) mode (s ∷ [])
  -- what `write` answered of a table of one mode gives the table back, prepared in its reading and that mode, with the spans of that text: its steps' texts in turn, a
  -- byte between
  pub written-returns : (mode : Mode) (t : List Step) → Every Slots t → all_of (of_mode mode) t ≡ true → {out : Bytes} {n : ℕ} {out' : Bytes}
      → Lends (write t) out (Ok n) out' → (table : List Step) → length t ≤ length table → {r : Result ℕ Refusal} {table' : List Step}
      → PreparesAs (reading_of (table_reading t)) mode (take n out') table r table'
      → (r ≡ Ok (length t)) × (table' ≡ with_spans (written_spans t) t ++ drop (length t) table)

-- ==== Document 02, request 2. "Add a documented mode, chosen for a whole preparation".

pub record Modes : Type 0 where
  -- the records that a preparation in a mode answers are of that mode: none is the other mode's `adapt`
  pub records-of-the-mode : (how : Reading) (mode : Mode) {text : Bytes} {table : List Step} {n : ℕ} {table' : List Step}
      → PreparesAs how mode text table (Ok n) table' → all_of (of_mode mode) (take n table') ≡ true
  -- "Refusals: none new.": what one mode refuses, the other refuses, with the same number at the same place
  pub refuses-the-same : (mode other : Mode) (how : Reading) (text : Bytes) (number place : ℕ)
      → prepare_as how mode text ≡ refuses number place → prepare_as how other text ≡ refuses number place
  pub refuses-12-the-same : (mode other : Mode) (how : Reading) (text : Bytes) (place offset : ℕ)
      → prepare_as how mode text ≡ refuses12 place offset → prepare_as how other text ≡ refuses12 place offset
  -- "each output place takes the input place of the same axis", for any two words v and w that `from` and `to` can be
  pub same-axis : (v w : Word) → IsWord v → IsWord w → (i : ℕ) → 1 ≤ i → i ≤ 4 → size (arg (input_at v w i) v.axes) ≡ size (arg i w.axes)
  -- "times the input's sign and angle factor over the output's"
  pub forward-in-words : (v w : Word) → IsWord v → IsWord w → (i : ℕ) → 1 ≤ i → i ≤ 4 → (t : Coord)
      → number i (adapted_by_axis false (combined_by_axis v w) t) ≡ mul binary64 (number (input_at v w i) t) (div binary64 (sign_angle v (input_at v w i)) (sign_angle w i))
  -- "The inverse sends each number back to the place it came from, times one over the same factor."
  pub inverse-in-words : (v w : Word) → IsWord v → IsWord w → (i : ℕ) → 1 ≤ i → i ≤ 4 → (t : Coord)
      → number (input_at v w i) (adapted_by_axis true (combined_by_axis v w) t)
      ≡ mul binary64 (number i t) (div binary64 one (div binary64 (sign_angle v (input_at v w i)) (sign_angle w i)))
  -- "Where every factor is plus or minus one, inverse after forward restores all numbers that are not NaN, bit for bit", and so does forward after inverse: a
  -- step of this mode that no mark leaves out, a run of it, and a run of it the other way on the list that the first one left
  pub restores : (s : Step) → made s ≡ true → operator s ≡ Documented → is_set s.omit_fwd ≡ false → is_set s.omit_inv ≡ false → EachUnit (args s)
      → (d : Direction) {xs store : List Float} {c n : ℕ} {xs' store' : List Float} → Runs d (s ∷ []) xs store (done c n) xs' store'
      → {store₂ : List Float} {c₂ n₂ : ℕ} {xs'' store₂' : List Float} → Runs (opposite d) (s ∷ []) xs' store₂ (done c₂ n₂) xs'' store₂'
      → (i : ℕ) → i < length xs / 4 → (j : ℕ) → 1 ≤ j → j ≤ 4 → (p q : ℕ) → Bits p (number_at xs i j) → Bits q (number_at xs'' i j) → Alike false p q

-- ==== Document 02, request 3. "Tell me where the bad number is."

pub record Offsets : Type 0 where
  -- "The series reading must return the byte offset .. Preparation passes the offset on": where preparing answers 12 at a place and an offset, the byte at the offset of that
  -- step's text begins a piece, or a flag's value, that breaks the rule, and nothing before it does
  pub prepare-offset : {text : Bytes} {table table' : List Step} {place offset : ℕ} → Prepares text table (refusal_at 12 place offset) table' → FirstFault text place offset
  pub prepare-as-offset : (how : Reading) (mode : Mode) {text : Bytes} {table table' : List Step} {place offset : ℕ}
      → PreparesAs how mode text table (refusal_at 12 place offset) table' → FirstFault text place offset
  -- "12 gains the offset", and no other refusal has one
  pub no_other : {text : Bytes} {table table' : List Step} {number place offset : ℕ} → Prepares text table (refusal_at number place offset) table'
      → (number ≡ 12 → ⊥) → offset ≡ 0
  pub no-other-as : (how : Reading) (mode : Mode) {text : Bytes} {table table' : List Step} {number place offset : ℕ}
      → PreparesAs how mode text table (refusal_at number place offset) table' → (number ≡ 12 → ⊥) → offset ≡ 0

-- ==== Document 02, request 4. "Underline the faulty step."

-- "Depths, places and tuples must not depend on spans": what the calls say of one table they say of the other, but for the span that the check returns
pub record SameOfBoth (t u : List Step) : Type 0 where
  pub checks : {d : Direction} {f g : Foretold} → Checks d t f → Checks d u g → SaysTheSame f g
  pub runs : {d : Direction} {xs store : List Float} {r s : Result Finished Refusal} {xs' xs'' store' store'' : List Float}
      → Runs d t xs store r xs' store' → Runs d u xs store s xs'' store'' → (r ≡ s) × (xs' ≡ xs'') × (store' ≡ store'')
  pub writes : {out : Bytes} {r s : Result ℕ Refusal} {out' out'' : Bytes} → Lends (write t) out r out' → Lends (write u) out s out'' → (r ≡ s) × (out' ≡ out'')

pub record Spans : Type 0 where
  -- "the normalised definition", which the call `definition` answers
  pub definition-answer : {text out : Bytes} {m : ℕ} {out' : Bytes} → Writes define text out (Ok m) out' → definition text ≡ take m out'
  -- "Each step record gains the first byte and length of its text in the normalised definition": the reader, from the definition's first byte on, finds the first record's
  -- text at its span, from there on the second's, and so on, and none behind the last
  pub spans-are-the-readers : (how : Reading) (mode : Mode) {text : Bytes} {table : List Step} {n : ℕ} {table' : List Step}
      → PreparesAs how mode text table (Ok n) table' → Walk (definition text) 0 (take n table')
  -- "taken before leading modifiers are turned to the end": the bytes there are the step's words as it is split off, a space between, and no more
  pub bytes-there : (how : Reading) (mode : Mode) {text : Bytes} {table : List Step} {n : ℕ} {table' : List Step}
      → PreparesAs how mode text table (Ok n) table' → map (λ (s : Step). bytes_at (definition text) s.span) (take n table') ≡ map joined (steps text)
  -- "Spans of a table rise and do not overlap", within the definition, which has 40,960 bytes at most
  pub spans-rise : (how : Reading) (mode : Mode) {text : Bytes} {table : List Step} {n : ℕ} {table' : List Step}
      → PreparesAs how mode text table (Ok n) table' → Rise (length (definition text)) 0 (take n table') × (length (definition text) ≤ 40960)
  -- "the check returns the span with its step", and none where it names none
  pub few-span : {d : Direction} {t : List Step} {f : Foretold} (k : ℕ) → Checks d t f → f.verdict ≡ TooFew k → f.span ≡ span_at k t
  pub many-span : {d : Direction} {t : List Step} {f : Foretold} (k : ℕ) → Checks d t f → f.verdict ≡ TooMany k → f.span ≡ span_at k t
  pub pass-span : {d : Direction} {t : List Step} {f : Foretold} → Checks d t f → f.verdict ≡ Passes → f.span ≡ no_span
  pub refused-span : {d : Direction} {t : List Step} {f : Foretold} (number k : ℕ) → Checks d t f → f.verdict ≡ Refused number k → f.span ≡ no_span
  -- "The site editor marks the step the check names": the bytes at the span that the check of a prepared definition returns are the text of the step that it names
  pub underlines-few : (how : Reading) (mode : Mode) {text : Bytes} {table : List Step} {n : ℕ} {table' : List Step} {d : Direction} {f : Foretold} (k : ℕ)
      → PreparesAs how mode text table (Ok n) table' → Checks d (take n table') f → f.verdict ≡ TooFew k
      → bytes_at (definition text) f.span ≡ get_or (map joined (steps text)) (k - 1) []
  pub underlines-many : (how : Reading) (mode : Mode) {text : Bytes} {table : List Step} {n : ℕ} {table' : List Step} {d : Direction} {f : Foretold} (k : ℕ)
      → PreparesAs how mode text table (Ok n) table' → Checks d (take n table') f → f.verdict ≡ TooMany k
      → bytes_at (definition text) f.span ≡ get_or (map joined (steps text)) (k - 1) []
  -- "and that is proved of two accepted tables that differ only there"
  pub spans-aside : (t u : List Step) → refusal18 t ≡ None → refusal18 u ≡ None → SameButSpans t u → SameOfBoth t u

-- ==== From C and from Rust: behind each answer of an export there is one of the call that it exports, with the same storage afterwards, so all of the above
-- holds there too. Number 0 is an answer, a pass, or a run that is done; and a reader that finds nothing is at the end.

pub record Exports : Type 0 where
  pub normalise-export : ExportsText normalise
  pub definition-export : ExportsText define
  pub split-export : ExportsText split
  pub parameters-export : ExportsText parameters
  pub translate-export : ExportsText translate
  pub next-export : (text : Bytes) (at : ℕ) (r : Part) → r ≡ plain_found (next text at)
      → (f : Option Found) × (f ≡ next text at) × (r ≡ plain_found f) × (r.found ≡ 0 → f ≡ None)
  pub prepare-export : {text : Bytes} {table : List Step} {r : Answer} {table' : List Step} → Promised record_count prepare text table r table'
      → (w : Result ℕ Refusal) × Prepares text table w table' × (r ≡ plain_prepared w) × (r.number ≡ 0 → w ≡ Ok r.length)
  pub prepare-as-export : (how : Reading) (mode : Mode) {text : Bytes} {table : List Step} {r : Answer} {table' : List Step}
      → Promised record_count (prepare_as how mode) text table r table' → (w : Result ℕ Refusal) × PreparesAs how mode text table w table' × (r ≡ plain_prepared w) × (r.number ≡ 0 → w ≡ Ok r.length)
  pub check-export : {inverse : ℕ} {t : List Step} {r : Checked} → PlainChecks inverse t r
      → (f : Foretold) × Checks (direction_of inverse) t f × (r ≡ plain_check f) × (r.said.number ≡ 0 → f.verdict ≡ Passes)
  pub run-export : {inverse : ℕ} {t : List Step} {xs store : List Float} {r : plain-run.Done} {xs' store' : List Float} → PlainRuns inverse t xs store r xs' store'
      → (w : Result Finished Refusal) × Runs (direction_of inverse) t xs store w xs' store' × (r ≡ plain_ran w) × (r.number ≡ 0 → w ≡ done r.count r.left)
  -- and no second outcome meets these contracts either (of the text calls and of preparing: `text-once`)
  pub next-export-once : {r s : Part} (text : Bytes) (at : ℕ) → r ≡ plain_found (next text at) → s ≡ plain_found (next text at) → r ≡ s
  pub check-export-once : {inverse : ℕ} {t : List Step} {r s : Checked} → PlainChecks inverse t r → PlainChecks inverse t s → r ≡ s
  pub run-export-once : {inverse : ℕ} {t : List Step} {xs store : List Float} {r s : plain-run.Done} {xs' xs'' store' store'' : List Float}
      → PlainRuns inverse t xs store r xs' store' → PlainRuns inverse t xs store s xs'' store'' → (r ≡ s) × (xs' ≡ xs'') × (store' ≡ store'')

-- ==== All of it.

pub record Promises (w : World) : Type 1 where
  pub calls : Calls w
  pub demand1 : Demand1
  pub demand2 : Demand2
  pub demand3 : Demand3
  pub readings : Readings
  pub modes : Modes
  pub offsets : Offsets
  pub spans : Spans
  pub exports : Exports
