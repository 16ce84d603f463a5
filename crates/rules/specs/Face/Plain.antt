-- The answers of the public calls as plain records, which C and Rust can hold: "a definition gives this paper's number and values for
-- each of its cases". And what the exports promise in these words.
use Rattle.rules.specs.declared.Refusal.{Refusal}
use Rattle.rules.specs.declared.Finished.{Finished}
use Rattle.std.specs.Prelude.{◌≡◌, cond, List, ℕ, eqb, Float, Option, Some, None, Result, Ok, Err}
use Rattle.rules.specs.Text.Refusal.{Reply, written, prepared}
use Rattle.rules.specs.Pipeline.Check.{check}
use Rattle.rules.specs.Pipeline.Run.{Outcome, runs}
use Rattle.rules.specs.declared.Mode.{Mode}
use Rattle.rules.specs.declared.Mode.TheVariants as mode
use Rattle.rules.specs.declared.Step.{Step}
use Rattle.rules.specs.declared.Found.{Found}
use Rattle.rules.specs.declared.Direction.{Direction}
use Rattle.rules.specs.declared.Direction.TheVariants.{Forward, Inverse}
use Rattle.rules.specs.declared.Verdict.{Verdict}
use Rattle.rules.specs.declared.Verdict.TheVariants as verdict-is
use Rattle.rules.specs.declared.Foretold.{Foretold}
use Rattle.rules.specs.declared.Answer.{Answer}
use Rattle.rules.specs.declared.Part.{Part}
use Rattle.rules.specs.declared.Said.{Said}
use Rattle.rules.specs.declared.Checked.{Checked}
use Rattle.rules.specs.declared.Done.{Done}

-- ---- texts

-- number 0 for an answer, and its length
unfoldable pub plain_written : Result ℕ Refusal → Answer
plain_written (Ok n) = record { number = 0; place = 0; length = n; offset = 0 }
plain_written (Err r) = record { number = r.number; place = r.place; length = 0; offset = 0 }

abbrev pub replied : Reply ℕ → Answer
replied r = plain_written (written r)

-- ---- the walk over the steps

-- 1 for a step, 0 for the end
unfoldable pub plain_found : Option Found → Part
plain_found (Some found) = record { found = 1; from = found.from; to = found.to; then = found.then.at }
plain_found None = record { found = 0; from = 0; to = 0; then = 0 }

-- ---- step tables

-- number 0 for an answer, and how many records it has; of a refusal its offset too
unfoldable pub plain_prepared : Result ℕ Refusal → Answer
plain_prepared (Ok n) = record { number = 0; place = 0; length = n; offset = 0 }
plain_prepared (Err r) = record { number = r.number; place = r.place; length = 0; offset = r.offset }

abbrev pub record_count : Reply ℕ → Answer
record_count r = plain_prepared (prepared r)

-- 0 is the crate's mode, any other number the documented
unfoldable pub mode_of : ℕ → Mode
mode_of number = cond (eqb number 0) mode.Crate mode.Documented

-- 0 is forward, any other number inverse
unfoldable pub direction_of : ℕ → Direction
direction_of inverse = cond (eqb inverse 0) Forward Inverse

-- the verdict: 0 a pass, 1 too few, 2 too many, or the refusal's number
unfoldable pub plain_verdict : Verdict → Said
plain_verdict verdict-is.Passes = record { number = 0; place = 0 }
plain_verdict (verdict-is.TooFew place) = record { number = 1; place = place }
plain_verdict (verdict-is.TooMany place) = record { number = 2; place = place }
plain_verdict (verdict-is.Refused number place) = record { number = number; place = place }

unfoldable pub plain_check : Foretold → Checked
plain_check f =
    record {
      said = plain_verdict f.verdict;
      span = f.span;
      run = f.run;
      depths = f.depths;
      deepest = f.deepest;
      left = f.left;
      told = f.told;
      places = f.places;
    }

-- what the check promises of its answer
pub record PlainChecks (inverse : ℕ) (t : List Step) (result : Checked) : Type 0 where
  pub exactly : result ≡ plain_check (check (direction_of inverse) t)

unfoldable pub plain_ran : Result Finished Refusal → Done
plain_ran (Ok f) = record { number = 0; place = 0; count = f.count; left = f.left }
plain_ran (Err r) = record { number = r.number; place = r.place; count = 0; left = 0 }

-- what a run answers, and what it leaves in the list and in the store
pub record PlainOutcome : Type 0 where
  pub answer : Done
  pub list : List Float
  pub store : List Float

unfoldable pub plain_outcome : Outcome → PlainOutcome
plain_outcome o = record { answer = plain_ran o.answer; list = o.list; store = o.store }

-- what a run promises of its result, the list and the store, before and after
pub record PlainRuns (inverse : ℕ) (t : List Step) (xs store : List Float) (result : Done) (xs' store' : List Float) : Type 0 where
  pub exactly : ◌≡◌ {A = PlainOutcome} (record { answer = result; list = xs'; store = store' }) (plain_outcome (runs (direction_of inverse) t xs store))
