-- Records and refusals of one step, in the words of the code.
use Rattle.std.specs.Prelude.{◌≡◌, ℕ, ◌+◌, ◌≤◌, Bool, cond, ◌&&◌, List, [], ◌∷◌, ◌++◌, eqb, ℤ, pos, Option, None, Some, Result, Ok, Err}
use Rattle.rules.specs.Text.Ascii.{ascii}
use Rattle.rules.specs.Text.Refusal.{Reply, answers, refuses, refuses12}
use Rattle.rules.specs.Text.Parameters.{Parameter}
use Rattle.rules.specs.Operators.Table.{operator_of, is_args}
use Rattle.rules.specs.Pipeline.Record.{step_with}
use Rattle.rules.specs.declared.Step.{Step}
use Rattle.record.specs.Records.{mark_of}
use Rattle.prepare.specs.Lookup.{given}
use Rattle.prepare.specs.SeriesRead.{args_of, Good}
use Rattle.prepare.specs.declared.faults.Fault.{Fault}
use Rattle.prepare.specs.declared.series.Args.{Args}
use Rattle.prepare.specs.declared.series.Numbers.{Numbers}

-- a refusal by its number, at a place; where it is 12, at a byte
abbrev pub refused_at : {A : Type 0} → ℕ → ℕ → ℕ → Reply A
refused_at number place at = cond (eqb number 12) (refuses12 place at) (refuses number place)

-- what judging gives, as a reply
abbrev pub reply_is : Result Step Fault → Reply Step
reply_is (Ok s) = answers s
reply_is (Err f) = refused_at f.number 0 f.at

-- the record of the operator of that number
unfoldable pub record_at : ℕ → List Parameter → List ℤ → Step
record_at operator ps l =
    step_with operator l (mark_of (given (ascii "inv") ps)) (mark_of (given (ascii "omit_fwd") ps)) (mark_of (given (ascii "omit_inv") ps))

unfoldable pub recorded_at : ℕ → List Parameter → Option (List ℤ) → Option Step
recorded_at operator ps None = None
recorded_at operator ps (Some l) = Some (record_at operator ps l)

-- the numbers of a series, if they are whole and keep the rule of the operator of that number
abbrev pub kept_by : ℕ → Numbers → Option (List ℤ)
kept_by operator r = cond (r.whole && is_args (operator_of operator) (args_of r.args)) (Some (args_of r.args)) None

-- these are the arguments
pub record Axes (l : List ℤ) (r : Args) : Type 0 where
  pub good : Good r
  pub are : args_of r ≡ l

-- one more
abbrev pub Extended : Args → ℤ → Args → Type 0
Extended a axis r = Axes (args_of a ++ (axis ∷ [])) r

-- one more, if its flag is given
pub record Flagged (a : Args) (flag : Bool) (axis : ℤ) (r : Args) : Type 0 where
  pub axes : Axes (args_of a ++ cond flag (axis ∷ []) []) r
  pub few : r.n ≤ a.n + 1

-- "Default 1,2,3,4."
abbrev pub four_axes : List ℤ
four_axes = pos 1 ∷ pos 2 ∷ pos 3 ∷ pos 4 ∷ []
