-- What is wrong with the steps of a PROJ text, and what their pipeline says.
use Rattle.std.specs.Prelude.{◌≡◌, cond, ◌&&◌, ℕ, ◌≤◌, length, ltb, Option, None, Some}
use Rattle.rules.specs.Text.Bytes.{Bytes, Words, Steps}
use Rattle.rules.specs.Text.Refusal.{Reply, refuses}
use Rattle.rules.specs.Proj.Translate.{Pipeline, pipeline, init_first, is_pipeline, only_inv, first_fault}
use Rattle.proj_steps.specs.Plans.{said}
use Rattle.proj_steps.specs.declared.pipe.Pipe.{Pipe}
use Rattle.proj.specs.declared.Flaw.{Flaw}

-- a reply, unless there is a refusal at a place
abbrev pub unless : Option ℕ → ℕ → Reply Bytes → Reply Bytes
unless (Some number) place reply = refuses number place
unless None place reply = reply

-- the refusal of a step at a place
pub record IsStepFlaw (p : Pipeline) (place : ℕ) (ws : Words) (number : Option ℕ) : Type 0 where
  pub says : (reply : Reply Bytes)
      → cond (init_first ws) (refuses 3 place) (cond (ltb 1 place && is_pipeline ws) (refuses 4 place) (cond (only_inv p ws) (refuses 5 place) reply)) ≡ unless number place reply

-- a reply, unless there is a first refusal
abbrev pub without : Option Flaw → Reply Bytes → Reply Bytes
without (Some f) reply = refuses f.number f.place
without None reply = reply

-- the first refusal
pub record IsFlaw (p : Pipeline) (ss : Steps) (f : Option Flaw) : Type 0 where
  pub says : (reply : Reply Bytes) → first_fault p 1 ss reply ≡ without f reply

-- the pipeline, with its globals, no longer than that
pub record IsPipe (most : ℕ) (ss : Steps) (p : Pipe) : Type 0 where
  pub few : length p.globals.now ≤ most
  pub is : pipeline ss ≡ said p
