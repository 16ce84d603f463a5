-- What preparing is to write over a lent row.
use Rattle.std.specs.Result.{result_unwrap_or}
use Rattle.rules.specs.declared.Refusal.{Refusal}
use Rattle.std.specs.Prelude.{◌≡◌, ℕ, List, length, Result}
use Rattle.rules.specs.Text.Bytes.{Bytes}
use Rattle.rules.specs.Pipeline.Prepare.{PreparesAs}
use Rattle.rules.specs.declared.Mode.{Mode}
use Rattle.rules.specs.declared.Reading.{Reading}
use Rattle.rules.specs.declared.Step.{Step}
use Rattle.rows.specs.Row.{laid, Fits}
use Rattle.entry.specs.declared.Plan.{Plan}

-- how many records an answer writes: "A refusal leaves .. step table .. as they were"
abbrev pub count_of : Result ℕ Refusal → ℕ
count_of answer = result_unwrap_or answer 0

-- A plan for a row of so many records, in a reading and a mode. Whatever such a row holds, the plan's records have room in it, and laid over its first
-- ones, with the plan's answer, they are what preparing promises.
pub record Plans (r : Reading) (mode : Mode) (text : Bytes) (lent : ℕ) (p : Plan) : Type 0 where
  pub fits : (row : List Step) → length row ≡ lent → Fits p.n row
  pub keeps : (row : List Step) → length row ≡ lent → PreparesAs r mode text row p.answer (laid p.steps p.n row)
