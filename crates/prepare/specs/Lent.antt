-- The lent step table, before and after; and preparing a text and a normalised text in a mode.
use Rattle.rules.specs.declared.Refusal.{Refusal}
use Rattle.std.specs.Prelude.{ℕ, cond, Option, None, Some, List, ◌++◌, map, take, drop, eqb, ltb, Result, Ok, Err}
use Rattle.rules.specs.Text.Bytes.{Bytes}
use Rattle.rules.specs.Text.Refusal.{Reply, answers, and_then, tested, lent, prepared, refusal_at}
use Rattle.rules.specs.Text.Split.{steps_of, split_steps, step_text}
use Rattle.rules.specs.Text.Reader.{spans_of}
use Rattle.rules.specs.Pipeline.Record.{in_reading, with_spans}
use Rattle.rules.specs.Pipeline.Prepare.{prepare_steps, prepare_in, prepare_as}
use Rattle.rules.specs.declared.Mode.{Mode}
use Rattle.rules.specs.declared.Reading.{Reading}
use Rattle.rules.specs.declared.Span.{Span}
use Rattle.rules.specs.declared.Step.{Step}
use Rattle.rules.specs.declared.Table.{Table}
use Rattle.prepare.specs.declared.Preparing.{Preparing}

-- ---- the lent row

-- The records lent: the first `n` of the table. (A table that says more than its 64 lends these.)
abbrev pub row : Table → List Step
row t = take t.n t.steps

-- what is answered, and the table with the row as it is then: what lies past the row, and its length, stay
unfoldable pub with_row : Table → Result ℕ Refusal × List Step → Preparing
with_row t x = record { answer = x.0; table = record { steps = x.1 ++ drop t.n t.steps; n = t.n } }

-- a reply brought into the row
unfoldable pub lent_to : Reply (List Step) → Table → Preparing
lent_to reply t = with_row t (lent prepared reply (row t))

-- Preparing in a mode and in the crate's reading, by the promise of `rules` on the records lent.
unfoldable pub preparing : Mode → Bytes → Table → Preparing
preparing mode text t = lent_to (tested (prepare_in mode) text) t

-- The call `prepare_as`, alike.
unfoldable pub preparing_as : Reading → Mode → Bytes → Table → Preparing
preparing_as r mode text t = lent_to (tested (prepare_as r mode) text) t

-- ---- in a reading

-- the first n records in it, and the others as they are
unfoldable pub first_named : Reading → ℕ → List Step → List Step
first_named r n steps = map (in_reading r) (take n steps) ++ drop n steps

-- those that an answer counts
unfoldable pub answer_named : Reading → Result ℕ Refusal → Table → Preparing
answer_named r (Ok n) t = record { answer = Ok n; table = record { steps = first_named r n t.steps; n = t.n } }
answer_named r (Err refusal) t = record { answer = Err refusal; table = t }

-- ---- a normalised text

-- a reply whose records get these spans
unfoldable pub with_theirs : List Span → Reply (List Step) → Reply (List Step)
with_theirs ps reply = and_then reply (λ l. answers (with_spans ps l))

-- of the texts of its steps, and of the whole, which is split first
unfoldable pub steps_reply : Mode → Bytes → Reply (List Step)
steps_reply mode normalised = with_theirs (spans_of normalised) (prepare_steps mode 1 (map step_text (steps_of normalised)))

unfoldable pub normal_reply : Mode → Bytes → Reply (List Step)
normal_reply mode normalised = with_theirs (spans_of normalised) (and_then (split_steps (steps_of normalised)) (prepare_steps mode 1))

-- ---- as the code has them

-- the byte of a fault, if the refusal is 12
unfoldable pub offset_if : ℕ → ℕ → ℕ
offset_if number at = cond (eqb number 12) at 0

-- a refusal, which leaves the table as it was
abbrev pub refused_with : Refusal → Table → Preparing
refused_with refusal t = record { answer = Err refusal; table = t }

abbrev pub refusing : ℕ → ℕ → ℕ → Table → Preparing
refusing number place offset t = refused_with (record { number = number; place = place; offset = offset }) t

-- the answer after n steps, by the first refusal of one of them, if there is one
unfoldable pub answered : Table → List Step → ℕ → Option Refusal → Preparing
answered t steps n (Some refusal) = cond (ltb 64 n) (refusing 8 0 0 t) (refused_with refusal t)
answered t steps n None =
    cond (ltb 64 n) (refusing 8 0 0 t)
    (cond (ltb t.n n) (refusing 7 0 0 t)
    (record { answer = Ok n; table = record { steps = steps; n = t.n } }))
