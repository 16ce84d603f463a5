-- What the call by value leaves in a table of blank records is a plan for every row of that length.
use Rattle.rules.specs.declared.Refusal.{Refusal}
use Rattle.std.specs.Prelude.{◌≡◌, ℕ, ◌≤◌, min, Bool, true, false, cond, List, ◌++◌, ltb, length, take, drop, Result, Ok}
use Rattle.std.proofs.Math.Path.{refl}
use Rattle.std.proofs.Common.{sym, ap, subst, ◌∙◌, zero-le, append_assoc, arith, length-take, take_at}
use borrow.Author.Tests.{lt-ltb, le-ltb, ltb-true, ltb-false}
use Rattle.rules.specs.Text.Bytes.{Bytes}
use Rattle.rules.specs.Text.Refusal.{Reply, answers, refuses, refuses12, tested, lent, outcome, prepared, refusal_at}
use Rattle.rules.specs.Pipeline.Prepare.{prepare_as}
use Rattle.rules.specs.declared.Mode.{Mode}
use Rattle.rules.specs.declared.Reading.{Reading}
use Rattle.rules.specs.declared.Step.{Step}
use Rattle.rules.specs.declared.Table.{Table}
use Rattle.prepare.specs.declared.Preparing.{Preparing}
use Rattle.prepare.specs.Lent.{with_row, lent_to, preparing_as}
use Rattle.rows.specs.Row.{blanks, emptied, laid, Fits}
use Rattle.rows.specs.LaidRow.{length-blanks, laid_none}
use Rattle.entry.specs.declared.Plan.{Plan}
use Rattle.entry.specs.Plans.{count_of, Plans}
use Rattle.laws_records.specs.Made.{prepare-as-made, tested-answers}

-- the plan that is made of what the call by value leaves
unfoldable pub plan_of : Preparing → Plan
plan_of q = record { answer = q.answer; steps = q.table.steps; n = count_of q.answer }

-- a reply, brought into the blank records and from there into a row
record Brings (reply : Reply (List Step)) (row : List Step) (p : Plan) : Type 0 where
  fits : Fits p.n row
  keeps : ◌≡◌ {A = Result ℕ Refusal × List Step} (p.answer, laid p.steps p.n row) (lent prepared reply row)

module _ (row : List Step) where
  -- nothing is written
  leaves : (reply : Reply (List Step)) (number place offset : ℕ) (steps : List Step)
      → ◌≡◌ {A = Result ℕ Refusal × List Step} (refusal_at number place offset, row) (lent prepared reply row)
      → Brings reply row (record { answer = refusal_at number place offset; steps = steps; n = 0 })
  leaves reply number place offset steps e =
      record {
        fits = record { held = zero-le; room = zero-le };
        keeps = ap (λ (l : List Step). (refusal_at number place offset, l)) (laid_none steps row) ∙ e;
      }

  -- all records are written, from the first on
  writes : (xs rest : List Step) → length xs ≤ 64 → length xs ≤ length row
      → Brings (answers xs) row (record { answer = Ok (length xs); steps = xs ++ rest; n = length xs })
  unfolding laid lent prepared
  writes xs rest few room =
      record {
        fits = record { held = few; room = room };
        keeps = rw (take_at xs rest (length xs) refl, le-ltb (length row) (length xs) room);
      }

-- of at most 64 records
brought : (reply : Reply (List Step)) → ((xs : List Step) → reply ≡ answers xs → length xs ≤ 64) → (row : List Step)
    → Brings reply row (plan_of (lent_to reply (emptied (length row))))
unfolding plan_of lent_to with_row lent prepared
brought (refuses number place) few row = leaves row (refuses number place) number place 0 _ refl
brought (refuses12 place offset) few row = leaves row (refuses12 place offset) 12 place offset _ refl
brought (answers xs) few row = go (ltb (length front) (length xs)) refl
  where
    front : List Step
    front = take (length row) blanks

    size : length front ≡ min (length row) 64
    size = length-take (length row) blanks ∙ ap (min (length row)) length-blanks

    small : length xs ≤ 64
    small = few xs refl

    go : (b : Bool) → ltb (length front) (length xs) ≡ b
        → Brings (answers xs) row (plan_of (with_row (emptied (length row)) (cond b (refusal_at 7 0 0, front) (Ok (length xs), xs ++ drop (length xs) front))))
    go true e = leaves row (answers xs) 7 0 0 _ (rw (lt-ltb (length row) (length xs) (omega (arith, size, small, ltb-true (length front) (length xs) e))))
    go false e =
        rw (append_assoc xs (drop (length xs) front) (drop (length row) blanks))
        (writes row xs (drop (length xs) front ++ drop (length row) blanks) small (omega (arith, size, ltb-false (length front) (length xs) e)))

-- the plan keeps what preparing promises
pub plans : (r : Reading) (mode : Mode) (text : Bytes) (room : ℕ) {p : Plan} → p ≡ plan_of (preparing_as r mode text (emptied room)) → Plans r mode text room p
unfolding preparing_as outcome
plans r mode text room {p} e =
    record { fits = λ row l. (brings row l).fits; keeps = λ row l. record { exactly = (brings row l).keeps } }
  where
    brings : (row : List Step) → length row ≡ room → Brings (tested (prepare_as r mode) text) row p
    brings row l =
        subst (Brings (tested (prepare_as r mode) text) row) (ap (λ (n : ℕ). plan_of (preparing_as r mode text (emptied n))) l ∙ sym e)
        (brought (tested (prepare_as r mode) text) (λ xs h. (prepare-as-made r mode text xs (tested-answers (prepare_as r mode) text xs h)).1) row)

-- the same, from what the callees promise
pub planned-by : (r : Reading) (mode : Mode) (text : Bytes) (room : ℕ) {t : Table} {q : Preparing} {n : ℕ} → t ≡ emptied room → q ≡ preparing_as r mode text t → n ≡ count_of q.answer
    → Plans r mode text room (record { answer = q.answer; steps = q.table.steps; n = n })
unfolding plan_of
planned-by r mode text room {t} {q} e f g =
    plans r mode text room
    ((λ i. record { answer = q.answer; steps = q.table.steps; n = g i }) ∙ ap plan_of (f ∙ ap (preparing_as r mode text) e))
