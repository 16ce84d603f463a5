-- What preparing in a reading and a mode leaves in a table of 64 blank records.
use Rattle.rules.specs.declared.Refusal.{Refusal}
use Rattle.std.specs.Prelude.{Ok, Err, Result}
use mathlib.Core.Path.{◌≡◌, refl, sym, ap, ◌∙◌, subst}
use Prim.Native.Nat.{ℕ, ◌-◌, ◌≤◌}
use mathlib.Core.List.{List, ◌++◌, append_assoc, append-nil}
use native.Mathlib.Omega.{arith}
use borrow.Author.Tests.{le-ltb}
use lib.ListN.{length, take, drop}
use lib.Seq.{take_at}
use Rattle.rules.specs.Text.Bytes.{Bytes}
use Rattle.rules.specs.Text.Refusal.{Reply, answers, refuses, refuses12, tested, lent, prepared}
use Rattle.rules.specs.Pipeline.Prepare.{prepare_as}
use Rattle.rules.specs.Pipeline.Record.{listed}
use Rattle.laws_lists.specs.Tests.{never}
use Rattle.rules.specs.declared.Mode.{Mode}
use Rattle.rules.specs.declared.Reading.{Reading}
use Rattle.rules.specs.declared.Step.{Step}
use Rattle.rules.specs.declared.Table.{Table}
use Rattle.prepare.specs.declared.Preparing.{Preparing}
use Rattle.prepare.specs.Lent.{with_row, lent_to, preparing_as}
use Rattle.rows.specs.Row.{blanks, tabled, emptied}
use Rattle.show.proofs.Located.{Located, prepare-located}
use Rattle.show.proofs.Replies.{Of, AtMost, prepared-few}

-- the first records of a row, and nothing past 64
listed-front : (xs rest : List Step) → length xs ≤ 64 → listed (tabled (xs ++ rest) (length xs)) ≡ xs
unfolding listed
listed-front xs rest h =
    let z : length xs - 64 ≡ 0 = omega arith in
    rw (z, take_at xs rest (length xs) refl) (append-nil xs)

record Told (reply : Reply (List Step)) (q : Preparing) : Type 0 where
  refusal : (e : Refusal) → q.answer ≡ Err e → (e.number ≡ 12 → ⊥) → reply ≡ refuses e.number e.place
  located : (e : Refusal) → q.answer ≡ Err e → e.number ≡ 12 → reply ≡ refuses12 e.place e.offset
  records : (n : ℕ) → q.answer ≡ Ok n → reply ≡ answers (listed (tabled q.table.steps n))

refused-as : {A : Type 0} {x y : Refusal} → ◌≡◌ {A = Result A Refusal} (Err x) (Err y) → x ≡ y
refused-as e = cc e

told : (reply : Reply (List Step)) → Of (AtMost 64) reply → Located reply → Told reply (lent_to reply (emptied 64))
unfolding lent_to with_row lent prepared Of Located
told (refuses m q) few l =
    record {
      refusal = λ e f h. rw (← refused-as f) refl;
      located = λ e f h. absurd (l (ap (λ (r : Refusal). r.number) (refused-as f) ∙ h));
      records = λ n f. absurd (never (cc f));
    }
told (refuses12 q o) few l =
    record {
      refusal = λ e f h. absurd (h (sym (ap (λ (r : Refusal). r.number) (refused-as f))));
      located = λ e f h. rw (← refused-as f) refl;
      records = λ n f. absurd (never (cc f));
    }
told (answers xs) few l =
    rw (le-ltb (length (take 64 blanks)) (length xs) room)
    (record {
      refusal = λ e f h. absurd (never (cc f));
      located = λ e f h. absurd (never (cc f));
      records = λ n e.
          let a : length xs ≡ n = cc e in
          rw (← a, append_assoc xs (drop (length xs) (take 64 blanks)) (drop 64 blanks))
          (ap answers (sym (listed-front xs (drop (length xs) (take 64 blanks) ++ drop 64 blanks) few)));
    })
  where
    room : length xs ≤ length (take 64 blanks)
    room = unfold blanks in few

module _ (r : Reading) (mode : Mode) (t : Bytes) {e : Table} {q : Preparing} (f : e ≡ emptied 64) (g : q ≡ preparing_as r mode t e) where
  all_told : Told (tested (prepare_as r mode) t) q
  unfolding preparing_as
  all_told = subst (Told (tested (prepare_as r mode) t)) (sym (g ∙ ap (preparing_as r mode t) f)) (told (tested (prepare_as r mode) t) (prepared-few r mode t) (prepare-located r mode t))

  pub prepare-refused : {e : Refusal} → q.answer ≡ Err e → (e.number ≡ 12 → ⊥) → tested (prepare_as r mode) t ≡ refuses e.number e.place
  prepare-refused {e} h k = all_told.refusal e h k

  pub prepare-faulty : {e : Refusal} → q.answer ≡ Err e → e.number ≡ 12 → tested (prepare_as r mode) t ≡ refuses12 e.place e.offset
  prepare-faulty {e} h k = all_told.located e h k

  pub prepare-steps : {n : ℕ} {u : Table} → q.answer ≡ Ok n → u ≡ tabled q.table.steps n → tested (prepare_as r mode) t ≡ answers (listed u)
  prepare-steps {n} {u} h k = all_told.records n h ∙ ap (λ (x : Table). answers (listed x)) (sym k)
