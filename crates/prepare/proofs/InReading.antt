-- Preparing in a reading: the records of an answer are those of the crate's reading, named for it.
use Rattle.rules.specs.declared.Refusal.{Refusal}
use Rattle.std.specs.Prelude.{Result, Ok, Err}
use mathlib.Core.Path.{◌≡◌, refl, sym, ap, ◌∙◌}
use Prim.Native.Nat.{ℕ, zero, suc, ◌+◌, ◌≤◌, ◌<◌}
use mathlib.Core.Bool.{Bool, true, false, cond, not}
use mathlib.Core.List.{List, [], ◌∷◌, ◌++◌, map, append_assoc}
use native.Mathlib.Omega.{arith}
use native.Mathlib.Numerals.{add-one}
use lib.Dec.{ltb}
use lib.ListN.{length, get_or, drop, set, length-append, length-map}
use lib.Seq.{take_at, drop_at}
use Rattle.rules.specs.Text.Bytes.{Bytes, in_domain}
use Rattle.rules.specs.Text.Refusal.{Reply, answers, refuses, refuses12, and_then, tested, lent, prepared, refusal}
use Rattle.rules.specs.Pipeline.Record.{in_reading}
use Rattle.rules.specs.Pipeline.Prepare.{prepare_in, prepare_as}
use Rattle.rules.specs.declared.Reading.{Reading}
use Rattle.rules.specs.declared.Mode.{Mode}
use Rattle.rules.specs.declared.Step.{Step}
use Rattle.rules.specs.declared.Table.{Table}
use Rattle.laws_lists.specs.Tests.{never}
use Rattle.prepare.specs.declared.Preparing.{Preparing}
use Rattle.prepare.specs.Lent.{row, with_row, lent_to, preparing, preparing_as, first_named, answer_named, refused_with}

-- ---- the walk over the records

module _ (r : Reading) where
  pub none_named : (l : List Step) → l ≡ first_named r 0 l
  unfolding first_named
  none_named l = refl

  -- one more
  one_more : (l : List Step) (i : ℕ) (z : Step) → i < length l → set (first_named r i l) i (in_reading r (get_or (first_named r i l) i z)) ≡ first_named r (suc i) l
  unfolding first_named
  one_more [] i z h = absurd (omega (arith, h))
  one_more (s ∷ l) zero z h = refl
  one_more (s ∷ l) (suc i) z h = ap (λ (m : List Step). in_reading r s ∷ m) (one_more l i z (omega (arith, h)))

  pub next-named : (l : List Step) (i : ℕ) (z : Step) → i < length l → set (first_named r i l) i (in_reading r (get_or (first_named r i l) i z)) ≡ first_named r (i + 1) l
  next-named l i z h = one_more l i z h ∙ ap (λ (k : ℕ). first_named r k l) (sym (add-one i))

  -- ---- a reply in the table

  abbrev named : Reply (List Step) → Reply (List Step)
  named o = and_then o (λ l. answers (map (in_reading r) l))

  tested-named : (mode : Mode) (t : Bytes) → tested (prepare_as r mode) t ≡ named (tested (prepare_in mode) t)
  unfolding tested prepare_as
  tested-named mode t = go (ltb 4096 (length t)) (not (in_domain t))
    where
      go : (a b : Bool) → cond a (refuses 1 0) (cond b (refuses 2 0) (named (prepare_in mode t))) ≡ named (cond a (refuses 1 0) (cond b (refuses 2 0) (prepare_in mode t)))
      go true b = unfold and_then in refl
      go false true = unfold and_then in refl
      go false false = refl

  front-named : (l y d : List Step) → first_named r (length l) ((l ++ y) ++ d) ≡ (map (in_reading r) l ++ y) ++ d
  unfolding first_named
  front-named l y d =
      rw (append_assoc l y d, take_at l (y ++ d) (length l) refl, drop_at l (y ++ d) (length l) refl) (sym (append_assoc (map (in_reading r) l) y d))

  -- a reply that is named and brought into the row is the one brought there and named
  lent-named : (o : Reply (List Step)) (t : Table) → lent_to (named o) t ≡ answer_named r (lent_to o t).answer (lent_to o t).table
  unfolding lent_to with_row and_then lent prepared
  lent-named (refuses number place) t = unfold answer_named in refl
  lent-named (refuses12 place offset) t = unfold answer_named in refl
  lent-named (answers l) t =
      go (ltb (length (row t)) (length l)) (ltb (length (row t)) (length (map (in_reading r) l))) (ap (ltb (length (row t))) (length-map l (in_reading r)))
    where
      go : (a b : Bool) → b ≡ a
          → with_row t (cond b (refusal 7 0, row t) (Ok (length (map (in_reading r) l)), map (in_reading r) l ++ drop (length (map (in_reading r) l)) (row t)))
          ≡ (let p = with_row t (cond a (refusal 7 0, row t) (Ok (length l), l ++ drop (length l) (row t))) in answer_named r p.answer p.table)
      go true b e = unfold answer_named in rw e refl
      go false b e =
          unfold answer_named in rw (e, length-map l (in_reading r))
          (ap (λ (steps : List Step). record { answer = Ok (length l); table = record { steps = steps; n = t.n } }) (sym (front-named l (drop (length l) (row t)) (drop t.n t.steps))))

as-named : (r : Reading) (mode : Mode) (text : Bytes) (t : Table)
    → preparing_as r mode text t ≡ answer_named r (preparing mode text t).answer (preparing mode text t).table
unfolding preparing preparing_as
as-named r mode text t = ap (λ (o : Reply (List Step)). lent_to o t) (tested-named r mode text) ∙ lent-named r (tested (prepare_in mode) text) t

-- the records that an answer counts are there
there : (o : Reply (List Step)) (t : Table) {n : ℕ} → (lent_to o t).answer ≡ Ok n → n ≤ length (lent_to o t).table.steps
unfolding lent_to with_row lent prepared
there (refuses number place) t h = absurd (never (cc h))
there (refuses12 place offset) t h = absurd (never (cc h))
there (answers l) t {n} h = go (ltb (length (row t)) (length l)) h
  where
    go : (b : Bool) → (with_row t (cond b (refusal 7 0, row t) (Ok (length l), l ++ drop (length l) (row t)))).answer ≡ Ok n
        → n ≤ length (with_row t (cond b (refusal 7 0, row t) (Ok (length l), l ++ drop (length l) (row t)))).table.steps
    go true h = absurd (never (cc h))
    go false h =
        let e : length l ≡ n = cc h in
        let y = drop (length l) (row t) in
        let d = drop t.n t.steps in
        omega (arith, e, length-append (l ++ y) d, length-append l y)

-- ---- what the code answers

module _ (r : Reading) (mode : Mode) (text : Bytes) (t : Table) {p : Preparing} (e : p ≡ preparing mode text t) where
  by_answer : answer_named r p.answer p.table ≡ preparing_as r mode text t
  by_answer = ap (λ (q : Preparing). answer_named r q.answer q.table) e ∙ sym (as-named r mode text t)

  pub answers-named : {n : ℕ} {steps : List Step} → p.answer ≡ Ok n → steps ≡ first_named r n p.table.steps
      → ◌≡◌ {A = Preparing} (record { answer = Ok n; table = record { steps = steps; n = p.table.n } }) (preparing_as r mode text t)
  unfolding answer_named
  answers-named {n} {steps} a h = (λ i. record { answer = Ok n; table = record { steps = h i; n = p.table.n } }) ∙ sym (ap (λ (w : Result ℕ Refusal). answer_named r w p.table) a) ∙ by_answer

  pub refuses-named : {e : Refusal} → p.answer ≡ Err e → refused_with e p.table ≡ preparing_as r mode text t
  unfolding answer_named
  refuses-named a = sym (ap (λ (w : Result ℕ Refusal). answer_named r w p.table) a) ∙ by_answer

  pub counts-records : {n : ℕ} → p.answer ≡ Ok n → n ≤ length p.table.steps
  unfolding preparing
  counts-records {n} a = rw e (there (tested (prepare_in mode) text) t (sym (ap (λ (q : Preparing). q.answer) e) ∙ a))
