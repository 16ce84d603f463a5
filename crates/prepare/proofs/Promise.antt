-- What the contract of `prepare_as` says of the records lent is the promise of `rules`; those past them, and how many are lent, stay.
use Rattle.rules.specs.declared.Refusal.{Refusal}
use Rattle.std.specs.Prelude.{Result}
use mathlib.Core.Path.{◌≡◌, refl, ap, ◌∙◌}
use Prim.Native.Nat.{ℕ, ◌≤◌, ◌<◌}
use mathlib.Core.Bool.{Bool, true, false, cond}
use mathlib.Core.List.{List, ◌++◌, append-nil}
use native.Mathlib.Decide.{dec_lt}
use native.Mathlib.Omega.{arith}
use borrow.Author.Tests.{ltb-false}
use lib.ListN.{length, take, drop, length-append, length-drop, drop_of_length-le}
use lib.Seq.{length-take-le, take_at, drop_at, take_all}
use lib.Dec.{ltb}
use Rattle.rules.specs.Text.Bytes.{Bytes}
use Rattle.rules.specs.Text.Refusal.{Reply, answers, refuses, refuses12, lent, outcome, tested, prepared}
use Rattle.rules.specs.Pipeline.Prepare.{prepare_as, PreparesAs}
use Rattle.rules.specs.declared.Mode.{Mode}
use Rattle.rules.specs.declared.Reading.{Reading}
use Rattle.rules.specs.declared.Step.{Step}
use Rattle.rules.specs.declared.Table.{Table}
use Rattle.prepare.specs.Lent.{row, with_row, lent_to, preparing_as}

-- a reply brought into a row keeps its length
lent_length : (reply : Reply (List Step)) (l : List Step) → length (lent prepared reply l).1 ≡ length l
unfolding lent
lent_length (refuses number place) l = refl
lent_length (refuses12 place offset) l = refl
lent_length (answers xs) l = go (ltb (length l) (length xs)) refl
  where
    go : (b : Bool) → ltb (length l) (length xs) ≡ b
        → length (cond {A = Result ℕ Refusal × List Step} b (prepared (refuses 7 0), l) (prepared (answers (length xs)), xs ++ drop (length xs) l)).1 ≡ length l
    go true e = refl
    go false e = omega (arith, length-append xs (drop (length xs) l), length-drop (length xs) l, ltb-false (length l) (length xs) e)

module _ (l new : List Step) (n : ℕ) (e : length new ≡ length (take n l)) where
  in_row : n ≤ length l → length new ≡ n
  in_row h = e ∙ length-take-le n l h

  -- the row, and what is past it
  row_is : take n (new ++ drop n l) ≡ new
  row_is = elim (dec_lt (length l) n) [ yes h ↦ beyond h | no h ↦ take_at new (drop n l) n (in_row (omega arith)) ]
    where
      beyond : length l < n → take n (new ++ drop n l) ≡ new
      beyond h =
          let k : length l ≤ n = omega arith in
          let s : length new ≡ length l = e ∙ ap length (take_all n l k) in
          rw (drop_of_length-le l k, append-nil new) (take_all n new (omega arith))

  past_is : drop n (new ++ drop n l) ≡ drop n l
  past_is = elim (dec_lt (length l) n) [ yes h ↦ beyond h | no h ↦ drop_at new (drop n l) n (in_row (omega arith)) ]
    where
      beyond : length l < n → drop n (new ++ drop n l) ≡ drop n l
      beyond h =
          let k : length l ≤ n = omega arith in
          let s : length new ≡ length l = e ∙ ap length (take_all n l k) in
          let j : length new ≤ n = omega arith in
          rw (drop_of_length-le l k, append-nil new) (drop_of_length-le new j)

-- what a caller learns of `x ≡ preparing_as r mode text t`
pub record Keeps (r : Reading) (mode : Mode) (text : Bytes) (t : Table) (answer : Result ℕ Refusal) (t' : Table) : Type 0 where
  pub promised : PreparesAs r mode text (row t) answer (row t')
  pub past : drop t.n t'.steps ≡ drop t.n t.steps
  pub many : t'.n ≡ t.n

pub preparing-keeps : (r : Reading) (mode : Mode) (text : Bytes) (t : Table) → Keeps r mode text t (preparing_as r mode text t).answer (preparing_as r mode text t).table
unfolding preparing_as lent_to with_row outcome
preparing-keeps r mode text t =
    let x = lent prepared (tested (prepare_as r mode) text) (row t) in
    let e : length x.1 ≡ length (row t) = lent_length (tested (prepare_as r mode) text) (row t) in
    record {
      promised = record { exactly = rw (row_is t.steps x.1 t.n e) };
      past = past_is t.steps x.1 t.n e;
      many = refl;
    }
