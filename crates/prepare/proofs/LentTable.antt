-- The lent row: a refusal leaves the table as it was, and records brought into it stand in front of what was there. So it is with the answer after
-- all steps are read.
use Rattle.std.specs.Prelude.{Ok, Err, Option, None, Some}
use mathlib.Core.Path.{◌≡◌, refl, sym, ap, ◌∙◌}
use Prim.Native.Nat.{ℕ, ◌≤◌, ◌<◌}
use mathlib.Core.Bool.{Bool, true, false, cond}
use mathlib.Core.List.{List, ◌++◌, append_assoc}
use native.Mathlib.Nat.{le-min}
use native.Mathlib.Omega.{arith}
use borrow.Author.Tests.{lt-ltb, le-ltb, eqb-true, ltb-true, ltb-false}
use lib.ListN.{length, drop, length-take, take-append-drop}
use lib.Seq.{length-take-le, drop-append-le}
use lib.Dec.{eqb, ltb}
use Rattle.rules.specs.Text.Refusal.{Reply, answers, refuses, refuses12, lent, prepared}
use Rattle.rules.specs.declared.Refusal.{Refusal}
use Rattle.rules.specs.declared.Step.{Step}
use Rattle.rules.specs.declared.Table.{Table}
use Rattle.prepare.specs.declared.Preparing.{Preparing}
use Rattle.prepare.specs.Lent.{row, with_row, lent_to, offset_if, refusing, answered}
use Rattle.prepare.specs.Records.{refused_at}

module _ (t : Table) where
  whole : row t ++ drop t.n t.steps ≡ t.steps
  whole = take-append-drop t.n t.steps

  pub lent-refused : {reply : Reply (List Step)} {number place : ℕ} → reply ≡ refuses number place → refusing number place 0 t ≡ lent_to reply t
  unfolding lent_to with_row lent prepared
  lent-refused e = sym (rw (e, whole))

  lent-refused12 : {reply : Reply (List Step)} {place offset : ℕ} → reply ≡ refuses12 place offset → refusing 12 place offset t ≡ lent_to reply t
  unfolding lent_to with_row lent prepared
  lent-refused12 e = sym (rw (e, whole))

  -- by its number: only 12 has an offset
  pub lent-refused-at : {reply : Reply (List Step)} (number place at : ℕ) → reply ≡ refused_at number place at → refusing number place (offset_if number at) t ≡ lent_to reply t
  unfolding offset_if
  lent-refused-at {reply} number place at e = go (eqb number 12) refl e
    where
      go : (b : Bool) → eqb number 12 ≡ b → reply ≡ cond b (refuses12 place at) (refuses number place) → refusing number place (cond b at 0) t ≡ lent_to reply t
      go true z f = rw (eqb-true number 12 z) (lent-refused12 f)
      go false z f = lent-refused f

  -- this refusal
  abbrev pub refused_by : Refusal → Preparing
  refused_by r = record { answer = Err r; table = t }

  -- an answer with these records in front
  abbrev given : List Step → ℕ → Preparing
  given steps n = record { answer = Ok n; table = record { steps = steps; n = t.n } }

  module _ (full : length t.steps ≡ 64) {reply : Reply (List Step)} {l : List Step} (e : reply ≡ answers l) (few : length l ≤ 64) where
    lent-short : t.n < length l → refusing 7 0 0 t ≡ lent_to reply t
    unfolding lent_to with_row lent prepared
    lent-short h =
        let k : length (row t) < length l = rw (length-take-le t.n t.steps (omega arith)) h in
        sym (rw (e, lt-ltb (length (row t)) (length l) k, whole))

    fits : length l ≤ t.n → length l ≤ length (row t)
    fits h = rw (length-take t.n t.steps) (le-min h (omega arith))

    -- the records, and what was behind them
    behind : length l ≤ t.n → (l ++ drop (length l) (row t)) ++ drop t.n t.steps ≡ l ++ drop (length l) t.steps
    behind h =
        append_assoc l (drop (length l) (row t)) (drop t.n t.steps)
        ∙ ap (λ (x : List Step). l ++ x) (sym (drop-append-le (length l) (row t) (drop t.n t.steps) (fits h)) ∙ ap (drop (length l)) whole)

    lent-all : {steps : List Step} {n : ℕ} → length l ≤ t.n → n ≡ length l → steps ≡ l ++ drop n t.steps → given steps n ≡ lent_to reply t
    unfolding lent_to with_row lent prepared
    lent-all h c s = sym (rw (e, le-ltb (length (row t)) (length l) (fits h), behind h, s, c))

  -- ---- the answer after n steps

  module _ (steps : List Step) (n : ℕ) where
    pub answered-many : (first : Option Refusal) → 64 < n → answered t steps n first ≡ refusing 8 0 0 t
    unfolding answered
    answered-many None h = rw (lt-ltb 64 n h)
    answered-many (Some r) h = rw (lt-ltb 64 n h)

    module _ (h : n ≤ 64) where
      pub answered-refused : (r : Refusal) → answered t steps n (Some r) ≡ refused_by r
      unfolding answered
      answered-refused r = rw (le-ltb 64 n h)

      pub answered-short : t.n < n → answered t steps n None ≡ refusing 7 0 0 t
      unfolding answered
      answered-short k = rw (le-ltb 64 n h, lt-ltb t.n n k)

      pub answered-all : n ≤ t.n → answered t steps n None ≡ given steps n
      unfolding answered
      answered-all k = rw (le-ltb 64 n h, le-ltb t.n n k)

      -- it is what the reply of these records brings into the row
      pub answered-lent : length t.steps ≡ 64 → {reply : Reply (List Step)} {l : List Step} → reply ≡ answers l → length l ≡ n → steps ≡ l ++ drop n t.steps
          → answered t steps n None ≡ lent_to reply t
      answered-lent full {reply} {l} e c s = go (ltb t.n n) refl
        where
          few : length l ≤ 64
          few = omega (arith, c)

          go : (b : Bool) → ltb t.n n ≡ b → answered t steps n None ≡ lent_to reply t
          go true f = answered-short (ltb-true t.n n f) ∙ lent-short full e few (omega (arith, c, ltb-true t.n n f))
          go false f = answered-all (ltb-false t.n n f) ∙ lent-all full e few (omega (arith, c, ltb-false t.n n f)) (sym c) s
