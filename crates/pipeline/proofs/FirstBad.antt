-- The walk over a table's records in their order: the place of refusal 18.
use Rattle.std.specs.Prelude.{None, Some}
use mathlib.Core.Path.{◌≡◌, sym, ap, ◌∙◌}
use Prim.Native.Nat.{ℕ, ◌+◌, ◌<◌, ◌≤◌}
use mathlib.Core.Bool.{true, false}
use mathlib.Core.List.{List}
use native.Mathlib.Omega.{arith}
use borrow.Author.Tests.{lt-ltb}
use lib.ListN.{length, get_or, take}
use lib.Seq.{get_or-take, length-take-le}
use Rattle.rules.specs.Pipeline.Record.{span_end, good_in, first_bad, refusal18, listed}
use Rattle.rules.specs.declared.Step.{Step}
use Rattle.rules.specs.declared.Table.{Table}
use Rattle.record.proofs.Refused18.{listed-length, bad-few, bad-next, bad-here, bad-none}
use Rattle.numbers.proofs.Rest.{Rest, rest_all, rest-next, rest-here, rest_end}

-- the first i records are good in the reading, and the last one's span ends there: the answer is that of the others
abbrev pub Checked : ℕ → List Step → ℕ → ℕ → Type 0
Checked reading l end i = Rest (first_bad reading end (i + 1)) l i (first_bad reading 0 1 l)

module _ (t : Table) (full : length t.steps ≡ 64) where
  pub check-long : 64 < t.n → refusal18 (listed t) ≡ Some 0
  unfolding refusal18
  check-long h = rw (listed-length t full, lt-ltb 64 t.n h)

  module _ (few : t.n ≤ 64) (z : Step) where
    -- the reading of the first record
    abbrev pub first : ℕ
    first = (get_or t.steps 0 z).reading

    many : length (take t.n t.steps) ≡ t.n
    many = length-take-le t.n t.steps (omega (arith, full))

    module _ (end i : ℕ) (x : Step) (r : Checked first (take t.n t.steps) end i) (h : i < t.n) where
      pub check-turn : {next : ℕ} → good_in first end (get_or t.steps i x) ≡ true → next ≡ span_end (get_or t.steps i x).span → Checked first (take t.n t.steps) next (i + 1)
      check-turn {next} e f =
          let here = get_or-take t.n t.steps i x h in
          rest-next (first_bad first next (i + 1 + 1)) x r (omega (arith, many))
          (bad-next first end (i + 1) _ _ (ap (good_in first end) here ∙ e) (f ∙ ap (λ (s : Step). span_end s.span) (sym here)))

      pub check-bad : good_in first end (get_or t.steps i x) ≡ false → refusal18 (listed t) ≡ Some (i + 1)
      check-bad e =
          bad-few t z full few
          ∙ sym (rest-here x r (omega (arith, many)) (bad-here first end (i + 1) _ _ (ap (good_in first end) (get_or-take t.n t.steps i x h) ∙ e)))

    pub check-end : (end i : ℕ) → Checked first (take t.n t.steps) end i → t.n ≤ i → refusal18 (listed t) ≡ None
    check-end end i r h = bad-few t z full few ∙ sym (sym (bad-none first end (i + 1)) ∙ rest_end r (omega (arith, many)))

pub check-none : (reading : ℕ) (l : List Step) → Checked reading l 0 0
check-none reading l = rest_all (first_bad reading 0 1) l
