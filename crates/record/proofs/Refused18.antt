-- Refusal 18 of a record and of a table, by what the code has found out.
use Rattle.std.specs.Prelude.{None, Some}
use mathlib.Core.Path.{◌≡◌, refl, ap, ◌∙◌}
use Prim.Native.Nat.{ℕ, zero, suc, ◌+◌, ◌-◌, ◌≤◌, ◌<◌}
use native.Mathlib.Numerals.{add-one}
use native.Mathlib.Omega.{arith}
use mathlib.Core.List.{List, [], ◌∷◌, ◌++◌, append-nil}
use mathlib.Core.Bool.{Bool, true, false, ◌&&◌}
use lib.Dec.{leb}
use lib.ListN.{length, get_or, take, length-append, length-take, length-replicate, replicate}
use borrow.Author.Tests.{lt-ltb, le-ltb}
use Rattle.rules.specs.Operators.Table.{greatest}
use Rattle.rules.specs.Pipeline.Record.{span_end, made, table_reading, good_in, first_bad, refusal18, listed, blank, operator, args, unused}
use Rattle.rules.specs.declared.Step.{Step}
use Rattle.rules.specs.declared.Table.{Table}
use Rattle.record.specs.Records.{is_marked, is_written}

-- ---- a record

and_both : (a b c : Bool) → (a && (b && c)) ≡ ((a && b) && c)
and_both true b c = refl
and_both false b c = refl

pub made_tests : (s : Step) → made s ≡ (leb s.operator greatest && (leb s.n 8 && (is_marked s && is_written s.operator (args s) (unused s))))
unfolding made is_marked is_written operator
made_tests s =
    ap (λ (b : Bool). leb s.operator greatest && (leb s.n 8 && b))
    (ap (λ (b : Bool). leb s.inv 1 && (leb s.omit_fwd 1 && b)) (and_both (leb s.omit_inv 1) (leb s.reading 1) _)
    ∙ ap (λ (b : Bool). leb s.inv 1 && b) (and_both (leb s.omit_fwd 1) _ _)
    ∙ and_both (leb s.inv 1) _ _)

-- ---- a table

pub listed-few : (t : Table) → t.n ≤ 64 → listed t ≡ take t.n t.steps
unfolding listed
listed-few t h = ap (λ (k : ℕ). take t.n t.steps ++ replicate k blank) (past t.n h) ∙ append-nil _
  where
    past : (n : ℕ) → n ≤ 64 → n - 64 ≡ 0
    past n h = omega (arith, h)

pub listed-length : (t : Table) → length t.steps ≡ 64 → length (listed t) ≡ t.n
unfolding listed
listed-length t full = length-append (take t.n t.steps) _ ∙ rw (length-take, length-replicate, full) (omega arith)

pub bad-long : (t : Table) → length t.steps ≡ 64 → 64 < t.n → Some 0 ≡ refusal18 (listed t)
unfolding refusal18
bad-long t full h = rw (listed-length t full, lt-ltb _ _ h) refl

-- the reading of a table is that of its first record, as the code reads it: of no records none is bad in any reading
reading-first : (steps : List Step) (n : ℕ) (z : Step) → length steps ≡ 64 → first_bad (table_reading (take n steps)) 0 1 (take n steps) ≡ first_bad (get_or steps 0 z).reading 0 1 (take n steps)
unfolding first_bad table_reading
reading-first [] n z h = absurd (omega (arith, h))
reading-first (s ∷ l) zero z h = refl
reading-first (s ∷ l) (suc n) z h = refl

pub bad-few : (t : Table) (z : Step) → length t.steps ≡ 64 → t.n ≤ 64
    → refusal18 (listed t) ≡ first_bad (get_or t.steps 0 z).reading 0 1 (take t.n t.steps)
unfolding refusal18
bad-few t z full h =
    rw (listed-length t full, le-ltb _ _ h)
    (ap (λ (l : List Step). first_bad (table_reading l) 0 1 l) (listed-few t h) ∙ reading-first t.steps t.n z full)

module _ (reading end k : ℕ) where
  pub bad-next : (s : Step) (l : List Step) {next : ℕ} → good_in reading end s ≡ true → next ≡ span_end s.span → first_bad reading end k (s ∷ l) ≡ first_bad reading next (k + 1) l
  unfolding first_bad
  bad-next s l e f = rw (e, f, add-one k) refl

  pub bad-here : (s : Step) (l : List Step) → good_in reading end s ≡ false → first_bad reading end k (s ∷ l) ≡ Some k
  unfolding first_bad
  bad-here s l e = rw e refl

  pub bad-none : first_bad reading end k [] ≡ None
  unfolding first_bad
  bad-none = refl
