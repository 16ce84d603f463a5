-- A table that no refusal 18 is given for.
use Rattle.std.specs.Prelude.{None, Some}
use mathlib.Core.Path.{◌≡◌, refl, sym, ap, ◌∙◌}
use Prim.Native.Nat.{ℕ, zero, suc, ◌≤◌, ◌<◌}
use mathlib.Core.Bool.{Bool, true, false, cond}
use mathlib.Core.List.{List, [], ◌∷◌}
use native.Mathlib.Omega.{arith}
use borrow.Author.Tests.{ltb-false}
use lib.Dec.{ltb}
use lib.ListN.{length, get_or, take}
use lib.Seq.{length-take-le, get_or-take}
use Rattle.rules.specs.Pipeline.Record.{span_end, made, table_reading, good_in, first_bad, refusal18, listed}
use Rattle.rules.specs.declared.Step.{Step}
use Rattle.rules.specs.declared.Table.{Table}
use Rattle.rules.specs.declared.Direction.{Direction}
use Rattle.laws_lists.specs.Tests.{and_left, never}
use Rattle.record.specs.Visits.{visited}
use Rattle.record.proofs.Refused18.{listed-few, listed-length, bad-few}

module _ (reading : ℕ) where
  none-bad : (end k : ℕ) (l : List Step) (i : ℕ) (z : Step) → first_bad reading end k l ≡ None → i < length l → made (get_or l i z) ≡ true
  unfolding first_bad good_in
  none-bad end k [] i z e h = absurd (omega (arith, h))
  none-bad end k (s ∷ l) i z e h = go (good_in reading end s) refl i h e (λ j g f. none-bad (span_end s.span) (suc k) l j z g f)
    where
      go : (b : Bool) → good_in reading end s ≡ b → (i : ℕ) → i < length (s ∷ l) → cond b (first_bad reading (span_end s.span) (suc k) l) (Some k) ≡ None
          → ((j : ℕ) → first_bad reading (span_end s.span) (suc k) l ≡ None → j < length l → made (get_or l j z) ≡ true) → made (get_or (s ∷ l) i z) ≡ true
      go true p zero h e f = and_left (made s) _ p
      go true p (suc i) h e f = f i e (omega (arith, h))
      go false p i h e f = absurd (never (cc e))

pub record Sound (t : Table) : Type 0 where
  pub few : t.n ≤ 64
  pub rows : listed t ≡ take t.n t.steps
  pub many : length (take t.n t.steps) ≡ t.n
  pub each : (i : ℕ) (z : Step) → i < t.n → made (get_or t.steps i z) ≡ true

pub sound-so : (t : Table) → length t.steps ≡ 64 → refusal18 (listed t) ≡ None → Sound t
unfolding refusal18
sound-so t full e =
    let few : t.n ≤ 64 = ltb-false 64 t.n (ap (ltb 64) (sym (listed-length t full)) ∙ short (ltb 64 (length (listed t))) refl e) in
    let many : length (take t.n t.steps) ≡ t.n = length-take-le t.n t.steps (omega (arith, few, full)) in
    record {
      few = few;
      rows = listed-few t few;
      many = many;
      each = λ i z h.
          sym (ap made (get_or-take t.n t.steps i z h)) ∙ none-bad _ 0 1 (take t.n t.steps) i z (sym (bad-few t z full few) ∙ e) (omega (arith, h, many));
    }
  where
    short : (b : Bool) → ltb 64 (length (listed t)) ≡ b → cond b (Some 0) (first_bad (table_reading (listed t)) 0 1 (listed t)) ≡ None → ltb 64 (length (listed t)) ≡ false
    short true p e = absurd (never (cc e))
    short false p e = p

-- a turn of the walk: step k in running order, which stands at i of the table
pub record Turn (t : Table) (d : Direction) (k i : ℕ) (z : Step) : Type 0 where
  pub within : k < length (take t.n t.steps)
  pub at : i ≡ visited d k (length (take t.n t.steps))
  pub slot : i < 64
  pub is : get_or t.steps i z ≡ get_or (take t.n t.steps) i z
  pub made-is : made (get_or t.steps i z) ≡ true

pub turn-so : {t : Table} {d : Direction} {k i : ℕ} (z : Step) → Sound t → k < t.n → i ≡ visited d k t.n → i < t.n → Turn t d k i z
turn-so {t} {d} {k} {i} z s h at below =
    record {
      within = omega (arith, s.many, h);
      at = at ∙ ap (visited d k) (sym s.many);
      slot = omega (arith, below, s.few);
      is = sym (get_or-take t.n t.steps i z below);
      made-is = s.each i z below;
    }
