-- The tables that are not refused 18: at most 64 records, each `made`, all of the first one's reading, and their spans rise up to byte 40,960.
use Rattle.std.specs.Prelude.{◌≡◌, refl, ◌↔◌, ℕ, suc, ◌≤◌, ◌<◌, Bool, true, false, cond, List, [], ◌∷◌, length, leb, ltb, eqb, None, Some}
use Rattle.std.proofs.Common.{sym, subst, lt-ltb, le-ltb, le-leb, ltb-true, ltb-false, leb-true, eqb-true}
use store.Seg.{eqb_same}
use Rattle.rules.specs.Text.Lists.{all_of}
use Rattle.rules.specs.Pipeline.Record.{span_end, made, good_span, table_reading, good_in, first_bad, refusal18}
use Rattle.rules.specs.Face.Demands.{Rise}
use Rattle.rules.specs.declared.Step.{Step}
use Rattle.laws_lists.specs.Lists.{Every}
use Rattle.laws_lists.specs.Tests.{and_left, and_right, never}
use Rattle.laws_records.specs.Readings.{InIt}

-- ---- one record

-- one that is good behind a record whose span ends there
record Good (reading end : ℕ) (s : Step) : Type 0 where
  is_made : made s ≡ true
  in-it : InIt reading s
  ahead : end ≤ s.span.from
  some_bytes : 0 < s.span.length
  within : span_end s.span ≤ 40960

good : (reading end : ℕ) (s : Step) → Good reading end s → good_in reading end s ≡ true
unfolding good_in good_span
good reading end s h =
    rw (h.is_made, ← h.in-it, eqb_same reading, lt-ltb 0 s.span.length h.some_bytes, le-leb (span_end s.span) 40960 h.within, le-leb end s.span.from h.ahead)

good-so : (reading end : ℕ) (s : Step) → good_in reading end s ≡ true → Good reading end s
unfolding good_in good_span
good-so reading end s h =
    let a = and_right (made s) _ h in
    let b = and_right (eqb s.reading reading) _ a in
    let c = and_right (ltb 0 s.span.length) _ b in
    record {
      is_made = and_left (made s) _ h;
      in-it = sym (eqb-true s.reading reading (and_left (eqb s.reading reading) _ a));
      ahead = leb-true end s.span.from (and_right (leb (span_end s.span) 40960) _ c);
      some_bytes = ltb-true 0 s.span.length (and_left (ltb 0 s.span.length) _ b);
      within = leb-true (span_end s.span) 40960 (and_left (leb (span_end s.span) 40960) _ c);
    }

-- ---- a table

-- records of a reading, behind one whose span ends there, of which none is bad
abbrev AllGood : ℕ → ℕ → List Step → Type 0
AllGood reading end l = (all_of made l ≡ true) × Every (InIt reading) l × Rise 40960 end l

none-bad : (reading end k : ℕ) (l : List Step) → AllGood reading end l → first_bad reading end k l ≡ None
unfolding first_bad all_of Every Rise
none-bad reading end k [] h = refl
none-bad reading end k (s ∷ l) h =
    let r = h.2 in
    let first : Good reading end s = record { is_made = and_left (made s) _ h.0; in-it = h.1.0; ahead = r.0; some_bytes = r.1; within = r.2 } in
    rw (good reading end s first) (none-bad reading (span_end s.span) (suc k) l (and_right (made s) _ h.0, h.1.1, r.3))

all-good : (reading end k : ℕ) (l : List Step) → first_bad reading end k l ≡ None → AllGood reading end l
unfolding first_bad all_of Every Rise
all-good reading end k [] h = (refl, tt, tt)
all-good reading end k (s ∷ l) h = go (good_in reading end s) refl h (all-good reading (span_end s.span) (suc k) l)
  where
    go : (b : Bool) → good_in reading end s ≡ b → cond b (first_bad reading (span_end s.span) (suc k) l) (Some k) ≡ None
        → (first_bad reading (span_end s.span) (suc k) l ≡ None → AllGood reading (span_end s.span) l) → AllGood reading end (s ∷ l)
    go false e h f = absurd (never (cc h))
    go true e h f =
        let g = good-so reading end s e in
        let k = f h in
        (rw g.is_made k.0, (g.in-it, k.1), (g.ahead, g.some_bytes, g.within, k.2))

-- A table is not refused 18 exactly when it is such a one.
pub not-18 : (l : List Step) → (refusal18 l ≡ None) ↔ ((all_of made l ≡ true) × (length l ≤ 64) × Every (InIt (table_reading l)) l × Rise 40960 0 l)
unfolding refusal18
not-18 l = (
  λ h. go (ltb 64 (length l)) refl h,
  λ h. rw (le-ltb 64 (length l) h.1) (none-bad (table_reading l) 0 1 l (h.0, h.2, h.3)),
)
  where
    go : (b : Bool) → ltb 64 (length l) ≡ b → cond b (Some 0) (first_bad (table_reading l) 0 1 l) ≡ None
        → (all_of made l ≡ true) × (length l ≤ 64) × Every (InIt (table_reading l)) l × Rise 40960 0 l
    go true e h = absurd (never (cc h))
    go false e h = let k = all-good (table_reading l) 0 1 l h in (k.0, ltb-false 64 (length l) e, k.1, k.2)

-- records of one reading: of the table's
pub one-reading : (reading : ℕ) (l : List Step) → Every (InIt reading) l → Every (InIt (table_reading l)) l
unfolding Every table_reading
one-reading reading [] h = tt
one-reading reading (s ∷ l) h = subst (λ (q : ℕ). Every (InIt q) (s ∷ l)) h.0 h
