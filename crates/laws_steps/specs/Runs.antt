-- What a run that is not refused answers and leaves, and what a pass of the check tells of it.
use Rattle.rules.specs.declared.Refusal.{Refusal}
use Rattle.rules.specs.declared.Finished.{Finished}
use Rattle.rules.specs.Text.Refusal.{refusal_at, told}
use Rattle.std.specs.Prelude.{◌≡◌, ℕ, ◌*◌, ◌/◌, ◌%◌, ◌≤◌, Bool, not, cond, List, map, length, ltb, eqb, Float, Option, None, Some, Result, Ok, Err}
use Rattle.std.proofs.Math.Path.{refl, sym}
use Rattle.std.proofs.Common.{sym, ap, ◌∙◌, arith, eqb-true, le-ltb}
use Rattle.std.proofs.Math.Bool.{true, false}
use Rattle.std.proofs.lemmas.Bool.{false≢true, not-false}
use Rattle.rules.specs.Pipeline.Record.{refusal18}
use Rattle.rules.specs.Pipeline.Running.{Numbered, running}
use Rattle.rules.specs.Pipeline.Columns.{after, depths, deepest}
use Rattle.rules.specs.Pipeline.Tuples.{State, tuples, numbers, acted}
use Rattle.rules.specs.Pipeline.Run.{Outcome, start, count, passes64, bad_list, store_after, refused, finished, unless16, unless15, unless18, runs, done}
use Rattle.rules.specs.Pipeline.Check.{check}
use Rattle.rules.specs.declared.Coord.{Coord}
use Rattle.rules.specs.declared.Step.{Step}
use Rattle.rules.specs.declared.Direction.{Direction}
use Rattle.rules.specs.declared.Verdict.TheVariants.{Passes}
use Rattle.laws_lists.specs.Tests.{never, or_left}
use Rattle.laws_steps.specs.Places.{shown}
use Rattle.laws_steps.specs.Lengths.{list_length}
use Rattle.laws_steps.specs.Foretold.{passed, foretells}

-- ---- a run that answers

-- the machine after the run, and how much of the store it uses
abbrev pub end : Direction → List Step → List Float → State
end d t xs = after acted (running d t) (start xs)

abbrev pub used : Direction → List Step → List Float → ℕ
used d t xs = deepest (depths acted (running d t) (start xs)) * (length xs / 4)

-- A run that answers, in full: that no refusal applies, what it answers, and what it leaves.
pub record Answered (d : Direction) (t : List Step) (xs store : List Float) (c n : ℕ) : Type 0 where
  pub made : refusal18 t ≡ None
  pub fourfold : bad_list xs ≡ false
  pub within : passes64 (running d t) (start xs) ≡ None
  pub room : ltb (length store) (used d t xs) ≡ false
  pub counted : c ≡ count (running d t) (start xs)
  pub columns-left : n ≡ length (end d t xs).columns
  pub list-after : (runs d t xs store).list ≡ numbers (end d t xs).tuples
  pub store-after : (runs d t xs store).store ≡ store_after (used d t xs) (end d t xs).columns store

module _ (d : Direction) (t : List Step) (xs store : List Float) (c n : ℕ) where
  not-18 : (o : Option ℕ) → (unless18 o d t xs store).answer ≡ done c n → o ≡ None
  unfolding unless18 refused
  not-18 None h = refl
  not-18 (Some k) h = absurd (never (cc h))

  not-15 : (b : Bool) → (unless15 b (running d t) xs store).answer ≡ done c n → b ≡ false
  unfolding unless15 refused
  not-15 true h = absurd (never (cc h))
  not-15 false h = refl

  not_16 : (o : Option ℕ) → (unless16 o (running d t) xs store).answer ≡ done c n → o ≡ None
  unfolding unless16 refused
  not_16 None h = refl
  not_16 (Some k) h = absurd (never (cc h))

  not-17 : (b : Bool) (whole : Outcome) → (cond b (refused 17 0 xs store) whole).answer ≡ done c n → b ≡ false
  unfolding refused
  not-17 true whole h = absurd (never (cc h))
  not-17 false whole h = refl

  pub answered : (runs d t xs store).answer ≡ done c n → Answered d t xs store c n
  unfolding runs unless18 unless15 unless16 finished
  answered h =
      let e = not-18 (refusal18 t) h in
      let h15 : (unless15 (bad_list xs) (running d t) xs store).answer ≡ done c n = rw e at h in
      let f = not-15 (bad_list xs) h15 in
      let h16 : (unless16 (passes64 (running d t) (start xs)) (running d t) xs store).answer ≡ done c n = rw f at h15 in
      let g = not_16 (passes64 (running d t) (start xs)) h16 in
      let h17 : (finished (running d t) xs store (used d t xs)).answer ≡ done c n = rw g at h16 in
      let k = not-17 (ltb (length store) (used d t xs)) _ h17 in
      let answer : done (count (running d t) (start xs)) (length (end d t xs).columns) ≡ done c n = rw k at h17 in
      let same : ◌≡◌ {A = Finished} (record { count = count (running d t) (start xs); left = length (end d t xs).columns }) (record { count = c; left = n }) = cc answer in
      record {
        made = e;
        fourfold = f;
        within = g;
        room = k;
        counted = ap (λ (f : Finished). f.count) (sym same);
        columns-left = ap (λ (f : Finished). f.left) (sym same);
        list-after = rw (e, f, g, k);
        store-after = rw (e, f, g, k);
      }

-- ---- refusal 18

is18 : Result Finished Refusal → Bool
is18 (Ok f) = false
is18 (Err r) = eqb r.number 18

module _ (l : List Numbered) (xs store : List Float) where
  none-17 : (b : Bool) (whole : Outcome) → is18 whole.answer ≡ false → is18 (cond b (refused 17 0 xs store) whole).answer ≡ false
  unfolding refused is18
  none-17 true whole h = refl
  none-17 false whole h = h

  none-16 : (o : Option ℕ) → is18 (unless16 o l xs store).answer ≡ false
  unfolding unless16 finished refused is18
  none-16 None = none-17 (ltb (length store) (deepest (depths acted l (start xs)) * (length xs / 4))) _ refl
  none-16 (Some k) = refl

  none-15 : (b : Bool) → is18 (unless15 b l xs store).answer ≡ false
  unfolding unless15 refused is18
  none-15 true = refl
  none-15 false = none-16 (passes64 l (start xs))

-- A run is refused 18 at the place of the first bad record alone.
pub run-refused : (d : Direction) (t : List Step) (xs store : List Float) (k offset : ℕ) → (runs d t xs store).answer ≡ refusal_at 18 k offset → refusal18 t ≡ Some k
unfolding runs unless18 refused is18
run-refused d t xs store k offset h = go (refusal18 t) h
  where
    go : (o : Option ℕ) → (unless18 o d t xs store).answer ≡ refusal_at 18 k offset → o ≡ Some k
    go None h = absurd (false≢true (sym (none-15 (running d t) xs store (bad_list xs)) ∙ ap is18 h))
    go (Some p) h = let e : ◌≡◌ {A = Refusal} (told 18 p) (record { number = 18; place = k; offset = offset }) = cc h in ap (λ (r : Refusal). Some r.place) e

-- ---- after a pass

-- After a pass, a run that answers leaves as many columns as foretold, and each number that it leaves is the tuple's own at
-- the place that the check names, its sign kept or turned, unless an `adapt` step runs.
pub record AsForetold (d : Direction) (t : List Step) (xs store : List Float) (n : ℕ) : Type 0 where
  pub left : n ≡ (check d t).left
  pub list : (check d t).told ≡ true → (runs d t xs store).list ≡ numbers (map (λ (c : Coord). shown c (check d t).places) (tuples xs))

pub as-foretold : (d : Direction) (t : List Step) (xs store : List Float) (c n : ℕ) → (check d t).verdict ≡ Passes → (runs d t xs store).answer ≡ done c n
    → AsForetold d t xs store n
as-foretold d t xs store c n passes done =
    let f = foretells d t xs passes in
    let a = answered d t xs store c n done in
    record {
      left = a.columns-left ∙ f.left_after;
      list = λ told. a.list-after ∙ ap numbers (f.tuples-after told);
    }

-- Such a run is given for every list of whole tuples, 65,536 at most, with room in the store for the deepest.
short : (xs : List Float) → length xs % 4 ≡ 0 → length xs / 4 ≤ 65536 → bad_list xs ≡ false
unfolding bad_list
short xs h k = rw (h, le-ltb 65536 (length xs / 4) k)

pub accepts : (d : Direction) (t : List Step) (xs store : List Float) → (check d t).verdict ≡ Passes → length xs % 4 ≡ 0 → length xs / 4 ≤ 65536
    → (check d t).deepest * (length xs / 4) ≤ length store → (c : ℕ) × (n : ℕ) × ((runs d t xs store).answer ≡ done c n)
unfolding runs unless18 unless15 unless16 finished
accepts d t xs store h four few room =
    let f = foretells d t xs h in
    let r = (passed d t h).records in
    let e : used d t xs ≤ length store = rw f.deepest-after room in (
      count (running d t) (start xs),
      length (end d t xs).columns,
      rw (r, short xs four few, f.within, le-ltb (length store) (used d t xs) e),
    )

-- ---- how many numbers a run leaves

pub fourfold : (xs : List Float) → bad_list xs ≡ false → length xs % 4 ≡ 0
unfolding bad_list
fourfold xs h = eqb-true (length xs % 4) 0 (not-false (eqb (length xs % 4) 0) (or_left (not (eqb (length xs % 4) 0)) _ h))

-- as many as before, four for each tuple
pub as_many : (d : Direction) (t : List Step) (xs store : List Float) (c n : ℕ) → (runs d t xs store).answer ≡ done c n
    → (length (runs d t xs store).list ≡ length xs) × (length xs / 4 * 4 ≡ length xs)
as_many d t xs store c n done =
    let a = answered d t xs store c n done in
    let w = fourfold xs a.fourfold in
    (ap length a.list-after ∙ list_length (running d t) xs w, omega arith)
