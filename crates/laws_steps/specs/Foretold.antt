-- Demand 3: what the check's verdict says of the written run, and what a pass foretells of every run.
use Rattle.std.specs.Prelude.{◌≡◌, refl, ℕ, Bool, true, false, not, cond, List, [], ◌∷◌, map, length, take, replicate, Float, Option, None, Some}
use Rattle.std.proofs.Common.{sym, ap, ◌∙◌, take_at}
use Rattle.std.proofs.lemmas.Bool.{not-true}
use Rattle.std.proofs.lemmas.List.{length-map}
use Rattle.rules.specs.Text.Lists.{any_of}
use Rattle.rules.specs.Pipeline.Record.{refusal18}
use Rattle.rules.specs.Operators.Numbers.{number, turn}
use Rattle.rules.specs.Pipeline.Running.{Numbered, running}
use Rattle.rules.specs.Pipeline.Columns.{moved, too_few, after, depths, deepest}
use Rattle.rules.specs.Pipeline.Tuples.{State, tuples, acted}
use Rattle.rules.specs.Pipeline.Run.{start, passes64}
use Rattle.rules.specs.Pipeline.Check.{no_place, Traced, on_places, begin, adapting, any_adapt, verdict, only, foretold, answered, checked, check}
use Rattle.rules.specs.declared.Coord.{Coord}
use Rattle.rules.specs.declared.Place.{Place}
use Rattle.rules.specs.declared.Step.{Step}
use Rattle.rules.specs.declared.Direction.{Direction}
use Rattle.rules.specs.declared.Verdict.{Verdict}
use Rattle.rules.specs.declared.Verdict.TheVariants.{Passes, TooFew, TooMany, Refused}
use Rattle.rules.specs.declared.Foretold.{Foretold}
use Rattle.laws_lists.specs.Tests.{or_left, or_right, never}
use Rattle.laws_steps.specs.Verdict.{fault, acted-moved, depth_same, verdict-fault, first_of, no-refusal, depths-foretold}
use Rattle.laws_steps.specs.Places.{seen, shown, told, moved_told}
use Rattle.laws_steps.specs.Named.{FourNamed, named-after}

-- ---- from any state on

told-depth : (ts : List Coord) (p : Traced) → length (told ts p).columns ≡ length p.columns
unfolding told
told-depth ts p = length-map p.columns _

-- After a pass without `adapt`, the run leaves what the check's places tell of: its tuples and its columns.
pub after-told : (ts : List Coord) (l : List Numbered) (p : Traced) → verdict l p ≡ Passes → any_adapt l ≡ false
    → after acted l (told ts p) ≡ told ts (after (moved on_places) l p)
unfolding after any_adapt any_of
after-told ts [] p h e = refl
after-told ts (s ∷ l) p h e =
    let f = first_of s l p h in
    let here : acted s.does (told ts p) ≡ told ts (moved on_places s.does p) =
    acted-moved s.does (told ts p) (ap (too_few s.does) (told-depth ts p) ∙ f.enough) ∙ moved_told ts s.does p (or_left (adapting s.does) _ e) in
    ap (after acted l) here ∙ after-told ts l (moved on_places s.does p) f.rest (or_right (adapting s.does) _ e)

-- After a pass, the run ends as deep as the check,
pub left-foretold : (l : List Numbered) (m : State) (p : Traced) → length m.columns ≡ length p.columns → verdict l p ≡ Passes
    → length (after acted l m).columns ≡ length (after (moved on_places) l p).columns
unfolding after
left-foretold [] m p e h = e
left-foretold (s ∷ l) m p e h =
    let f = first_of s l p h in
    left-foretold l (acted s.does m) (moved on_places s.does p) (depth_same s.does m p e (ap (too_few s.does) e ∙ f.enough)) f.rest

-- and no refusal 16 is given.
pub within_64 : (l : List Numbered) (m : State) (p : Traced) → length m.columns ≡ length p.columns → verdict l p ≡ Passes → passes64 l m ≡ None
unfolding passes64
within_64 [] m p e h = refl
within_64 (s ∷ l) m p e h =
    let f = first_of s l p h in
    let d = depth_same s.does m p e (ap (too_few s.does) e ∙ f.enough) in
    rw (d, f.within) (within_64 l (acted s.does m) (moved on_places s.does p) d f.rest)

-- ---- at the start, each tuple shows its own four numbers

own : (ts : List Coord) → map (λ (t : Coord). shown t begin.tuples) ts ≡ ts
unfolding shown seen number turn
own [] = refl
own (t ∷ ts) = ap (λ (r : List Coord). t ∷ r) (own ts)

begin-told : (ts : List Coord) → told ts begin ≡ record { tuples = ts; columns = [] }
unfolding told
begin-told ts = λ k. record { tuples = own ts k; columns = [] }

-- ---- of the check's answer

-- what the answer of a pass is made of
pub record Passed (d : Direction) (t : List Step) : Type 0 where
  pub records : refusal18 t ≡ None
  pub passes : verdict (running d t) begin ≡ Passes
  pub answer : check d t ≡ foretold (running d t)

pub passed : (d : Direction) (t : List Step) → (check d t).verdict ≡ Passes → Passed d t
unfolding check checked answered only
passed d t h = of_records (refusal18 t) refl h
  where
    of_verdict : (v : Verdict) → verdict (running d t) begin ≡ v → refusal18 t ≡ None → (answered v t (running d t)).verdict ≡ Passes → Passed d t
    of_verdict Passes e r h = record { records = r; passes = e; answer = rw (r, e) }
    of_verdict (TooFew k) e r h = absurd (never (cc h))
    of_verdict (TooMany k) e r h = absurd (never (cc h))
    of_verdict (Refused n k) e r h = absurd (never (cc h))

    of_records : (o : Option ℕ) → refusal18 t ≡ o → (checked o t (running d t)).verdict ≡ Passes → Passed d t
    of_records (Some k) e h = absurd (never (cc h))
    of_records None e h = of_verdict (verdict (running d t) begin) refl e h

answered-verdict : (v : Verdict) (t : List Step) (l : List Numbered) → (answered v t l).verdict ≡ v
unfolding answered foretold only
answered-verdict Passes t l = refl
answered-verdict (TooFew k) t l = refl
answered-verdict (TooMany k) t l = refl
answered-verdict (Refused n k) t l = refl

-- Of records that a preparation makes, the check passes exactly where no step of the written run finds fewer columns than
-- it takes and the depth stays within 64; else it names the first such step.
pub check-fault : (d : Direction) (t : List Step) (xs : List Float) → refusal18 t ≡ None → (check d t).verdict ≡ fault (running d t) (start xs)
unfolding check checked
check-fault d t xs r =
    rw r (answered-verdict (verdict (running d t) begin) t (running d t))
    ∙ verdict-fault (running d t) (start xs) begin refl

-- It refuses a table with 18 alone, and at the place of the first bad record.
pub check-refused : (d : Direction) (t : List Step) (n k : ℕ) → (check d t).verdict ≡ Refused n k → (n ≡ 18) × (refusal18 t ≡ Some k)
unfolding check checked only
check-refused d t n k h = go (refusal18 t) h
  where
    go : (o : Option ℕ) → (checked o t (running d t)).verdict ≡ Refused n k → (n ≡ 18) × (o ≡ Some k)
    go None h = absurd (no-refusal (running d t) begin n k (sym (answered-verdict (verdict (running d t) begin) t (running d t)) ∙ h))
    go (Some p) h = let e : p ≡ k = cc h in (cc h, ap Some e)

-- After a pass the places are told exactly where no `adapt` step runs.
pub told-exactly : (d : Direction) (t : List Step) → (check d t).verdict ≡ Passes → (check d t).told ≡ not (any_adapt (running d t))
unfolding foretold
told-exactly d t h = ap (λ (f : Foretold). f.told) (passed d t h).answer

-- What a pass foretells of the run on any list:
pub record Foretells (d : Direction) (t : List Step) (xs : List Float) : Type 0 where
  -- the depth after each step run, deepest, left;
  pub depths-after : depths acted (running d t) (start xs) ≡ take (check d t).run (check d t).depths
  pub deepest-after : deepest (depths acted (running d t) (start xs)) ≡ (check d t).deepest
  pub left_after : length (after acted (running d t) (start xs)).columns ≡ (check d t).left
  -- that no refusal 16 is given;
  pub within : passes64 (running d t) (start xs) ≡ None
  -- and, unless an `adapt` step runs, four places from 1 to 4: each number is the input's at its place, its sign kept or
  -- turned.
  pub named : (check d t).told ≡ true → FourNamed (check d t).places
  pub tuples-after : (check d t).told ≡ true → (after acted (running d t) (start xs)).tuples ≡ map (λ (c : Coord). shown c (check d t).places) (tuples xs)

pub foretells : (d : Direction) (t : List Step) (xs : List Float) → (check d t).verdict ≡ Passes → Foretells d t xs
unfolding foretold told
foretells d t xs h =
    record {
      depths-after = same ∙ sym (take_at ds _ (length ds) refl) ∙ sym (ap (λ (f : Foretold). take f.run f.depths) p.answer);
      deepest-after = ap deepest same ∙ sym (ap (λ (f : Foretold). f.deepest) p.answer);
      left_after = left-foretold l (start xs) begin refl p.passes ∙ sym (ap (λ (f : Foretold). f.left) p.answer);
      within = within_64 l (start xs) begin refl p.passes;
      named = λ Told-here. rw (places Told-here) (named-after l).tuples;
      tuples-after =
          λ Told-here.
          ap (λ (m : State). (after acted l m).tuples) (sym (begin-told ts))
          ∙ ap (λ (m : State). m.tuples) (after-told ts l begin p.passes (none_runs Told-here))
          ∙ ap (λ (ps : List Place). map (λ (c : Coord). shown c ps) ts) (sym (places Told-here));
    }
  where
    p : Passed d t
    p = passed d t h

    l : List Numbered
    l = running d t

    ts : List Coord
    ts = tuples xs

    ds : List ℕ
    ds = depths (moved on_places) l begin

    same : depths acted l (start xs) ≡ ds
    same = depths-foretold l (start xs) begin refl p.passes

    none_runs : (check d t).told ≡ true → any_adapt l ≡ false
    none_runs Told-here = not-true (any_adapt l) (sym (ap (λ (f : Foretold). f.told) p.answer) ∙ Told-here)

    places : (check d t).told ≡ true → (check d t).places ≡ (after (moved on_places) l begin).tuples
    places Told-here =
        ap (λ (f : Foretold). f.places) p.answer
        ∙ ap (λ (b : Bool). cond (not b) (after (moved on_places) l begin).tuples (replicate 4 no_place)) (none_runs Told-here)
