-- Every record that a preparation makes passes `made`, in either reading and mode.
use Rattle.std.specs.Prelude.{◌≡◌, refl, ℕ, suc, ◌≤◌, Bool, true, false, cond, not, List, [], ◌∷◌, map, length, ltb, Option, None, Some}
use Rattle.std.proofs.Common.{ap, ◌∙◌, arith, ltb-false}
use Rattle.std.proofs.lemmas.List.{length-map}
use Rattle.rules.specs.Text.Ascii.{ascii}
use Rattle.rules.specs.Text.Lists.{any_of, all_of}
use Rattle.rules.specs.Text.Bytes.{Bytes, in_domain}
use Rattle.rules.specs.Text.Refusal.{Reply, answers, refuses, refuses12, and_then, tested}
use Rattle.rules.specs.Text.Split.{steps, split_steps}
use Rattle.rules.specs.Text.Reader.{spans}
use Rattle.rules.specs.Text.Parameters.{Parameter, parameters_of}
use Rattle.rules.specs.Pipeline.Record.{reading_number, in_reading, with_spans, of_mode, made}
use Rattle.rules.specs.Pipeline.Keys.{kind_of, unknown, misspelt, too_long}
use Rattle.rules.specs.Operators.Table.{is_of_mode, wording_of}
use Rattle.rules.specs.Operators.Arguments.{value_of}
use Rattle.rules.specs.Pipeline.Prepare.{own_rule, judged14, judged11, named, judged10, judged, offset_in, at_step, prepare_step, prepare_steps, prepare_split, prepare_in, prepare_as}
use Rattle.rules.specs.declared.Mode.{Mode}
use Rattle.rules.specs.declared.Reading.{Reading}
use Rattle.rules.specs.declared.Step.{Step}
use Rattle.rules.specs.declared.Name.{Name}
use Rattle.laws_lists.specs.Lists.{Every}
use Rattle.laws_lists.specs.Tests.{never}
use Rattle.laws_text.specs.Refusals.{split-few}
use Rattle.laws_records.specs.Readings.{InIt, all_named, all-made-named, all-mode-named}
use Rattle.laws_records.specs.Spanned.{made-aside, mode-aside, same-spanned, same_length, same_test}
use Rattle.laws_records.specs.Kept.{recorded-made, recorded-by}
use Rattle.laws_records.specs.Owed.{Short}
use Rattle.laws_records.specs.Operators.Table.{keeps-rule}

-- ---- one step

-- a record that is `made`, and of a mode
pub record MadeIn (mode : Mode) (s : Step) : Type 0 where
  pub is_made : made s ≡ true
  pub of-mode : of_mode mode s ≡ true

-- Every record that judging a step's parameters answers is `made`, and of its mode.
pub prepared-made : (mode : Mode) (ps : List Parameter) (s : Step) → judged mode ps ≡ answers s → MadeIn mode s
unfolding judged judged10 judged11 judged14
prepared-made mode ps s h = by10 (named (value_of (ascii "_name") ps)) h
  where
    by14 : (n : Name) (o : Option Step) → Short n ps → own_rule mode n ps ≡ o → judged14 o ≡ answers s → MadeIn mode s
    by14 n None short e h = absurd (never (cc h))
    by14 n (Some r) short e h =
        let z : r ≡ s = cc h in
        let chosen = (wording_of n).chosen mode ps in
        let well = keeps-rule n mode ps short in
        rw (← z)
        (record {
          is_made = recorded-made ps chosen (λ c k. (well c k).kept) r (unfold own_rule in e);
          of-mode = unfold of_mode in recorded-by (λ o. is_of_mode mode o ≡ true) ps chosen (λ c k. (well c k).of-mode) r (unfold own_rule in e);
        })

    by13 : (n : Name) (a b c : Bool) → (c ≡ false → Short n ps)
        → cond a (refuses 11 0) (cond b (refuses12 0 0) (cond c (refuses 13 0) (judged14 (own_rule mode n ps)))) ≡ answers s → MadeIn mode s
    by13 n true b c e h = absurd (never (cc h))
    by13 n false true c e h = absurd (never (cc h))
    by13 n false false true e h = absurd (never (cc h))
    by13 n false false false e h = by14 n (own_rule mode n ps) (e refl) refl h

    by10 : (o : Option Name) → judged10 mode o ps ≡ answers s → MadeIn mode s
    by10 None h = absurd (never (cc h))
    by10 (Some n) h =
        by13 n (any_of (unknown n) ps) (any_of (λ (p : Parameter). misspelt (kind_of n p) p.value) ps) (any_of (λ (p : Parameter). too_long (kind_of n p) p.value) ps) (λ e. e) h

-- what an answer of two calls, one after the other, is made of
pub then-answers : {A B : Type 0} (r : Reply A) (next : A → Reply B) (y : B) → and_then r next ≡ answers y → (x : A) × (r ≡ answers x) × (next x ≡ answers y)
unfolding and_then
then-answers (answers x) next y h = (x, refl, h)
then-answers (refuses n p) next y h = absurd (never (cc h))
then-answers (refuses12 p o) next y h = absurd (never (cc h))

-- a text that a call answers is short, and the call's own answer is this one
tested-so : (own : Bytes → Reply (List Step)) (t : Bytes) (l : List Step) → tested own t ≡ answers l → (length t ≤ 4096) × (own t ≡ answers l)
unfolding tested
tested-so own t l h = go (ltb 4096 (length t)) (not (in_domain t)) refl h
  where
    go : (a b : Bool) → ltb 4096 (length t) ≡ a → cond a (refuses 1 0) (cond b (refuses 2 0) (own t)) ≡ answers l → (length t ≤ 4096) × (own t ≡ answers l)
    go true b e h = absurd (never (cc h))
    go false true e h = absurd (never (cc h))
    go false false e h = (ltb-false 4096 (length t) e, h)

pub tested-short : (own : Bytes → Reply (List Step)) (t : Bytes) (l : List Step) → tested own t ≡ answers l → length t ≤ 4096
tested-short own t l h = (tested-so own t l h).0

pub tested-answers : (own : Bytes → Reply (List Step)) (t : Bytes) (l : List Step) → tested own t ≡ answers l → own t ≡ answers l
tested-answers own t l h = (tested-so own t l h).1

-- So is the record that preparing one step's text answers.
pub step-made : (mode : Mode) (place : ℕ) (t : Bytes) (s : Step) → prepare_step mode place t ≡ answers s → MadeIn mode s
unfolding prepare_step at_step
step-made mode place t s h = go (ltb 4096 (length t)) h
  where
    at : (r : Reply Step) → at_step place (offset_in t) r ≡ answers s → r ≡ answers s
    at (answers x) h = h
    at (refuses n p) h = absurd (never (cc h))
    at (refuses12 p o) h = absurd (never (cc h))

    go : (b : Bool) → at_step place (offset_in t) (cond b (refuses 1 0) (and_then (parameters_of t) (judged mode))) ≡ answers s → MadeIn mode s
    go true h = absurd (never (cc h))
    go false h = let f = then-answers (parameters_of t) (judged mode) s (at _ h) in prepared-made mode f.0 s f.2

-- ---- a whole preparation

-- the records of an answer: one for each step's text, and each is `made`, and of the mode
pub record AllMade (mode : Mode) (n : ℕ) (l : List Step) : Type 0 where
  pub each : all_of made l ≡ true
  pub of-mode : all_of (of_mode mode) l ≡ true
  pub many : length l ≡ n

pub steps-made : (mode : Mode) (place : ℕ) (ts : List Bytes) (l : List Step) → prepare_steps mode place ts ≡ answers l → AllMade mode (length ts) l
unfolding prepare_steps all_of
steps-made mode place [] l h = let e : [] ≡ l = cc h in rw (← e) (record { each = refl; of-mode = refl; many = refl })
steps-made mode place (t ∷ ts) l h =
    let f = then-answers (prepare_step mode place t) _ l h in
    let g = then-answers (prepare_steps mode (suc place) ts) _ l f.2 in
    let k = steps-made mode (suc place) ts g.0 g.1 in
    let e : f.0 ∷ g.0 ≡ l = cc g.2 in
    let first = step-made mode place t f.0 f.1 in
    rw (← e) (record { each = rw first.is_made k.each; of-mode = rw first.of-mode k.of-mode; many = ap suc k.many })

-- Every record of a text's steps in a mode is `made`, and of the mode; there is one for each step, and they are 64 at most.
pub split-made : (mode : Mode) (t : Bytes) (l : List Step) → prepare_split mode t ≡ answers l → AllMade mode (length (steps t)) l × (length l ≤ 64)
unfolding prepare_split
split-made mode t l h =
    let f = then-answers (split_steps (steps t)) (prepare_steps mode 1) l h in
    let few = split-few (steps t) f.0 f.1 in
    let k = steps-made mode 1 f.0 l f.2 in
    (record { each = k.each; of-mode = k.of-mode; many = k.many ∙ few.0 }, omega (arith, k.many, few.1))

-- The records of a text that is prepared in a mode are those, with its spans;
pub prepared-in : (mode : Mode) (t : Bytes) (l : List Step) → prepare_in mode t ≡ answers l
    → (m : List Step) × (prepare_split mode t ≡ answers m) × (with_spans (spans t) m ≡ l)
unfolding prepare_in
prepared-in mode t l h = let f = then-answers (prepare_split mode t) _ l h in (f.0, f.1, cc f.2)

-- so they are `made` too, and of the mode, and 64 at most.
pub prepare-made : (mode : Mode) (t : Bytes) (l : List Step) → prepare_in mode t ≡ answers l → (all_of made l ≡ true) × (length l ≤ 64) × (all_of (of_mode mode) l ≡ true)
prepare-made mode t l h =
    let p = prepared-in mode t l h in
    let k = split-made mode t p.0 p.1 in
    let same = same-spanned (spans t) p.0 in
    rw (← p.2) (
      same_test made made-aside (with_spans (spans t) p.0) p.0 same ∙ k.0.each,
      omega (arith, same_length (with_spans (spans t) p.0) p.0 same, k.1),
      same_test (of_mode mode) (mode-aside mode) (with_spans (spans t) p.0) p.0 same ∙ k.0.of-mode,
    )

-- In either reading they are those records, in that reading;
pub prepared-as : (r : Reading) (mode : Mode) (t : Bytes) (l : List Step) → prepare_as r mode t ≡ answers l
    → (m : List Step) × (prepare_in mode t ≡ answers m) × (map (in_reading r) m ≡ l)
unfolding prepare_as
prepared-as r mode t l h = let f = then-answers (prepare_in mode t) _ l h in (f.0, f.1, cc f.2)

-- so they are `made` too, all of that reading, and of that mode.
pub prepare-as-made : (r : Reading) (mode : Mode) (t : Bytes) (l : List Step) → prepare_as r mode t ≡ answers l
    → (all_of made l ≡ true) × (length l ≤ 64) × Every (InIt (reading_number r)) l × (all_of (of_mode mode) l ≡ true)
prepare-as-made r mode t l h =
    let p = prepared-as r mode t l h in
    let k = prepare-made mode t p.0 p.1 in
    rw (← p.2) (all-made-named r p.0 k.0, omega (arith, k.1, length-map p.0 (in_reading r)), all_named r p.0, all-mode-named r mode p.0 k.2)
