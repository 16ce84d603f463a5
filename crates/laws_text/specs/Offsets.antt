-- Where refusal 12 is. A preparation that refuses 12 gives the place of a faulty step, and the byte of its text at which its first fault is (specs/Faults.antt says it
-- of the step's words). No other refusal has an offset.
use Rattle.rules.specs.declared.Refusal.{Refusal}
use Rattle.std.proofs.Math.Path.{◌≡◌, refl, ap}
use Rattle.std.proofs.Common.{sym, ◌∙◌, arith}
use Rattle.std.specs.Prelude.{ℕ, suc, ◌+◌, ◌≤◌, Bool, cond, not, ◌||◌, ltb, length, Option, None, Some, Result, Ok, Err}
use Rattle.std.proofs.Math.Bool.{true, false}
use Rattle.std.proofs.lemmas.Bool.{false≢true}
use mathlib.Core.List.{List, [], ◌∷◌, ◌++◌, map}
use Rattle.std.proofs.Math.ListN.{drop}
use Rattle.rules.specs.Text.Ascii.{ascii, is}
use Rattle.rules.specs.Text.Lists.{any_of, place_of}
use Rattle.rules.specs.Text.Bytes.{Bytes, Steps, in_domain, words}
use Rattle.rules.specs.Text.Refusal.{Reply, answers, refuses, refuses12, and_then, tested, lent, outcome, Promised, prepared, refusal_at}
use Rattle.rules.specs.Text.Normal.{normal}
use Rattle.rules.specs.Text.Split.{only_modifiers, turned, step_text, steps, split_steps}
use Rattle.rules.specs.Text.Parameters.{Parameter, Placed, name, table_of, step_table, text_table, parameters_of, placed_table}
use Rattle.rules.specs.Operators.Arguments.{value_of}
use Rattle.rules.specs.Pipeline.Keys.{kind_of, unknown, misspelt, too_long}
use Rattle.rules.specs.Pipeline.Offsets.{cut_text, is_fault, offset_by}
use Rattle.rules.specs.Text.Reader.{spans}
use Rattle.rules.specs.Pipeline.Record.{in_reading, with_spans}
use Rattle.rules.specs.Pipeline.Prepare.{own_rule, judged14, judged11, named, judged10, judged, offset_of, offset_in, at_step, prepare_step, prepare_steps, prepare_split, prepare_in}
use Rattle.rules.specs.Pipeline.Prepare.{prepare, prepare_as, Prepares, PreparesAs}
use Rattle.rules.specs.Face.Demands.{FaultAt, FirstFault}
use Rattle.rules.specs.declared.Mode.{Mode}
use Rattle.rules.specs.declared.Mode.TheVariants as mode-is
use Rattle.rules.specs.declared.Reading.{Reading}
use Rattle.rules.specs.declared.Step.{Step}
use Rattle.rules.specs.declared.Name.{Name}
use Rattle.laws_lists.specs.Tests.{never}
use Rattle.laws_text.specs.Table.{given, given-table}
use Rattle.laws_text.specs.Faults.{name-fine, earliest-fault, no-earlier-fault, bad-stands, missing-stands}

-- ---- a refusal without an offset is not 12

unfoldable Other : {A : Type 0} → Reply A → Type 0
Other (answers x) = Unit {0}
Other (refuses number place) = number ≡ 12 → ⊥
Other (refuses12 place offset) = Unit {0}

other-if : {A : Type 0} (b : Bool) (r s : Reply A) → Other r → Other s → Other (cond b r s)
other-if true r s h k = h
other-if false r s h k = k

other-then : {A B : Type 0} (r : Reply A) (next : A → Reply B) → Other r → ((x : A) → Other (next x)) → Other (and_then r next)
unfolding and_then Other
other-then (answers x) next h k = k x
other-then (refuses number place) next h k = h
other-then (refuses12 place offset) next h k = tt

splits-other : (ss : Steps) → Other (split_steps ss)
unfolding split_steps Other
splits-other ss = other-if (any_of only_modifiers ss) _ _ (λ e. never (omega (arith, e))) (other-if (ltb 64 (length ss)) _ _ (λ e. never (omega (arith, e))) tt)

table-other : (t : Bytes) → Other (parameters_of t)
unfolding parameters_of text_table step_table Other
table-other t =
    other-if (any_of (is "|") (normal t)) _ _ tt
    (other-if (only_modifiers (words (normal t))) _ _ (λ e. never (omega (arith, e)))
    (other-if (ltb 32 (length (table_of (words (normal t))))) _ _ (λ e. never (omega (arith, e))) tt))

module _ (m : Mode) where
  judged-other : (ps : List Parameter) → Other (judged m ps)
  unfolding judged judged10 judged11 judged14 Other
  judged-other ps = by10 (named (value_of (ascii "_name") ps))
    where
      by14 : (o : Option Step) → Other (judged14 o)
      by14 None = λ e. never (omega (arith, e))
      by14 (Some s) = tt

      by10 : (o : Option Name) → Other (judged10 m o ps)
      by10 None = λ e. never (omega (arith, e))
      by10 (Some n) =
          other-if (any_of (unknown n) ps) _ _ (λ e. never (omega (arith, e)))
          (other-if (any_of (λ (p : Parameter). misspelt (kind_of n p) p.value) ps) _ _ tt
          (other-if (any_of (λ (p : Parameter). too_long (kind_of n p) p.value) ps) _ _ (λ e. never (omega (arith, e)))
          (by14 (own_rule m n ps))))

  at_other : (place offset : ℕ) (r : Reply Step) → Other r → Other (at_step place offset r)
  unfolding at_step Other
  at_other place offset (answers s) h = tt
  at_other place offset (refuses number nowhere) h = h
  at_other place offset (refuses12 nowhere unknown) h = tt

  step_other : (place : ℕ) (t : Bytes) → Other (prepare_step m place t)
  unfolding prepare_step Other
  step_other place t =
      at_other place (offset_in t) _ (other-if (ltb 4096 (length t)) _ _ (λ e. never (omega (arith, e))) (other-then (parameters_of t) (judged m) (table-other t) judged-other))

  steps-other : (place : ℕ) (ts : List Bytes) → Other (prepare_steps m place ts)
  unfolding prepare_steps Other
  steps-other place [] = tt
  steps-other place (t ∷ ts) = other-then (prepare_step m place t) _ (step_other place t) (λ s. other-then (prepare_steps m (suc place) ts) _ (steps-other (suc place) ts) (λ l. tt))

  split-other : (t : Bytes) → Other (prepare_split m t)
  unfolding prepare_split
  split-other t = other-then (split_steps (steps t)) (prepare_steps m 1) (splits-other (steps t)) (steps-other 1)

  prepare-other : (t : Bytes) → Other (prepare_in m t)
  unfolding prepare_in Other
  prepare-other t = other-then (prepare_split m t) (λ l. answers (with_spans (spans t) l)) (split-other t) (λ l. tt)

  prepare-as-other : (how : Reading) (t : Bytes) → Other (prepare_as how m t)
  unfolding prepare_as Other
  prepare-as-other how t = other-then (prepare_in m t) (λ l. answers (map (in_reading how) l)) (prepare-other t) (λ l. tt)

-- ---- one step

-- a reply that is refusal 12
unfoldable Twelve : {A : Type 0} → Reply A → Type 0
Twelve (answers x) = ⊥
Twelve (refuses number place) = ⊥
Twelve (refuses12 place offset) = Unit {0}

-- the first fault of a step, by its text
record StepFault (step : Bytes) (offset : ℕ) : Type 0 where
  operator : Name
  has-name : named (value_of (ascii "_name") (table_of (words (normal step)))) ≡ Some operator
  at-fault : FaultAt operator (turned (words (normal step))) offset
  none_before : (other : ℕ) → FaultAt operator (turned (words (normal step))) other → offset ≤ other

any-given : (test : Parameter → Bool) (qs : List Placed) → any_of test (map given qs) ≡ any_of (λ (q : Placed). test (given q)) qs
unfolding any_of
any-given test [] = refl
any-given test (q ∷ qs) = rw (any-given test qs) refl

-- the words of a step whose table is refused 12
words-fault : (n : Name) (t : Bytes) → named (value_of (ascii "_name") (table_of (words (normal t)))) ≡ Some n
    → any_of (λ (p : Parameter). misspelt (kind_of n p) p.value) (table_of (words (normal t))) ≡ true → StepFault t (offset_in t)
unfolding offset_in offset_of offset_by is_fault
words-fault n t e h =
    let ws = words (normal t) in
    let there : any_of (is_fault n) (placed_table ws) ≡ true =
    sym (any-given (λ (p : Parameter). misspelt (kind_of n p) p.value) (placed_table ws))
    ∙ ap (any_of (λ (p : Parameter). misspelt (kind_of n p) p.value)) (given-table ws) ∙ h in
    record {
      operator = n;
      has-name = e;
      at-fault = rw e (earliest-fault n ws there);
      none_before = rw e (no-earlier-fault n ws);
    }

-- what judges a table, refuses it 12
record Judged (ps : List Parameter) : Type 0 where
  operator : Name
  has-name : named (value_of (ascii "_name") ps) ≡ Some operator
  bad : any_of (λ (p : Parameter). misspelt (kind_of operator p) p.value) ps ≡ true

judged-12 : (m : Mode) (ps : List Parameter) → Twelve (judged m ps) → Judged ps
unfolding judged judged10 judged11 judged14 Twelve
judged-12 m ps h = by10 (named (value_of (ascii "_name") ps)) refl h
  where
    by14 : (o : Option Step) → Twelve (judged14 o) → ⊥
    by14 None h = h
    by14 (Some s) h = h

    by11 : (n : Name) → named (value_of (ascii "_name") ps) ≡ Some n → (a b c : Bool) → any_of (λ (p : Parameter). misspelt (kind_of n p) p.value) ps ≡ b
        → Twelve (cond a (refuses 11 0) (cond b (refuses12 0 0) (cond c (refuses 13 0) (judged14 (own_rule m n ps))))) → Judged ps
    by11 n e true b c f h = absurd h
    by11 n e false true c f h = record { operator = n; has-name = e; bad = f }
    by11 n e false false true f h = absurd h
    by11 n e false false false f h = absurd (by14 (own_rule m n ps) h)

    by10 : (o : Option Name) → named (value_of (ascii "_name") ps) ≡ o → Twelve (judged10 m o ps) → Judged ps
    by10 None e h = absurd h
    by10 (Some n) e h =
        by11 n e (any_of (unknown n) ps) (any_of (λ (p : Parameter). misspelt (kind_of n p) p.value) ps) (any_of (λ (p : Parameter). too_long (kind_of n p) p.value) ps) refl h

-- a name alone is no such table
not-name : (t : Bytes) → Judged (name t ∷ []) → ⊥
unfolding any_of
not-name t j = false≢true (sym fine ∙ j.bad)
  where
    fine : misspelt (kind_of j.operator (name t)) (name t).value || false ≡ false
    fine = unfold name in rw (name-fine j.operator t) refl

text-fault : (m : Mode) (t : Bytes) → Twelve (and_then (parameters_of t) (judged m)) → StepFault t (offset_in t)
unfolding parameters_of text_table step_table and_then Twelve
text-fault m t h =
    go (any_of (is "|") (normal t)) (only_modifiers (words (normal t))) (ltb 32 (length (table_of (words (normal t))))) h
  where
    go : (a b c : Bool)
        → Twelve (and_then (cond a (answers (name (normal t) ∷ [])) (cond b (refuses 6 0) (cond c (refuses 9 0) (answers (table_of (words (normal t))))))) (judged m))
        → StepFault t (offset_in t)
    go true b c h = absurd (not-name (normal t) (judged-12 m (name (normal t) ∷ []) h))
    go false true c h = absurd h
    go false false true h = absurd h
    go false false false h =
        let j = judged-12 m (table_of (words (normal t))) h in
        words-fault j.operator t j.has-name j.bad

-- at its place
record At (step : Bytes) (place p o : ℕ) : Type 0 where
  fault : StepFault step o
  at_place : p ≡ place

step-fault : (m : Mode) (place : ℕ) (t : Bytes) (p o : ℕ) → prepare_step m place t ≡ refuses12 p o → At t place p o
unfolding prepare_step at_step Twelve
step-fault m place t p o h = go (ltb 4096 (length t)) h
  where
    at : (r : Reply Step) → at_step place (offset_in t) r ≡ refuses12 p o → (Twelve r → StepFault t (offset_in t)) → At t place p o
    at (answers s) e f = absurd (never (cc e))
    at (refuses n k) e f = absurd (never (cc e))
    at (refuses12 k l) e f =
        let same_place : place ≡ p = cc e in
        let same-offset : offset_in t ≡ o = cc e in
        record { fault = rw (← same-offset) (f tt); at_place = sym same_place }

    go : (b : Bool) → at_step place (offset_in t) (cond b (refuses 1 0) (and_then (parameters_of t) (judged m))) ≡ refuses12 p o → At t place p o
    go true e = absurd (never (cc e))
    go false e = at (and_then (parameters_of t) (judged m)) e (text-fault m t)

-- ---- all steps

-- the step of these at which a preparation stops, the first of them being at `first`
record Stop (ts : List Bytes) (first place offset : ℕ) : Type 0 where
  before : List Bytes
  step : Bytes
  rest : List Bytes
  in_order : ts ≡ before ++ (step ∷ rest)
  at_place : place ≡ length before + first
  fault : StepFault step offset

-- an answer that is only told in other words
then-12 : {A B : Type 0} (r : Reply A) (f : A → B) (p o : ℕ) → and_then r (λ x. answers (f x)) ≡ refuses12 p o → r ≡ refuses12 p o
unfolding and_then
then-12 (answers x) f p o h = absurd (never (cc h))
then-12 (refuses n k) f p o h = absurd (never (cc h))
then-12 (refuses12 k l) f p o h = let e : k ≡ p = cc h in let g : l ≡ o = cc h in rw (e, g)

steps-stop : (m : Mode) (first : ℕ) (ts : List Bytes) (p o : ℕ) → prepare_steps m first ts ≡ refuses12 p o → Stop ts first p o
unfolding prepare_steps and_then
steps-stop m first [] p o h = absurd (never (cc h))
steps-stop m first (t ∷ ts) p o h = go (prepare_step m first t) refl h (steps-stop m (suc first) ts p o)
  where
    here : At t first p o → Stop (t ∷ ts) first p o
    here a = record { before = []; step = t; rest = ts; in_order = refl; at_place = omega (arith, a.at_place); fault = a.fault }

    later : Stop ts (suc first) p o → Stop (t ∷ ts) first p o
    later s = record {
      before = t ∷ s.before;
      step = s.step;
      rest = s.rest;
      in_order = ap (λ (l : List Bytes). t ∷ l) s.in_order;
      at_place = omega (arith, s.at_place);
      fault = s.fault;
    }

    go : (r : Reply Step) → prepare_step m first t ≡ r → and_then r (λ s. and_then (prepare_steps m (suc first) ts) (λ l. answers (s ∷ l))) ≡ refuses12 p o
        → (prepare_steps m (suc first) ts ≡ refuses12 p o → Stop ts (suc first) p o) → Stop (t ∷ ts) first p o
    go (answers s) e h next = later (next (then-12 (prepare_steps m (suc first) ts) (λ (l : List Step). s ∷ l) p o h))
    go (refuses n k) e h next = absurd (never (cc h))
    go (refuses12 k l) e h next =
        let same_place : k ≡ p = cc h in
        let same-offset : l ≡ o = cc h in
        here (step-fault m first t p o (rw (← same_place, ← same-offset) e))

split-fault : (m : Mode) (t : Bytes) (p o : ℕ) → prepare_split m t ≡ refuses12 p o → FirstFault t p o
unfolding prepare_split split_steps and_then
split-fault m t p o h = go (any_of only_modifiers (steps t)) (ltb 64 (length (steps t))) h
  where
    whole : Stop (map step_text (steps t)) 1 p o → FirstFault t p o
    whole s = record {
      before = s.before;
      step = s.step;
      rest = s.rest;
      in_order = s.in_order;
      at_place = s.at_place;
      operator = s.fault.operator;
      has-name = s.fault.has-name;
      at-fault = s.fault.at-fault;
      none_before = s.fault.none_before;
      stands = unfold cut_text step_text in bad-stands s.fault.at-fault;
      missing = unfold cut_text step_text in missing-stands s.fault.at-fault;
    }

    go : (a b : Bool) → and_then (cond a (refuses 6 (place_of only_modifiers (steps t))) (cond b (refuses 8 0) (answers (map step_text (steps t))))) (prepare_steps m 1) ≡ refuses12 p o
        → FirstFault t p o
    go true b h = absurd (never (cc h))
    go false true h = absurd (never (cc h))
    go false false h = whole (steps-stop m 1 (map step_text (steps t)) p o h)

pub prepare-fault : (m : Mode) (t : Bytes) (p o : ℕ) → prepare_in m t ≡ refuses12 p o → FirstFault t p o
unfolding prepare_in
prepare-fault m t p o h = split-fault m t p o (then-12 (prepare_split m t) (with_spans (spans t)) p o h)

pub prepare-as-fault : (how : Reading) (m : Mode) (t : Bytes) (p o : ℕ) → prepare_as how m t ≡ refuses12 p o → FirstFault t p o
unfolding prepare_as
prepare-as-fault how m t p o h = prepare-fault m t p o (then-12 (prepare_in m t) (map (in_reading how)) p o h)

-- ---- what preparing answers

-- of two calls that answer refusals alike, the refusals are alike
refused_as : {r s : Refusal} {t u : List Step} → ◌≡◌ {A = Result ℕ Refusal × List Step} (Err r, t) (Err s, u) → r ≡ s
refused_as h = cc (ap (λ (x : Result ℕ Refusal × List Step). x.0) h)

-- of a reply that is brought into a lent table: 12 is said of refusal 12 alone, and an offset too
module _ (table table' : List Step) where
  lent-12 : (r : Reply (List Step)) (p o : ℕ) → Other r → ◌≡◌ {A = Result ℕ Refusal × List Step} (refusal_at 12 p o, table') (lent prepared r table) → r ≡ refuses12 p o
  unfolding lent prepared Other
  lent-12 (answers l) p o k h = go (ltb (length table) (length l)) h
    where
      go : (b : Bool) → ◌≡◌ {A = Result ℕ Refusal × List Step} (refusal_at 12 p o, table') (cond b (refusal_at 7 0 0, table) (Ok (length l), l ++ drop (length l) table))
          → answers l ≡ refuses12 p o
      go true h = absurd (seven (ap (λ (r : Refusal). r.number) (refused_as h)))
        where
          seven : ◌≡◌ {A = ℕ} 12 7 → ⊥
          seven e = never (omega (arith, e))
      go false h = absurd (never (cc (ap (λ (x : Result ℕ Refusal × List Step). x.0) h)))
  lent-12 (refuses n q) p o k h = absurd (k (sym (ap (λ (r : Refusal). r.number) (refused_as h))))
  lent-12 (refuses12 q r) p o k h =
      let f : p ≡ q = ap (λ (r : Refusal). r.place) (refused_as h) in
      let g : o ≡ r = ap (λ (r : Refusal). r.offset) (refused_as h) in
      rw (f, g)

  lent_other : (r : Reply (List Step)) (n p o : ℕ) → (n ≡ 12 → ⊥) → ◌≡◌ {A = Result ℕ Refusal × List Step} (refusal_at n p o, table') (lent prepared r table) → o ≡ 0
  unfolding lent prepared
  lent_other (answers l) n p o k h = go (ltb (length table) (length l)) h
    where
      go : (b : Bool) → ◌≡◌ {A = Result ℕ Refusal × List Step} (refusal_at n p o, table') (cond b (refusal_at 7 0 0, table) (Ok (length l), l ++ drop (length l) table))
          → o ≡ 0
      go true h = ap (λ (r : Refusal). r.offset) (refused_as h)
      go false h = absurd (never (cc (ap (λ (x : Result ℕ Refusal × List Step). x.0) h)))
  lent_other (refuses m q) n p o k h = ap (λ (r : Refusal). r.offset) (refused_as h)
  lent_other (refuses12 q r) n p o k h = absurd (k (ap (λ (r : Refusal). r.number) (refused_as h)))

tested-12 : (own : Bytes → Reply (List Step)) (t : Bytes) (p o : ℕ) → tested own t ≡ refuses12 p o → own t ≡ refuses12 p o
unfolding tested
tested-12 own t p o h = go (ltb 4096 (length t)) (not (in_domain t)) h
  where
    go : (a b : Bool) → cond a (refuses 1 0) (cond b (refuses 2 0) (own t)) ≡ refuses12 p o → own t ≡ refuses12 p o
    go true b h = absurd (never (cc h))
    go false true h = absurd (never (cc h))
    go false false h = h

tested-other : (own : Bytes → Reply (List Step)) (t : Bytes) → Other (own t) → Other (tested own t)
unfolding tested Other
tested-other own t h =
    other-if (ltb 4096 (length t)) _ _ (λ e. never (omega (arith, e))) (other-if (not (in_domain t)) _ _ (λ e. never (omega (arith, e))) h)

module _ (own : Bytes → Reply (List Step)) {text : Bytes} {table table' : List Step} where
  promised-12 : ((t : Bytes) → Other (own t)) → ((t : Bytes) (p o : ℕ) → own t ≡ refuses12 p o → FirstFault t p o) → {place offset : ℕ}
      → Promised prepared own text table (refusal_at 12 place offset) table' → FirstFault text place offset
  unfolding outcome
  promised-12 other fault {place} {offset} p =
      fault text place offset (tested-12 own text place offset (lent-12 table table' (tested own text) place offset (tested-other own text (other text)) p.exactly))

  promised-other : {number place offset : ℕ} → Promised prepared own text table (refusal_at number place offset) table' → (number ≡ 12 → ⊥) → offset ≡ 0
  unfolding outcome
  promised-other {number} {place} {offset} p k = lent_other table table' (tested own text) number place offset k p.exactly

module _ {text : Bytes} {table table' : List Step} where
  -- "12 gains the offset": it is that of the first fault
  pub offset-of-12 : {place offset : ℕ} → Prepares text table (refusal_at 12 place offset) table' → FirstFault text place offset
  unfolding prepare
  offset-of-12 = promised-12 prepare (prepare-other mode-is.Crate) (prepare-fault mode-is.Crate)

  pub offset-of-12-as : (how : Reading) (m : Mode) {place offset : ℕ} → PreparesAs how m text table (refusal_at 12 place offset) table' → FirstFault text place offset
  offset-of-12-as how m = promised-12 (prepare_as how m) (prepare-as-other m how) (prepare-as-fault how m)

  -- no other refusal has one
  pub no-other-offset : {number place offset : ℕ} → Prepares text table (refusal_at number place offset) table' → (number ≡ 12 → ⊥) → offset ≡ 0
  no-other-offset = promised-other prepare

  pub no-other-offset-as : (how : Reading) (m : Mode) {number place offset : ℕ} → PreparesAs how m text table (refusal_at number place offset) table'
      → (number ≡ 12 → ⊥) → offset ≡ 0
  no-other-offset-as how m = promised-other (prepare_as how m)

-- ---- the same of what a call on a text replies, before it is brought into a table

pub tested-fault : (how : Reading) (m : Mode) (t : Bytes) (place offset : ℕ) → tested (prepare_as how m) t ≡ refuses12 place offset → FirstFault t place offset
tested-fault how m t place offset h = prepare-as-fault how m t place offset (tested-12 (prepare_as how m) t place offset h)

-- `refuses` is never said of 12
pub never-12 : (how : Reading) (m : Mode) (t : Bytes) (number place : ℕ) → tested (prepare_as how m) t ≡ refuses number place → number ≡ 12 → ⊥
never-12 how m t number place h = go (tested (prepare_as how m) t) h (tested-other (prepare_as how m) t (prepare-as-other m how t))
  where
    go : (r : Reply (List Step)) → r ≡ refuses number place → Other r → number ≡ 12 → ⊥
    go r h k = unfold Other in rw h at k
