-- Demand 3, exactly when, over the run's own depths: the check passes exactly where every step that runs finds as many columns as it takes
-- and leaves at most 64; else it names the first step of which that is not so, and what is wrong with it. The check's verdict is the
-- first fault of the written run (`check-fault`), and a fault is found by walking along the steps: so both are shown by that walk.
use Rattle.std.specs.Prelude.{◌≡◌, refl, ◌↔◌, ℕ, ◌≤◌, ◌<◌, Bool, true, false, cond, List, [], ◌∷◌, ◌++◌, ltb, length, Float, Option, None, Some}
use Rattle.std.proofs.Common.{sym, ap, ◌∙◌, subst, append-nil, ltb-true, ltb-false, lt-ltb, le-ltb}
use Rattle.rules.specs.Pipeline.Record.{refusal18}
use Rattle.rules.specs.Pipeline.Running.{Numbered, running}
use Rattle.rules.specs.Pipeline.Columns.{takes, too_few, after}
use Rattle.rules.specs.Pipeline.Tuples.{State, acted}
use Rattle.rules.specs.Pipeline.Run.{start}
use Rattle.rules.specs.Pipeline.Check.{only, checked, check}
use Rattle.rules.specs.Face.Demands.{EachWell, Few, Many, FirstAtFault}
use Rattle.rules.specs.declared.Step.{Step}
use Rattle.rules.specs.declared.Direction.{Direction}
use Rattle.rules.specs.declared.Verdict.{Verdict}
use Rattle.rules.specs.declared.Verdict.TheVariants.{Passes, TooFew, TooMany, Refused}
use Rattle.laws_lists.specs.Tests.{never}
use Rattle.laws_steps.specs.Verdict.{fault}
use Rattle.laws_steps.specs.Foretold.{check-fault, check-refused}

-- ---- along the steps, from any state on

-- a step finds enough columns, and leaves at most 64
record WellAt (s : Numbered) (m : State) : Type 0 where
  enough : takes s.does ≤ length m.columns
  within : length (acted s.does m).columns ≤ 64

-- it finds too few; or enough, and leaves too many
abbrev FewAt : Numbered → State → Type 0
FewAt s m = length m.columns < takes s.does

abbrev ManyAt : Numbered → State → Type 0
ManyAt s m = (takes s.does ≤ length m.columns) × (64 < length (acted s.does m).columns)

-- every step, one after the other
data AllWell : List Numbered → State → Type 0 where
  done : {m : State} → AllWell [] m
  next : {s : Numbered} {l : List Numbered} {m : State} → WellAt s m → AllWell l (acted s.does m) → AllWell (s ∷ l) m

-- the first step at fault, after steps that are well
record First (wrong : Numbered → State → Type 0) (place : ℕ) (l : List Numbered) (m : State) : Type 0 where
  before : List Numbered
  step : Numbered
  rest : List Numbered
  whole : l ≡ before ++ (step ∷ rest)
  well : AllWell before m
  named : step.place ≡ place
  fault-is : wrong step (after acted before m)

-- what a verdict says of the steps
Tells : Verdict → List Numbered → State → Type 0
Tells Passes l m = AllWell l m
Tells (TooFew k) l m = First FewAt k l m
Tells (TooMany k) l m = First ManyAt k l m
Tells (Refused number k) l m = ⊥

-- one well step in front of the first fault; here is the first fault
later : {wrong : Numbered → State → Type 0} {k : ℕ} {l : List Numbered} (s : Numbered) {m : State} → WellAt s m → First wrong k l (acted s.does m) → First wrong k (s ∷ l) m
unfolding after
later s w f =
    record {
      before = s ∷ f.before;
      step = f.step;
      rest = f.rest;
      whole = ap (λ (r : List Numbered). s ∷ r) f.whole;
      well = next w f.well;
      named = f.named;
      fault-is = f.fault-is;
    }

here : {wrong : Numbered → State → Type 0} (l : List Numbered) (s : Numbered) {m : State} → wrong s m → First wrong s.place (s ∷ l) m
unfolding after
here l s f = record { before = []; step = s; rest = l; whole = refl; well = done; named = refl; fault-is = f }

after-well : (v : Verdict) (s : Numbered) (l : List Numbered) (m : State) → WellAt s m → Tells v l (acted s.does m) → Tells v (s ∷ l) m
unfolding Tells
after-well Passes s l m w t = next w t
after-well (TooFew k) s l m w t = later s w t
after-well (TooMany k) s l m w t = later s w t
after-well (Refused number k) s l m w t = t

fault-tells : (l : List Numbered) (m : State) → Tells (fault l m) l m
unfolding fault too_few Tells
fault-tells [] m = done
fault-tells (s ∷ l) m = go (ltb (length m.columns) (takes s.does)) refl (ltb 64 (length (acted s.does m).columns)) refl (fault-tells l (acted s.does m))
  where
    go : (a : Bool) → ltb (length m.columns) (takes s.does) ≡ a → (b : Bool) → ltb 64 (length (acted s.does m).columns) ≡ b
        → Tells (fault l (acted s.does m)) l (acted s.does m) → Tells (cond a (TooFew s.place) (cond b (TooMany s.place) (fault l (acted s.does m)))) (s ∷ l) m
    go true p b q t = here l s (ltb-true _ _ p)
    go false p true q t = here l s (ltb-false _ _ p, ltb-true _ _ q)
    go false p false q t =
        after-well (fault l (acted s.does m)) s l m (record { enough = ltb-false _ _ p; within = ltb-false _ _ q }) t

-- and the other way round: well steps are passed over, and the first that is not decides
past-well : (before l : List Numbered) (m : State) → AllWell before m → fault (before ++ l) m ≡ fault l (after acted before m)
unfolding fault too_few after
past-well [] l m w = refl
past-well (s ∷ before) l m (next w ws) = rw (le-ltb _ _ w.enough, le-ltb _ _ w.within) (past-well before l (acted s.does m) ws)

well-fault : (l : List Numbered) (m : State) → AllWell l m → fault l m ≡ Passes
unfolding fault
well-fault l m w = ap (λ (r : List Numbered). fault r m) (sym (append-nil l)) ∙ past-well l [] m w

few-fault : {k : ℕ} {l : List Numbered} {m : State} → First FewAt k l m → fault l m ≡ TooFew k
unfolding fault too_few
few-fault {k} {l} {m} f = ap (λ (r : List Numbered). fault r m) f.whole ∙ past-well f.before (f.step ∷ f.rest) m f.well ∙ decides ∙ ap TooFew f.named
  where
    decides : fault (f.step ∷ f.rest) (after acted f.before m) ≡ TooFew f.step.place
    decides = rw (lt-ltb _ _ f.fault-is)

many-fault : {k : ℕ} {l : List Numbered} {m : State} → First ManyAt k l m → fault l m ≡ TooMany k
unfolding fault too_few
many-fault {k} {l} {m} f = ap (λ (r : List Numbered). fault r m) f.whole ∙ past-well f.before (f.step ∷ f.rest) m f.well ∙ decides ∙ ap TooMany f.named
  where
    decides : fault (f.step ∷ f.rest) (after acted f.before m) ≡ TooMany f.step.place
    decides = rw (le-ltb _ _ f.fault-is.0, lt-ltb _ _ f.fault-is.1)

-- ---- the same in the demand's words: wherever the steps are cut in two

one_more : (l : List Numbered) (s : Numbered) (m : State) → after acted (l ++ (s ∷ [])) m ≡ acted s.does (after acted l m)
unfolding after
one_more [] s m = refl
one_more (x ∷ l) s m = one_more l s (acted x.does m)

first-well : {s : Numbered} {l : List Numbered} {m : State} → AllWell (s ∷ l) m → WellAt s m × AllWell l (acted s.does m)
first-well (next h hs) = (h, hs)

at_cut : (l : List Numbered) (m : State) → AllWell l m → (before : List Numbered) (s : Numbered) (rest : List Numbered) → l ≡ before ++ (s ∷ rest)
    → WellAt s (after acted before m)
unfolding after
at_cut l m w [] s rest e = (first-well (subst (λ (k : List Numbered). AllWell k m) e w)).0
at_cut l m w (b ∷ before) s rest e =
    at_cut (before ++ (s ∷ rest)) (acted b.does m) (first-well (subst (λ (k : List Numbered). AllWell k m) e w)).1 before s rest refl

at-all-cuts : (l : List Numbered) (m : State)
    → ((before : List Numbered) (s : Numbered) (rest : List Numbered) → l ≡ before ++ (s ∷ rest) → WellAt s (after acted before m)) → AllWell l m
unfolding after
at-all-cuts [] m h = done
at-all-cuts (s ∷ l) m h =
    next (h [] s l refl) (at-all-cuts l (acted s.does m) (λ before x rest e. h (s ∷ before) x rest (ap (λ (r : List Numbered). s ∷ r) e)))

each-well : (l : List Numbered) (xs : List Float) → AllWell l (start xs) → EachWell l xs
each-well l xs w before s rest e =
    let h = at_cut l (start xs) w before s rest e in
    record { finds = h.enough; leaves = rw (one_more before s (start xs)) h.within }

well-each : (l : List Numbered) (xs : List Float) → EachWell l xs → AllWell l (start xs)
well-each l xs h =
    at-all-cuts l (start xs)
    (λ before s rest e. record { enough = (h before s rest e).finds; within = rw (one_more before s (start xs)) at (h before s rest e).leaves })

-- the first step at fault, whatever is wrong with it
module _ {wrong : Numbered → State → Type 0} {fault-of : List Numbered → Numbered → Type 0} {xs : List Float} {k : ℕ} {l : List Numbered} where
  first-is : ((before : List Numbered) (s : Numbered) → wrong s (after acted before (start xs)) → fault-of before s) → First wrong k l (start xs) → FirstAtFault fault-of k l xs
  first-is says f =
      record {
        before = f.before;
        step = f.step;
        rest = f.rest;
        in_order = f.whole;
        well-before = each-well f.before xs f.well;
        at_place = f.named;
        at-fault = says f.before f.step f.fault-is;
      }

  is-first : ((before : List Numbered) (s : Numbered) → fault-of before s → wrong s (after acted before (start xs))) → FirstAtFault fault-of k l xs → First wrong k l (start xs)
  is-first says f =
      record {
        before = f.before;
        step = f.step;
        rest = f.rest;
        whole = f.in_order;
        well = well-each f.before xs f.well-before;
        named = f.at_place;
        fault-is = says f.before f.step f.at-fault;
      }

-- ---- of the check, on any list

-- A table of which the check passes, or says too few or too many, is one of records that preparations make.
made-if : (d : Direction) (t : List Step) → ((k : ℕ) → (check d t).verdict ≡ Refused 18 k → ⊥) → refusal18 t ≡ None
unfolding check checked only
made-if d t h = go (refusal18 t) h
  where
    go : (o : Option ℕ) → ((k : ℕ) → (checked o t (running d t)).verdict ≡ Refused 18 k → ⊥) → o ≡ None
    go None h = refl
    go (Some k) h = absurd (h k refl)

module _ (d : Direction) (t : List Step) (xs : List Float) where
  -- what it says of a table of records that preparations make, it says of the run
  tells : (v : Verdict) → refusal18 t ≡ None → (check d t).verdict ≡ v → Tells v (running d t) (start xs)
  tells v r h = subst (λ (w : Verdict). Tells w (running d t) (start xs)) (sym (check-fault d t xs r) ∙ h) (fault-tells (running d t) (start xs))

  pub passes-exactly : ((check d t).verdict ≡ Passes) ↔ ((refusal18 t ≡ None) × EachWell (running d t) xs)
  unfolding Tells
  passes-exactly = (
    λ h. let r = made-if d t (λ k e. never (cc (h, e))) in (r, each-well (running d t) xs (tells Passes r h)),
    λ w. check-fault d t xs w.0 ∙ well-fault (running d t) (start xs) (well-each (running d t) xs w.1),
  )

  pub few-exactly : (k : ℕ) → ((check d t).verdict ≡ TooFew k) ↔ ((refusal18 t ≡ None) × FirstAtFault (Few xs) k (running d t) xs)
  unfolding Tells
  few-exactly k = (
    λ h. let r = made-if d t (λ k e. never (cc (h, e))) in (r, first-is (λ before s e. record { finds = e }) (tells (TooFew k) r h)),
    λ w. check-fault d t xs w.0 ∙ few-fault (is-first (λ before s e. e.finds) w.1),
  )

  pub many-exactly : (k : ℕ) → ((check d t).verdict ≡ TooMany k) ↔ ((refusal18 t ≡ None) × FirstAtFault (Many xs) k (running d t) xs)
  unfolding Tells
  many-exactly k = (
    λ h. let r = made-if d t (λ k e. never (cc (h, e))) in
        (r, first-is (λ before s e. record { finds = e.0; leaves = rw (one_more before s (start xs)) e.1 }) (tells (TooMany k) r h)),
    λ w. check-fault d t xs w.0 ∙ many-fault (is-first (λ before s e. (e.finds, rw (one_more before s (start xs)) at e.leaves)) w.1),
  )

  pub refused-exactly : (number k : ℕ) → ((check d t).verdict ≡ Refused number k) ↔ ((number ≡ 18) × (refusal18 t ≡ Some k))
  unfolding check checked only
  refused-exactly number k = (check-refused d t number k, λ w. rw w.1 (ap (λ (n : ℕ). Refused n k) (sym w.0)))
