-- The walk of the check over a table: what it has gathered of the steps behind it, and what the verdict hangs on.
use Rattle.std.specs.Prelude.{Option, None, Some, Ok, Err}
use mathlib.Core.Path.{◌≡◌, refl, sym, ap, ◌∙◌, subst}
use Prim.Native.Nat.{ℕ, suc, ◌+◌, ◌≤◌, ◌<◌, max, ◌-◌}
use mathlib.Core.Bool.{Bool, true, false, cond, not, ◌||◌, or-false}
use mathlib.Core.List.{List, [], ◌∷◌, ◌++◌, append_assoc, append-nil}
use native.Mathlib.Omega.{arith}
use lib.ListN.{length, get_or, set, take, replicate, length-append, length-drop}
use lib.Seq.{set_at}
use Rattle.rules.specs.Text.Lists.{any_of}
use Rattle.rules.specs.Pipeline.Record.{no_span, refusal18}
use Rattle.rules.specs.Operators.Acts.{Act}
use Rattle.rules.specs.Pipeline.Running.{act, Numbered, omitted, running}
use Rattle.rules.specs.Pipeline.Columns.{moved, after, depths, deepest}
use Rattle.rules.specs.Pipeline.Check as rules
use Rattle.rules.specs.Pipeline.Check.{on_places, verdict, begin, adapting, any_adapt, foretold, span_at, answered, check, checked, Checks, only, no_place}
use Rattle.rules.specs.declared.Place.{Place}
use Rattle.rules.specs.declared.Span.{Span}
use Rattle.rules.specs.declared.Step.{Step}
use Rattle.rules.specs.declared.Direction.{Direction}
use Rattle.rules.specs.declared.Verdict.TheVariants.{Passes, TooFew, TooMany, Refused}
use Rattle.rules.specs.declared.Foretold.{Foretold}
use Rattle.laws_steps.specs.Depth.{grown, moved-depth}
use Rattle.laws_steps.specs.Walk.{after_more, depths-more, deepest-more}
use Rattle.columns.specs.declared.acts.Doing.{Doing}
use Rattle.columns.specs.Doings.{doing, Does}
use Rattle.record.specs.Visits.{visited, left_from}
use Rattle.record.proofs.RunningOrder.{left-all, left-none, left-next}
use Rattle.foretell.specs.declared.acts.Fault.TheVariants.{Few, Many}
use Rattle.columns.specs.declared.traced.Traced.{Traced}
use Rattle.columns.specs.Traces.{machine, depth, Whole}
use Rattle.foretell.specs.Judgement.{Ready, judged}
use Rattle.foretell.specs.Steps.{Sofar, sofar, beginning, Begun, Went, told_of}
use Rattle.foretell.proofs.Judgements.{goes-is, verdict-few, verdict-many, verdict-goes}

-- what the steps so far have come to
pub record Gathered (l : List Numbered) (c : Sofar) : Type 0 where
  pub whole : Whole c.traced
  pub traced : machine c.traced ≡ after (moved on_places) l begin
  pub run : c.run ≡ length l
  pub depths-are : c.depths ≡ depths (moved on_places) l begin ++ replicate (64 - length l) 0
  pub deepest-is : c.deepest ≡ deepest (depths (moved on_places) l begin)
  pub adapts : c.adapts ≡ any_adapt l

depths-length : (l : List Numbered) (m : rules.Traced) → length (depths (moved on_places) l m) ≡ length l
unfolding depths
depths-length [] m = refl
depths-length (s ∷ l) m = ap suc (depths-length l (moved on_places s.does m))

or_assoc : (a b c : Bool) → (a || (b || c)) ≡ ((a || b) || c)
or_assoc true b c = refl
or_assoc false b c = refl

any-more : (l : List Numbered) (s : Numbered) → any_adapt (l ++ (s ∷ [])) ≡ (any_adapt l || adapting s.does)
unfolding any_adapt any_of
any-more [] s = or-false (adapting s.does)
any-more (x ∷ l) s = ap (λ (b : Bool). adapting x.does || b) (any-more l s) ∙ or_assoc (adapting x.does) (any_adapt l) (adapting s.does)

pub begun : {t : Traced} → t ≡ beginning → Begun (sofar t 0 (replicate 64 0) 0 false)
begun e = record { exactly = ap (λ (t : Traced). sofar t 0 (replicate 64 0) 0 false) e }

pub gathered_none : {c : Sofar} → Begun c → Gathered [] c
unfolding machine after depths deepest any_adapt any_of
gathered_none {c} b =
    subst (Gathered []) (sym b.exactly) (record
    { whole = record { four = refl; most = refl; within = omega arith }; traced = refl; run = refl; depths-are = refl; deepest-is = refl; adapts = refl })

pub gathered-more : {l : List Numbered} (s : Numbered) {c r : Sofar} {n : ℕ} → Gathered l c → length l < 64 → n ≡ grown s.does (length (machine c.traced).columns)
    → Went s.does n c r → Gathered (l ++ (s ∷ [])) r
unfolding depths deepest after
gathered-more {l} s {c} {r} {n} g few e w =
    let m = after (moved on_places) l begin in
    let d = length (moved on_places s.does m).columns in
    let ds = depths (moved on_places) l begin in
    let new : depths (moved on_places) (l ++ (s ∷ [])) begin ≡ ds ++ (d ∷ []) = depths-more (moved on_places) l (s ∷ []) begin in
    let one : length (l ++ (s ∷ [])) ≡ suc (length l) = length-append l (s ∷ []) ∙ omega arith in
    let deep : n ≡ d = e ∙ sym (moved-depth on_places s.does (machine c.traced)) ∙ ap (λ (x : rules.Traced). length (moved on_places s.does x).columns) g.traced in
    record {
      whole = w.traced.whole;
      traced = w.traced.same ∙ ap (moved on_places s.does) g.traced ∙ sym (after_more (moved on_places) l (s ∷ []) begin);
      run = w.run ∙ ap (λ (k : ℕ). k + 1) g.run ∙ sym (length-append l (s ∷ []));
      depths-are =
          w.depths
          ∙ ap (λ (k : ℕ). set c.depths k n) g.run
          ∙ ap (λ (x : List ℕ). set x (length l) n) (g.depths-are ∙ ap (λ (x : List ℕ). ds ++ x) (room (length l) few))
          ∙ set_at ds 0 (replicate (64 - suc (length l)) 0) n (length l) (depths-length l begin)
          ∙ ap (λ (k : ℕ). ds ++ (k ∷ replicate (64 - suc (length l)) 0)) deep
          ∙ sym (append_assoc ds (d ∷ []) (replicate (64 - suc (length l)) 0))
          ∙ sym (ap (λ (x : List ℕ). x ++ replicate (64 - length (l ++ (s ∷ []))) 0) new ∙ ap (λ (k : ℕ). (ds ++ (d ∷ [])) ++ replicate (64 - k) 0) one);
      deepest-is =
          w.deepest
          ∙ ap (λ (k : ℕ). max k n) g.deepest-is
          ∙ ap (max (deepest ds)) (deep ∙ only_one d)
          ∙ sym (deepest-more ds (d ∷ []))
          ∙ sym (ap deepest new);
      adapts = w.adapts ∙ ap (λ (b : Bool). b || adapting s.does) g.adapts ∙ sym (any-more l s);
    }
  where
    room : (k : ℕ) → k < 64 → replicate {A = ℕ} (64 - k) 0 ≡ 0 ∷ replicate {A = ℕ} (64 - suc k) 0
    room k h = ap (λ (j : ℕ). replicate {A = ℕ} j 0) (less k h)
      where
        less : (k : ℕ) → k < 64 → 64 - k ≡ suc (64 - suc k)
        less k h = omega (arith, h)

    only_one : (d : ℕ) → d ≡ max d 0
    only_one d = omega arith

-- ---- the walk

pub record Checking (d : Direction) (l : List Step) (k : ℕ) (c : Sofar) : Type 0 where
  pub done : List Numbered
  pub gathered : Gathered done c
  pub whole : running d l ≡ done ++ left_from d k l
  pub hangs : verdict (running d l) begin ≡ verdict (left_from d k l) (machine c.traced)
  pub behind : length done ≤ k

pub checking-none : (d : Direction) (l : List Step) {c : Sofar} → Begun c → Checking d l 0 c
unfolding machine after
checking-none d l {c} b =
    let g = gathered_none b in
    record {
      done = [];
      gathered = g;
      whole = sym (left-all d l);
      hangs = ap (λ (x : List Numbered). verdict x begin) (sym (left-all d l)) ∙ ap (verdict (left_from d 0 l)) (sym g.traced);
      behind = omega arith;
    }

-- the depth of the machine
pub columns-many : (c : Sofar) → Whole c.traced → length (machine c.traced).columns ≡ 64 - c.traced.top
unfolding machine
columns-many c w = length-drop c.traced.top c.traced.columns ∙ ap (λ (n : ℕ). n - c.traced.top) w.most

module _ {d : Direction} {l : List Step} {k : ℕ} {c : Sofar} (ch : Checking d l k c) (h : k < length l) (s : Step) (i : ℕ) (z : Step)
    (at : i ≡ visited d k (length l)) (is : s ≡ get_or l i z) where
  own : Numbered
  own = record { place = i + 1; does = act d s }

  next : left_from d k l ≡ cond (omitted d s) (left_from d (k + 1) l) (own ∷ left_from d (k + 1) l)
  unfolding own
  next = rw (is, at) (left-next d l k z h)

  -- a step that is left out
  pub checking-omitted : omitted d s ≡ true → Checking d l (k + 1) c
  checking-omitted e =
      let skip : left_from d k l ≡ left_from d (k + 1) l = next ∙ rw e refl in
      record {
        done = ch.done;
        gathered = ch.gathered;
        whole = ch.whole ∙ ap (λ (x : List Numbered). ch.done ++ x) skip;
        hangs = ch.hangs ∙ ap (λ (x : List Numbered). verdict x (machine c.traced)) skip;
        behind = omega (arith, ch.behind);
      }

  module _ (e : omitted d s ≡ false) (a : Act) (same : a ≡ act d s) where
    runs : left_from d k l ≡ own ∷ left_from d (k + 1) l
    runs = next ∙ rw e refl

    at-depth : length (machine c.traced).columns ≡ 64 - c.traced.top
    at-depth = columns-many c ch.gathered.whole

    -- a step at fault
    pub checking-few : judged a (64 - c.traced.top) ≡ (Err Few) → verdict (running d l) begin ≡ TooFew (i + 1)
    unfolding own
    checking-few j =
        ch.hangs ∙ ap (λ (x : List Numbered). verdict x (machine c.traced)) runs
        ∙ verdict-few own (left_from d (k + 1) l) (machine c.traced) (64 - c.traced.top) at-depth (ap (λ (x : Act). judged x (64 - c.traced.top)) (sym same) ∙ j)

    pub checking-many : judged a (64 - c.traced.top) ≡ (Err Many) → verdict (running d l) begin ≡ TooMany (i + 1)
    unfolding own
    checking-many j =
        ch.hangs ∙ ap (λ (x : List Numbered). verdict x (machine c.traced)) runs
        ∙ verdict-many own (left_from d (k + 1) l) (machine c.traced) (64 - c.traced.top) at-depth (ap (λ (x : Act). judged x (64 - c.traced.top)) (sym same) ∙ j)

    -- a step that goes
    pub checking-goes : {r : Sofar} {n : ℕ} → length l ≤ 64 → judged a (64 - c.traced.top) ≡ Ok n → Went a n c r → Checking d l (k + 1) r
    unfolding own
    checking-goes {r} {n} few j w =
        let j' : judged (act d s) (64 - c.traced.top) ≡ Ok n = ap (λ (x : Act). judged x (64 - c.traced.top)) (sym same) ∙ j in
        let g = goes-is (act d s) (64 - c.traced.top) n j' in
        let w' : Went (act d s) n c r = subst (λ (x : Act). Went x n c r) same w in
        record {
          done = ch.done ++ (own ∷ []);
          gathered = gathered-more own ch.gathered (omega (arith, ch.behind, h, few)) (g.so-deep ∙ ap (grown (act d s)) (sym at-depth)) w';
          whole = ch.whole ∙ ap (λ (x : List Numbered). ch.done ++ x) runs ∙ sym (append_assoc ch.done (own ∷ []) (left_from d (k + 1) l));
          hangs =
              ch.hangs ∙ ap (λ (x : List Numbered). verdict x (machine c.traced)) runs
              ∙ verdict-goes own (left_from d (k + 1) l) (machine c.traced) (64 - c.traced.top) at-depth n j'
              ∙ ap (verdict (left_from d (k + 1) l)) (sym w'.traced.same);
          behind = omega (arith, ch.behind, length-append ch.done (own ∷ []));
        }

-- ---- the answer

module _ (t : List Step) (l : List Numbered) (k : ℕ) (p : Span) (here : p ≡ span_at k t) where
  pub answers-few : verdict l begin ≡ TooFew k → only (TooFew k) p ≡ checked None t l
  unfolding checked answered
  answers-few e = rw (e, here) refl

  pub answers-many : verdict l begin ≡ TooMany k → only (TooMany k) p ≡ checked None t l
  unfolding checked answered
  answers-many e = rw (e, here) refl

told_is : {l : List Numbered} {c : Sofar} → Gathered l c → told_of c ≡ foretold l
unfolding foretold told_of depth machine
told_is {l} {c} g =
    let ds = depths (moved on_places) l begin in
    let run_is : c.run ≡ length ds = g.run ∙ sym (depths-length l begin) in
    let depths-is : c.depths ≡ ds ++ replicate (64 - length ds) 0 = g.depths-are ∙ ap (λ (k : ℕ). ds ++ replicate (64 - k) 0) (sym (depths-length l begin)) in
    let left_is : 64 - c.traced.top ≡ length (after (moved on_places) l begin).columns =
    sym (columns-many c g.whole) ∙ ap (λ (m : rules.Traced). length m.columns) g.traced in
    λ i.
    record {
      verdict = Passes;
      span = no_span;
      run = run_is i;
      depths = depths-is i;
      deepest = g.deepest-is i;
      left = left_is i;
      told = not (g.adapts i);
      places = cond (not (g.adapts i)) (g.traced i).tuples (replicate 4 no_place);
    }

pub told-so : (c : Sofar) {places : List Place} → places ≡ cond (not c.adapts) c.traced.tuple (replicate 4 no_place)
    → record { verdict = Passes; span = no_span; run = c.run; depths = c.depths; deepest = c.deepest; left = 64 - c.traced.top; told = not c.adapts; places = places } ≡ told_of c
unfolding told_of depth
told-so c e =
    λ i.
    record { verdict = Passes; span = no_span; run = c.run; depths = c.depths; deepest = c.deepest; left = 64 - c.traced.top; told = not c.adapts; places = e i }

pub answers-told : {d : Direction} {l : List Step} {k : ℕ} {c : Sofar} → Checking d l k c → length l ≤ k → told_of c ≡ checked None l (running d l)
unfolding checked answered verdict
answers-told {d} {l} {k} {c} ch h =
    let nothing = left-none d l k h in
    let all_of : running d l ≡ ch.done = ch.whole ∙ ap (λ (x : List Numbered). ch.done ++ x) nothing ∙ append-nil ch.done in
    let passes : verdict (running d l) begin ≡ Passes = ch.hangs ∙ ap (λ (x : List Numbered). verdict x (machine c.traced)) nothing in
    rw passes (told_is ch.gathered ∙ ap foretold (sym all_of))

-- ---- what the next step needs

pub ready-so : {a : Act} {d : Doing} {t : Traced} {n : ℕ} → Does a d → Whole t → judged (doing d) (64 - t.top) ≡ Ok n
    → Ready t d.act (take d.n d.args)
unfolding doing depth
ready-so {a} {d} {t} {n} does w j =
    let g = goes-is (doing d) (64 - t.top) n j in
    record { whole = w; rule = does.rule; enough = g.enough; room = g.room }

-- ---- refusal 18, and the whole

pub checks-refused : {d : Direction} {l : List Step} {k : ℕ} {b : Option ℕ} {r : Foretold} → b ≡ refusal18 l → b ≡ Some k → r ≡ only (Refused 18 k) no_span → Checks d l r
unfolding check checked
checks-refused e f g = record { exactly = g ∙ rw (sym e ∙ f) refl }

pub checks-so : {d : Direction} {l : List Step} {r : Foretold} → refusal18 l ≡ None → r ≡ checked None l (running d l) → Checks d l r
unfolding check
checks-so {d} {l} e g = record { exactly = g ∙ rw e refl }
