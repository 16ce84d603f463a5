-- The check's verdict is the first fault of the run, and after a pass the run's depths are the foretold ones.
use Rattle.std.specs.Prelude.{◌≡◌, refl, ℕ, Bool, true, false, cond, List, [], ◌∷◌, length, ltb}
use Rattle.std.proofs.Common.{sym, ap, ◌∙◌}
use Rattle.rules.specs.Operators.Acts.{Act}
use Rattle.rules.specs.Pipeline.Running.{Numbered}
use Rattle.rules.specs.Pipeline.Columns.{moved, too_few, depths}
use Rattle.rules.specs.Pipeline.Tuples.{State, on_numbers, acted_if, acted}
use Rattle.rules.specs.Pipeline.Check.{Traced, on_places, verdict}
use Rattle.rules.specs.declared.Verdict.{Verdict}
use Rattle.rules.specs.declared.Verdict.TheVariants.{Passes, TooFew, TooMany, Refused}
use Rattle.laws_lists.specs.Tests.{never}
use Rattle.laws_steps.specs.Depth.{grown, moved-depth}

-- The first step of the written run that finds fewer columns than it takes, or after which there are more than 64.
unfoldable pub fault : List Numbered → State → Verdict
fault [] m = Passes
fault (s ∷ l) m =
    let m' = acted s.does m in
    let rest = fault l m' in
    let enough = cond (ltb 64 (length m'.columns)) (TooMany s.place) rest in
    cond (too_few s.does (length m.columns)) (TooFew s.place) enough

-- where a step finds enough, the run moves as the check does
pub acted-moved : (a : Act) (m : State) → too_few a (length m.columns) ≡ false → acted a m ≡ moved on_numbers a m
unfolding acted acted_if
acted-moved a m h = ap (λ (b : Bool). acted_if b a m) h

-- machines of one depth have one depth after a step
pub depth_same : (a : Act) (m : State) (p : Traced) → length m.columns ≡ length p.columns → too_few a (length m.columns) ≡ false
    → length (acted a m).columns ≡ length (moved on_places a p).columns
depth_same a m p e h =
    ap (λ (z : State). length z.columns) (acted-moved a m h)
    ∙ moved-depth on_numbers a m
    ∙ ap (grown a) e
    ∙ sym (moved-depth on_places a p)

choose : (b : Bool) (few many v w : Verdict) (d e : ℕ) → (b ≡ false → d ≡ e) → (b ≡ false → v ≡ w)
    → cond b few (cond (ltb 64 d) many v) ≡ cond b few (cond (ltb 64 e) many w)
choose true few many v w d e p q = refl
choose false few many v w d e p q = λ i. cond (ltb 64 (p refl i)) many (q refl i)

-- The check's verdict is that of the written run, whatever the tuples.
pub verdict-fault : (l : List Numbered) (m : State) (p : Traced) → length m.columns ≡ length p.columns → verdict l p ≡ fault l m
unfolding verdict fault
verdict-fault [] m p e = refl
verdict-fault (s ∷ l) m p e =
    let a = s.does in
    let m' = acted a m in
    let p' = moved on_places a p in
    ap (λ (n : ℕ). cond (too_few a n) (TooFew s.place) (cond (ltb 64 (length p'.columns)) (TooMany s.place) (verdict l p'))) (sym e)
    ∙ choose (too_few a (length m.columns)) (TooFew s.place) (TooMany s.place) (verdict l p') (fault l m') (length p'.columns) (length m'.columns)
    (λ h. sym (depth_same a m p e h))
    (λ h. verdict-fault l m' p' (depth_same a m p e h))

-- what a pass says of the first step
pub record First (s : Numbered) (l : List Numbered) (p : Traced) : Type 0 where
  pub enough : too_few s.does (length p.columns) ≡ false
  pub within : ltb 64 (length (moved on_places s.does p).columns) ≡ false
  pub rest : verdict l (moved on_places s.does p) ≡ Passes

pub first_of : (s : Numbered) (l : List Numbered) (p : Traced) → verdict (s ∷ l) p ≡ Passes → First s l p
unfolding verdict
first_of s l p h = go (too_few s.does (length p.columns)) (ltb 64 (length p'.columns)) refl refl h
  where
    p' : Traced
    p' = moved on_places s.does p

    go : (b c : Bool) → too_few s.does (length p.columns) ≡ b → ltb 64 (length p'.columns) ≡ c
        → cond b (TooFew s.place) (cond c (TooMany s.place) (verdict l p')) ≡ Passes → First s l p
    go true c e f h = absurd (never (cc h))
    go false true e f h = absurd (never (cc h))
    go false false e f h = record { enough = e; within = f; rest = h }

-- a verdict on records that a preparation makes refuses nothing
pub no-refusal : (l : List Numbered) (p : Traced) (n k : ℕ) → verdict l p ≡ Refused n k → ⊥
unfolding verdict
no-refusal [] p n k h = never (cc h)
no-refusal (s ∷ l) p n k h =
    go (too_few s.does (length p.columns)) (ltb 64 (length (moved on_places s.does p).columns)) (no-refusal l (moved on_places s.does p) n k) h
  where
    go : (b c : Bool) → (verdict l (moved on_places s.does p) ≡ Refused n k → ⊥)
        → cond b (TooFew s.place) (cond c (TooMany s.place) (verdict l (moved on_places s.does p))) ≡ Refused n k → ⊥
    go true c f h = never (cc h)
    go false true f h = never (cc h)
    go false false f h = f h

-- After a pass, the run's depths are the foretold ones.
pub depths-foretold : (l : List Numbered) (m : State) (p : Traced) → length m.columns ≡ length p.columns → verdict l p ≡ Passes
    → depths acted l m ≡ depths (moved on_places) l p
unfolding depths
depths-foretold [] m p e h = refl
depths-foretold (s ∷ l) m p e h =
    let f = first_of s l p h in
    let d = depth_same s.does m p e (ap (too_few s.does) e ∙ f.enough) in
    λ i. d i ∷ depths-foretold l (acted s.does m) (moved on_places s.does p) d f.rest i
