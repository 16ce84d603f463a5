-- What the check makes of an act, and what that says of the verdict.
use Rattle.std.specs.Prelude.{Ok, Err}
use mathlib.Core.Path.{◌≡◌, refl, ap, ◌∙◌, subst}
use Prim.Native.Nat.{ℕ, ◌≤◌, ◌<◌}
use mathlib.Core.Bool.{Bool, true, false, cond}
use mathlib.Core.List.{List, ◌∷◌}
use borrow.Author.Tests.{lt-ltb, le-ltb, ltb-false}
use lib.Dec.{ltb}
use lib.ListN.{length}
use Rattle.rules.specs.Operators.Acts.{Act}
use Rattle.rules.specs.Pipeline.Running.{Numbered}
use Rattle.rules.specs.Pipeline.Columns.{takes, too_few, moved}
use Rattle.rules.specs.Pipeline.Check.{Traced, on_places, verdict}
use Rattle.rules.specs.declared.Verdict.TheVariants.{TooFew, TooMany}
use Rattle.laws_lists.specs.Tests.{never}
use Rattle.laws_steps.specs.Depth.{grown, depth_after, moved-depth}
use Rattle.foretell.specs.declared.acts.Fault.TheVariants.{Few, Many}
use Rattle.foretell.specs.Judgement.{judged}

-- ---- what the check makes of an act

module _ (a : Act) {depth n : ℕ} (t : n ≡ takes a) where
  pub few-so : depth < n → (Err Few) ≡ judged a depth
  unfolding judged too_few
  few-so h = rw (lt-ltb _ _ (subst (λ (k : ℕ). depth < k) t h)) refl

  module _ {m : ℕ} (h : n ≤ depth) (after : m ≡ depth_after a depth) where
    g : m ≡ grown a depth
    unfolding depth_after too_few
    g = after ∙ rw (le-ltb _ _ (subst (λ (k : ℕ). k ≤ depth) t h)) refl

    pub many-so : 64 < m → (Err Many) ≡ judged a depth
    unfolding judged too_few
    many-so o = rw (le-ltb _ _ (subst (λ (k : ℕ). k ≤ depth) t h), lt-ltb _ _ (subst (λ (k : ℕ). 64 < k) g o)) refl

    pub goes_so : m ≤ 64 → Ok m ≡ judged a depth
    unfolding judged too_few
    goes_so o = rw (le-ltb _ _ (subst (λ (k : ℕ). k ≤ depth) t h), le-ltb _ _ (subst (λ (k : ℕ). k ≤ 64) g o)) (ap Ok g)

-- ---- the verdict, by what the check makes of the first act

-- an act that goes: there are columns enough, and room after it
pub record Going (a : Act) (depth n : ℕ) : Type 0 where
  pub enough : takes a ≤ depth
  pub room : grown a depth ≤ 64
  pub so-deep : n ≡ grown a depth

module _ (a : Act) (depth : ℕ) where
  pub few-is : judged a depth ≡ (Err Few) → too_few a depth ≡ true
  unfolding judged
  few-is e = go (too_few a depth) (ltb 64 (grown a depth)) e
    where
      go : (x y : Bool) → cond x (Err Few) (cond y (Err Many) (Ok (grown a depth))) ≡ (Err Few) → x ≡ true
      go true y e = refl
      go false true e = absurd (never (cc e))
      go false false e = absurd (never (cc e))

  pub many_is : judged a depth ≡ (Err Many) → (too_few a depth ≡ false) × (ltb 64 (grown a depth) ≡ true)
  unfolding judged
  many_is e = go (too_few a depth) (ltb 64 (grown a depth)) e
    where
      go : (x y : Bool) → cond x (Err Few) (cond y (Err Many) (Ok (grown a depth))) ≡ (Err Many) → (x ≡ false) × (y ≡ true)
      go true y e = absurd (never (cc e))
      go false true e = (refl, refl)
      go false false e = absurd (never (cc e))

  pub goes-is : (n : ℕ) → judged a depth ≡ Ok n → Going a depth n
  unfolding judged too_few
  goes-is n e = go (ltb depth (takes a)) refl (ltb 64 (grown a depth)) refl e
    where
      go : (x : Bool) → ltb depth (takes a) ≡ x → (y : Bool) → ltb 64 (grown a depth) ≡ y → cond x (Err Few) (cond y (Err Many) (Ok (grown a depth))) ≡ Ok n → Going a depth n
      go true p y q e = absurd (never (cc e))
      go false p true q e = absurd (never (cc e))
      go false p false q e = record { enough = ltb-false _ _ p; room = ltb-false _ _ q; so-deep = cc e }

module _ (s : Numbered) (l : List Numbered) (m : Traced) (d : ℕ) (h : length m.columns ≡ d) where
  pub verdict-few : judged s.does d ≡ (Err Few) → verdict (s ∷ l) m ≡ TooFew s.place
  unfolding verdict
  verdict-few e = rw (h, few-is s.does d e) refl

  pub verdict-many : judged s.does d ≡ (Err Many) → verdict (s ∷ l) m ≡ TooMany s.place
  unfolding verdict
  verdict-many e = rw (moved-depth on_places s.does m, h, (many_is s.does d e).0, (many_is s.does d e).1) refl

  pub verdict-goes : (n : ℕ) → judged s.does d ≡ Ok n → verdict (s ∷ l) m ≡ verdict l (moved on_places s.does m)
  unfolding verdict too_few
  verdict-goes n e = let g = goes-is s.does d n e in rw (moved-depth on_places s.does m, h, le-ltb _ _ g.enough, le-ltb _ _ g.room) refl
