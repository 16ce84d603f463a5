-- The first faulty step: the tests on a step, and the loop over the steps.
use Rattle.std.proofs.Common.{Option, Some, None}
use mathlib.Core.Path.{◌≡◌, refl, sym, ap, ◌∙◌}
use mathlib.Core.Bool.{Bool, true, false, not, ◌&&◌}
use mathlib.Core.List.{[], ◌∷◌}
use Prim.Native.Nat.{ℕ, suc, ◌+◌, ◌<◌, ◌≤◌}
use native.Mathlib.Numerals.{add-one}
use native.Mathlib.Omega.{arith}
use borrow.Author.Tests.{eq-eqb, ne_eqb, lt-ltb}
use lib.ListN.{length}
use lib.Dec.{eqb, ltb}
use Rattle.rules.specs.Text.Lists.{non_empty}
use Rattle.rules.specs.Text.Bytes.{Bytes, Words, Steps, words}
use Rattle.rules.specs.Text.Refusal.{Reply}
use Rattle.rules.specs.Proj.Translate.{Pipeline, is_pipeline, only_inv, first_fault}
use Rattle.proj_words.specs.Cuts.{steps_from}
use Rattle.proj_words.specs.Steps.{Took}
use Rattle.proj_words.specs.Heads.{coming, IsHead}
use Rattle.proj_words.specs.Facts.{IsMarks}
use Rattle.proj_words.specs.declared.exchange.Head.{Head}
use Rattle.proj_words.specs.declared.exchange.Marks.{Marks}
use Rattle.proj.specs.Flaws.{unless, IsStepFlaw, IsFlaw}

length_none : (g : Bytes) → eqb (length g) 0 ≡ not (non_empty g)
unfolding non_empty
length_none [] = eq-eqb (length {A = ℕ} []) 0 refl
length_none (x ∷ g) = ne_eqb (suc (length g)) 0 (never (length g))
  where
    never : (n : ℕ) → suc n ≡ 0 → ⊥
    never n e = omega arith

-- ---- a step

module _ (p : Pipeline) (place : ℕ) {ws : Words} {h : Head} (m : IsHead ws h) where
  pub flaw-init : h.init ≡ true → IsStepFlaw p place ws (Some 3)
  flaw-init e = record { says = λ reply. rw (sym m.init ∙ e) }

  module _ (i : h.init ≡ false) where
    pub flaw-nested : 1 < place → h.pipeline ≡ true → IsStepFlaw p place ws (Some 4)
    flaw-nested l e = record { says = λ reply. rw (sym m.init ∙ i, lt-ltb 1 place l, sym m.pipeline ∙ e) }

    module _ (n : (ltb 1 place && h.pipeline) ≡ false) {k : Marks} (w : IsMarks (coming h.words) k) where
      outer : (ltb 1 place && is_pipeline ws) ≡ false
      outer = ap (λ (b : Bool). ltb 1 place && b) (sym m.pipeline) ∙ n

      only-is : (k.only && (eqb (length p.globals) 0 && not p.inverted)) ≡ only_inv p ws
      unfolding only_inv
      only-is = rw (w.only, m.words, length_none p.globals)

      pub flaw-only : (k.only && (eqb (length p.globals) 0 && not p.inverted)) ≡ true → IsStepFlaw p place ws (Some 5)
      flaw-only e = record { says = λ reply. rw (sym m.init ∙ i, outer, sym only-is ∙ e) }

      pub flaw-none : (k.only && (eqb (length p.globals) 0 && not p.inverted)) ≡ false → IsStepFlaw p place ws None
      flaw-none e = record { says = λ reply. rw (sym m.init ∙ i, outer, sym only-is ∙ e) }

-- ---- the loop

-- no step before the place is at fault, and as many stand before it as are counted
pub record Flawing (p : Pipeline) (n : Bytes) (k place : ℕ) : Type 0 where
  pub within : k ≤ length n
  pub small : length n ≤ 40960
  pub few : place ≤ k + 1
  pub same : (reply : Reply Bytes) → first_fault p 1 (steps_from n 0) reply ≡ first_fault p place (steps_from n k) reply

pub flawing-start : {p : Pipeline} {n : Bytes} → length n ≤ 40960 → Flawing p n 0 1
flawing-start h = record { within = omega arith; small = h; few = omega arith; same = λ reply. refl }

module _ {p : Pipeline} {n : Bytes} {k place : ℕ} (i : Flawing p n k place) where
  pub flawing-end : steps_from n k ≡ [] → IsFlaw p (steps_from n 0) None
  unfolding first_fault
  flawing-end e = record { says = λ reply. i.same reply ∙ ap (λ (ss : Steps). first_fault p place ss reply) e }

  module _ {then : ℕ} {t : Bytes} (s : Took n k then t) {r : Option ℕ} (f : IsStepFlaw p place (words t) r) where
    here : (reply : Reply Bytes) → first_fault p 1 (steps_from n 0) reply ≡ unless r place (first_fault p (suc place) (steps_from n then) reply)
    unfolding first_fault
    here reply = i.same reply ∙ ap (λ (ss : Steps). first_fault p place ss reply) s.here ∙ f.says (first_fault p (suc place) (steps_from n then) reply)

    pub flawing-here : {number : ℕ} → r ≡ Some number → IsFlaw p (steps_from n 0) (Some (record { number = number; place = place }))
    flawing-here e = record { says = λ reply. here reply ∙ rw e }

    pub flawing-next : r ≡ None → Flawing p n then (place + 1)
    flawing-next e = record {
      within = s.within;
      small = i.small;
      few = omega (arith, i.few, s.further);
      same = λ reply. here reply ∙ rw (e, add-one);
    }
