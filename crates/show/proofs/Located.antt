-- Refusal 12 has an offset, of six digits at most, since it is a byte of a step's text; and no other refusal has one.
use mathlib.Core.Path.{◌≡◌, refl, ap}
use Prim.Native.Nat.{ℕ, suc, ◌≤◌, ◌<◌, ◌^◌}
use mathlib.Core.Bool.{Bool, true, false, cond, not}
use mathlib.Core.List.{List, [], ◌∷◌, ◌++◌, flat_map}
use native.Mathlib.Omega.{arith}
use borrow.Author.Tests.{ltb-false}
use lib.ListN.{length, length-append}
use lib.Dec.{ltb}
use Rattle.rules.specs.Text.Ascii.{ascii, is}
use Rattle.rules.specs.Text.Lists.{any_of}
use Rattle.rules.specs.Text.Bytes.{Bytes, in_domain, words}
use Rattle.rules.specs.Text.Refusal.{Reply, answers, refuses, refuses12, tested}
use Rattle.rules.specs.Text.Normal.{normal}
use Rattle.rules.specs.Text.Comments.{stripped}
use Rattle.rules.specs.Text.Split.{step_text, steps, line, split}
use Rattle.rules.specs.Proj.Translate.{translate}
use Rattle.rules.specs.Pipeline.Offsets.{cut_text}
use Rattle.rules.specs.Pipeline.Prepare.{prepare_as}
use Rattle.rules.specs.Face.Demands.{FirstFault}
use Rattle.rules.specs.declared.Mode.{Mode}
use Rattle.rules.specs.declared.Reading.{Reading}
use Rattle.rules.specs.declared.Step.{Step}
use Rattle.laws_lists.specs.Tests.{never}
use Rattle.laws_text.specs.Offsets.{tested-fault, never-12}
use Rattle.laws_text.specs.Refusals.{Refusing, split-refuses, translate-refuses}
use Rattle.laws_text.specs.Sizes.{normal-length, steps-length}
use Rattle.split.proofs.Lengths.{line-within, lines-length}

-- a refusal without an offset
abbrev pub Other : ℕ → ℕ → Type 0
Other number place = number ≡ 12 → ⊥

unfoldable pub Located : {A : Type 0} → Reply A → Type 0
Located (answers x) = Unit {0}
Located (refuses number place) = Other number place
Located (refuses12 place offset) = offset < 10 ^ 6

-- ---- of the text calls no refusal is 12

pub split-other : (t : Bytes) → Refusing Other (split t)
split-other t = split-refuses Other t (λ p h e. omega (arith, e)) (λ e. omega (arith, e))

pub translate-other : (t : Bytes) → Refusing Other (translate t)
translate-other t = translate-refuses Other t (λ k h. ((λ e. omega (arith, e)), (λ e. omega (arith, e)), (λ e. omega (arith, e))))

-- ---- the offset of preparing's

-- a step's text is no longer than all lines
one-of-lines : (before : List Bytes) (step : Bytes) (rest : List Bytes) → length step ≤ length (flat_map line (before ++ (step ∷ rest)))
unfolding flat_map line
one-of-lines [] step rest = omega (arith, length-append (step ++ ascii "\n") (flat_map line rest), length-append step (ascii "\n"))
one-of-lines (t ∷ before) step rest = omega (arith, one-of-lines before step rest, length-append (t ++ ascii "\n") (flat_map line (before ++ (step ∷ rest))))

module _ {t : Bytes} {place offset : ℕ} (f : FirstFault t place offset) where
  -- the fault stands in the step's text, or at its end
  within_text : offset ≤ length (cut_text f.step)
  within_text = go (any_of (is "=") f.at-fault.word) refl
    where
      go : (b : Bool) → any_of (is "=") f.at-fault.word ≡ b → offset ≤ length (cut_text f.step)
      go true e =
          let s = f.stands e in
          omega (arith, ap length s.in_order, s.begins, length-append s.front (f.at-fault.bad ++ s.rest))
      go false e =
          let m = f.missing e in
          let s = m.1 in
          let w = f.at-fault.word in
          omega (arith, m.2, ap length s.in_order, s.begins, length-append s.front (w ++ s.rest), length-append w s.rest)

  -- which is a tenfold of the step's at most, and that of the text's
  offset-small : length t ≤ 4096 → offset < 10 ^ 6
  unfolding cut_text line steps
  offset-small h =
      let u = normal f.step in
      let lines : length (flat_map line (f.before ++ (f.step ∷ f.rest))) ≤ suc (length (normal (stripped t))) =
      rw (← f.in_order) (lines-length (normal (stripped t))) in
      omega (arith, h, within_text, line-within u, length-append (step_text (words u)) (ascii "\n"), normal-length f.step, one-of-lines f.before f.step f.rest, lines, steps-length t)

short-12 : (own : Bytes → Reply (List Step)) (t : Bytes) (place offset : ℕ) → tested own t ≡ refuses12 place offset → length t ≤ 4096
unfolding tested
short-12 own t place offset h = go (ltb 4096 (length t)) refl h
  where
    go : (b : Bool) → ltb 4096 (length t) ≡ b → cond b (refuses 1 0) (cond (not (in_domain t)) (refuses 2 0) (own t)) ≡ refuses12 place offset → length t ≤ 4096
    go true e h = absurd (never (cc h))
    go false e h = ltb-false 4096 (length t) e

pub prepare-located : (r : Reading) (m : Mode) (t : Bytes) → Located (tested (prepare_as r m) t)
unfolding Located
prepare-located r m t = go (tested (prepare_as r m) t) refl
  where
    go : (x : Reply (List Step)) → tested (prepare_as r m) t ≡ x → Located x
    go (answers l) e = tt
    go (refuses number place) e = never-12 r m t number place e
    go (refuses12 place offset) e = offset-small (tested-fault r m t place offset e) (short-12 (prepare_as r m) t place offset e)
