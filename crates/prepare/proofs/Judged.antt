-- Judging a step's parameters: 10 where its name is none of the five, then the lowest number that a parameter may be refused by, and the
-- operator's own rule where that is 14.
use Rattle.std.specs.Prelude.{Option, None, Some}
use mathlib.Core.Path.{◌≡◌, refl, sym, ap, ◌∙◌}
use Prim.Native.Nat.{ℕ, ◌≤◌, ◌<◌}
use mathlib.Core.Bool.{Bool, true, false, cond}
use mathlib.Core.List.{List}
use native.Mathlib.Omega.{arith}
use borrow.Author.Tests.{lt-ltb, le-ltb, eqb-true}
use lib.Dec.{eqb, ltb}
use Rattle.rules.specs.Text.Ascii.{ascii}
use Rattle.rules.specs.Text.Lists.{any_of}
use Rattle.rules.specs.Text.Bytes.{Bytes}
use Rattle.rules.specs.Text.Parameters.{Parameter, Placed}
use Rattle.rules.specs.Text.Refusal.{Reply, refuses, refuses12}
use Rattle.rules.specs.Operators.Arguments.{value_of}
use Rattle.rules.specs.Operators.Table.{name_of}
use Rattle.rules.specs.Pipeline.Keys.{kind_of, unknown, misspelt, too_long}
use Rattle.rules.specs.Pipeline.Offsets.{faults, earliest, offset_by}
use Rattle.rules.specs.Pipeline.Prepare.{own_rule, judged14, judged11, named, judged10, judged, at_step}
use Rattle.rules.specs.declared.Mode.{Mode}
use Rattle.rules.specs.declared.Name.{Name}
use Rattle.rules.specs.declared.Step.{Step}
use Rattle.prepare.specs.Faults.{by, unplaced, lowest_of, Finds}
use Rattle.prepare.specs.Records.{refused_at}
use Rattle.prepare.specs.StepReply.{named_reply, placed_reply}
use Rattle.prepare.specs.declared.faults.Lowest.{Lowest}

-- ---- the lowest number

by_most : (a b c : Bool) → by a b c ≤ 14
by_most true b c = omega arith
by_most false true c = omega arith
by_most false false true = omega arith
by_most false false false = omega arith

module _ (n : Name) (ps : List Parameter) where
  abbrev lacking : Bool
  lacking = any_of (unknown n) ps

  abbrev wrong : Bool
  wrong = any_of (λ (p : Parameter). misspelt (kind_of n p) p.value) ps

  abbrev long : Bool
  long = any_of (λ (p : Parameter). too_long (kind_of n p) p.value) ps

  pub lowest-most : lowest_of n ps ≤ 14
  unfolding lowest_of
  lowest-most = by_most lacking wrong long

-- ---- by the lowest number, and at its offset

-- no refusal of the operator's own rule has one
own-nowhere : (place offset : ℕ) (o : Option Step) → place ≡ 0 → at_step place offset (judged14 o) ≡ judged14 o
unfolding at_step judged14
own-nowhere place offset None e = rw e
own-nowhere place offset (Some s) e = refl

-- only of 12 it matters where it is
same-refusal : (number at offset : ℕ) → (number ≡ 12 → at ≡ offset) → ◌≡◌ {A = Reply Step} (refused_at number 0 at) (refused_at number 0 offset)
same-refusal number at offset h = go (eqb number 12) refl
  where
    go : (b : Bool) → eqb number 12 ≡ b → ◌≡◌ {A = Reply Step} (cond b (refuses12 0 at) (refuses number 0)) (cond b (refuses12 0 offset) (refuses number 0))
    go true e = ap (refuses12 0) (h (eqb-true number 12 e))
    go false e = refl

module _ (n : Name) (qs : List Placed) {low : Lowest} (f : Finds n qs low) (mode : Mode) where
  by-lowest : named_reply mode n qs ≡ cond (ltb low.number 14) (refused_at low.number 0 (earliest (faults n qs))) (judged14 (own_rule mode n (unplaced qs)))
  unfolding named_reply judged11 lowest_of at_step
  by-lowest = rw f.lowers.number (go (lacking n (unplaced qs)) (wrong n (unplaced qs)) (long n (unplaced qs)))
    where
      go : (a b c : Bool) → at_step 0 (earliest (faults n qs)) (cond a (refuses 11 0) (cond b (refuses12 0 0) (cond c (refuses 13 0) (judged14 (own_rule mode n (unplaced qs))))))
          ≡ cond (ltb (by a b c) 14) (refused_at (by a b c) 0 (earliest (faults n qs))) (judged14 (own_rule mode n (unplaced qs)))
      go true b c = refl
      go false true c = refl
      go false false true = refl
      go false false false = own-nowhere 0 (earliest (faults n qs)) (own_rule mode n (unplaced qs)) refl

  pub judged-low : {x : Reply Step} → low.number < 14 → x ≡ refused_at low.number 0 low.at → x ≡ named_reply mode n qs
  judged-low h g = g ∙ same-refusal low.number low.at (earliest (faults n qs)) f.at ∙ sym (by-lowest ∙ rw (lt-ltb low.number 14 h))

  pub judged-own : {x : Reply Step} → 14 ≤ low.number → x ≡ judged14 (own_rule mode n (unplaced qs)) → x ≡ named_reply mode n qs
  judged-own h g = g ∙ sym (by-lowest ∙ rw (le-ltb low.number 14 h))

-- ---- the name

module _ (mode : Mode) (qs : List Placed) where
  pub judged-unnamed : {x : Reply Step} → value_of (ascii "_name") (unplaced qs) ≡ None → x ≡ refuses 10 0 → x ≡ placed_reply mode qs
  unfolding placed_reply at_step judged named judged10
  judged-unnamed n h = h ∙ sym (rw n)

  module _ {word : Bytes} (g : value_of (ascii "_name") (unplaced qs) ≡ Some word) where
    name-there : named (value_of (ascii "_name") (unplaced qs)) ≡ name_of word
    unfolding named
    name-there = rw g

    pub judged-other : {x : Reply Step} → name_of word ≡ None → x ≡ refuses 10 0 → x ≡ placed_reply mode qs
    unfolding placed_reply at_step judged judged10
    judged-other e h = h ∙ sym (rw (name-there, e))

    pub judged-named : {n : Name} {x : Reply Step} → name_of word ≡ Some n → x ≡ named_reply mode n qs → x ≡ placed_reply mode qs
    unfolding placed_reply named_reply offset_by judged judged10
    judged-named e h = h ∙ sym (rw (name-there, e))
