-- The loop that writes the lines of all steps: its invariant, and what each way out of it tells of splitting's reply.
use Rattle.std.specs.Prelude.{Option, None, Some, Ok}
use mathlib.Core.Path.{◌≡◌, subst, refl}
use mathlib.Core.List.{◌++◌, flat_map}
use Prim.Native.Nat.{ℕ, ◌+◌, ◌≤◌, ◌<◌}
use native.Mathlib.Omega.{arith}
use lib.ListN.{length, drop}
use Rattle.rules.specs.Text.Bytes.{Bytes, Words, Steps, words}
use Rattle.rules.specs.Text.Refusal.{and_then, refusal}
use Rattle.rules.specs.Text.Split.{steps_of, step_text, line}
use Rattle.rules.specs.Text.Reader.{next, part, step_then}
use Rattle.rules.specs.declared.Cursor.{Cursor}
use Rattle.laws_text.specs.Walk.{walk_step, walk_end}
use Rattle.text.specs.Wrote.{Wrote}
use Rattle.text.proofs.Wrote.{Sofar, sofar-start, sofar-part, sofar-part-room, sofar-end, sofar-length, wrote-front, wrote-fits}
use Rattle.split.specs.Lines.{lines_of, split_normal, HasLine, IsLine, Lined}
use Rattle.split.proofs.StepsPassed.{Passed, passed_none, passed-many, passed-well, passed-only, passed-next}
use Rattle.split.proofs.Lengths.{lines-length}

-- n steps stand before `at`, none of them is modifiers alone, and their lines are the first o bytes of dst
pub record Lines (s dst₀ : Bytes) (at n o : ℕ) (dst : Bytes) : Type 0 where
  pub walked : Passed s at n
  pub sofar : Sofar (lines_of (steps_of s)) (lines_of (steps_of (drop at s))) dst₀ o dst

pub lines_start : (s dst : Bytes) → length s < length dst → Lines s dst 0 0 0 dst
lines_start s dst h = record { walked = passed_none s; sofar = sofar-start (lines_of (steps_of s)) dst (omega (arith, lines-length s)) }

module _ {s dst₀ : Bytes} {at n o : ℕ} {dst : Bytes} (m : Lines s dst₀ at n o dst) where
  pub lines-kept : length dst ≡ length dst₀
  lines-kept = sofar-length m.sofar

  -- the walk is at its end
  pub lines-many : next s at ≡ None → 64 < n → Lined (split_normal s) (refusal 8 0) dst
  unfolding and_then
  lines-many f h = record { within = omega arith; told = rw (passed-many m.walked f h); plain = refl }

  lines-done : next s at ≡ None → Wrote (lines_of (steps_of s)) dst₀ o dst
  unfolding flat_map
  lines-done f = sofar-end (subst (λ (ss : Steps). Sofar (lines_of (steps_of s)) (lines_of ss) dst₀ o dst) (walk_end s at f) m.sofar)

  pub lines-all : next s at ≡ None → n ≤ 64 → Lined (split_normal s) (Ok o) dst
  unfolding and_then
  lines-all f h = record {
    within = wrote-fits (lines-done f);
    told = rw (wrote-front (lines-done f), passed-well m.walked f h);
    plain = refl;
  }

  -- the walk finds a step
  module _ {from to : ℕ} {then : Cursor} (f : next s at ≡ step_then from to then) where
    -- its words
    abbrev here : Words
    here = words (part from to s)

    here-sofar : Sofar (lines_of (steps_of s)) (line (step_text here) ++ lines_of (steps_of (drop then.at s))) dst₀ o dst
    unfolding flat_map
    here-sofar = subst (λ (ss : Steps). Sofar (lines_of (steps_of s)) (lines_of ss) dst₀ o dst) (walk_step s at from to then f) m.sofar

    pub lines-room : o + length (line (step_text here)) ≤ length dst
    lines-room = sofar-part-room (line (step_text here)) (lines_of (steps_of (drop then.at s))) here-sofar

    pub lines-only : {r : Option ℕ} {last : Bytes} → IsLine here dst o r last → r ≡ None → Lined (split_normal s) (refusal 6 (n + 1)) last
    unfolding and_then
    lines-only w e = record { within = omega arith; told = rw (passed-only m.walked f (rw e at w)); plain = refl }

    pub lines_more : {r : Option ℕ} {end : ℕ} {last : Bytes} → IsLine here dst o r last → r ≡ Some end → Lines s dst₀ then.at (n + 1) end last
    lines_more {r} {end} {last} w e =
        let l : HasLine here dst o end last = rw e at w in
        record { walked = passed-next m.walked f l.other; sofar = sofar-part (line (step_text here)) here-sofar l.wrote.wrote }
