-- The walk over the steps of a text, of which none so far is modifiers alone: the invariant that splitting and preparing share, and what each way out
-- of it says of splitting's reply.
use Rattle.std.specs.Prelude.{None}
use mathlib.Core.Path.{◌≡◌, refl, ap, ◌∙◌}
use mathlib.Core.Bool.{Bool, true, false}
use mathlib.Core.List.{map}
use Prim.Native.Nat.{ℕ, suc, ◌+◌, ◌≤◌, ◌<◌}
use native.Mathlib.Omega.{arith}
use borrow.Author.Tests.{lt-ltb, le-ltb}
use lib.ListN.{length, drop}
use Rattle.rules.specs.Text.Lists.{any_of, all_of, place_of}
use Rattle.rules.specs.Text.Bytes.{Bytes, Steps, words}
use Rattle.rules.specs.Text.Refusal.{answers, refuses}
use Rattle.rules.specs.Text.Split.{modifier, only_modifiers, steps_of, step_text, split_steps}
use Rattle.rules.specs.Text.Reader.{next, part, step_then}
use Rattle.rules.specs.declared.Cursor.{Cursor}
use Rattle.laws_text.specs.Walk.{walk-ahead, walk_step, walk_end}

-- n steps stand before `at`, and none of them is modifiers alone
pub record Passed (s : Bytes) (at n : ℕ) : Type 0 where
  pub within : at ≤ length s
  pub few : n ≤ at
  pub some : any_of only_modifiers (steps_of s) ≡ any_of only_modifiers (steps_of (drop at s))
  pub first : place_of only_modifiers (steps_of s) ≡ n + place_of only_modifiers (steps_of (drop at s))
  pub count : length (steps_of s) ≡ n + length (steps_of (drop at s))

pub passed_none : (s : Bytes) → Passed s 0 0
passed_none s = record { within = omega arith; few = omega arith; some = refl; first = omega arith; count = omega arith }

module _ {s : Bytes} {at n : ℕ} (m : Passed s at n) where
  -- the walk is at its end
  module _ (f : next s at ≡ None) where
    none_only : any_of only_modifiers (steps_of s) ≡ false
    unfolding any_of
    none_only = m.some ∙ ap (any_of only_modifiers) (walk_end s at f)

    pub passed-count : length (steps_of s) ≡ n
    passed-count = omega (arith, m.count, ap length (walk_end s at f))

    pub passed-many : 64 < n → split_steps (steps_of s) ≡ refuses 8 0
    unfolding split_steps
    passed-many h =
        let l : 64 < length (steps_of s) = omega (arith, passed-count) in
        rw (none_only, lt-ltb 64 (length (steps_of s)) l)

    pub passed-well : n ≤ 64 → split_steps (steps_of s) ≡ answers (map step_text (steps_of s))
    unfolding split_steps
    passed-well h =
        let l : length (steps_of s) ≤ 64 = omega (arith, passed-count) in
        rw (none_only, le-ltb 64 (length (steps_of s)) l)

  -- the walk finds a step
  module _ {from to : ℕ} {then : Cursor} (f : next s at ≡ step_then from to then) where
    only-is : (b : Bool) → all_of modifier (words (part from to s)) ≡ b → only_modifiers (words (part from to s)) ≡ b
    unfolding only_modifiers
    only-is b e = rw (walk-ahead s at from to then f).worded e

    pub passed-only : all_of modifier (words (part from to s)) ≡ true → split_steps (steps_of s) ≡ refuses 6 (n + 1)
    unfolding split_steps any_of place_of
    passed-only e =
        let w = walk_step s at from to then f in
        let o = only-is true e in
        let a : any_of only_modifiers (steps_of s) ≡ true = m.some ∙ ap (any_of only_modifiers) w ∙ rw o in
        let p : place_of only_modifiers (steps_of s) ≡ n + 1 = m.first ∙ ap (λ (ss : Steps). n + place_of only_modifiers ss) w ∙ rw o in
        rw (a, p)

    pub passed-next : all_of modifier (words (part from to s)) ≡ false → Passed s then.at (n + 1)
    unfolding any_of place_of
    passed-next e =
        let w = walk_step s at from to then f in
        let o = only-is false e in
        let h = walk-ahead s at from to then f in
        let p : place_of only_modifiers (steps_of (drop at s)) ≡ suc (place_of only_modifiers (steps_of (drop then.at s))) = ap (place_of only_modifiers) w ∙ rw o in
        record {
          within = omega (arith, h.within, h.goes_on);
          few = omega (arith, m.few, h.ahead, h.longer, h.goes_on);
          some = m.some ∙ ap (any_of only_modifiers) w ∙ rw o;
          first = omega (arith, m.first, p);
          count = omega (arith, m.count, ap length w);
        }
