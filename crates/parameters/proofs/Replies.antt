-- What is replied of the table of a step's words.
use Rattle.rules.specs.declared.Refusal.{Refusal}
use mathlib.Core.Path.{◌≡◌, refl, sym, ap, ◌∙◌, subst}
use mathlib.Core.Bool.{true, false, and-false}
use mathlib.Core.List.{List, [], ◌∷◌, map, flat_map}
use Prim.Native.Nat.{ℕ, ◌+◌, ◌-◌, ◌≤◌, ◌<◌}
use native.Mathlib.Omega.{arith}
use Rattle.std.specs.Prelude.{Result, Ok, Err, OnOk, OnErr}
use borrow.Author.Tests.{lt-ltb, le-ltb}
use lib.ListN.{length, take, length-map}
use lib.Seq.{length-take-le}
use Rattle.rules.specs.Text.Ascii.{is}
use Rattle.rules.specs.Text.Lists.{all_of, any_of, non_empty}
use Rattle.rules.specs.Text.Bytes.{Bytes, white, words}
use Rattle.rules.specs.Text.Refusal.{Reply, answers, and_then, Lends, refusal}
use Rattle.rules.specs.Text.Split.{modifier, only_modifiers, leading, following, turned}
use Rattle.rules.specs.Text.Parameters.{Parameter, elements, name, entered_by, entered_all_by, table_of, step_table, text_table, parameter_line}
use Rattle.laws_text.specs.Entry.{lends-refusal, lends-no-room, lends-text}
use Rattle.text.specs.Runs.{Run}
use Rattle.text.proofs.RunEnd.{other, words-none, words-blank}
use Rattle.text.specs.Wrote.{Wrote}
use Rattle.parameters.specs.Parts.{Parts, part_of, held, Within, parts_with}
use Rattle.parameters.specs.declared.table.Full.{Full}
use Rattle.parameters.specs.declared.table.Part.{Part}
use Rattle.parameters.specs.Elements.{Spelt}
use Rattle.parameters.specs.Replies.{lines_of, step_reply, name_reply, text_reply}
use Rattle.parameters.proofs.Cut.{run-any, run_none}

-- ---- a step

module _ (s : Bytes) (t : Parts) (out : Bytes) {m : ℕ} (c : m ≡ length (lines_of s t)) where
  pub out-no-room : length out < m → Lends (answers (lines_of s t)) out (refusal 7 0) out
  out-no-room h = lends-no-room refl (omega (arith, c))

  pub out-room : m ≤ length out → length (lines_of s t) ≤ length out
  out-room h = omega (arith, c)

  pub out-wrote : {r : ℕ} {out' : Bytes} → m ≤ length out → Wrote (lines_of s t) out r out' → Lends (answers (lines_of s t)) out (Ok r) out'
  out-wrote h w = lends-text refl (out-room h) w.count w.whole

none-reply : step_reply [] ≡ answers []
unfolding step_table table_of turned following leading elements entered_all_by only_modifiers non_empty and_then flat_map
none-reply = refl

module _ (u : Bytes) (out : Bytes) where
  pub step-blank : all_of white u ≡ true → Lends (step_reply (words u)) out (Ok 0) out
  step-blank e = lends-text {text = []} (ap step_reply (words-none u e) ∙ none-reply) (omega arith) refl refl

  pub step-modifiers : all_of white u ≡ false → all_of modifier (words u) ≡ true → Lends (step_reply (words u)) out (refusal 6 0) out
  unfolding step_table only_modifiers and_then
  step-modifiers e f = lends-refusal (rw (words-blank u, e, f))

  module _ (f : all_of modifier (words u) ≡ false) where
    other_step : only_modifiers (words u) ≡ false
    unfolding only_modifiers
    other_step = rw f (and-false (non_empty (words u)))

    pub step-full : 32 < length (table_of (words u)) → Lends (step_reply (words u)) out (refusal 9 0) out
    unfolding step_table and_then
    step-full h = lends-refusal (rw (other_step, lt-ltb 32 (length (table_of (words u))) h))

    step-table : length (table_of (words u)) ≤ 32 → step_reply (words u) ≡ answers (flat_map parameter_line (table_of (words u)))
    unfolding step_table and_then
    step-table h = rw (other_step, le-ltb 32 (length (table_of (words u))) h)

    pub step_lines : (s : Bytes) (t : Parts) {w : Result ℕ Refusal} {out' : Bytes} → length (held t) ≤ 32 → map (part_of s) (held t) ≡ table_of (words u)
        → Lends (answers (lines_of s t)) out w out' → Lends (step_reply (words u)) out w out'
    step_lines s t {w} {out'} k g x =
        let l : length (table_of (words u)) ≤ 32 = omega (arith, ap length g, length-map (held t) (part_of s)) in
        subst (λ (y : Reply Bytes). Lends y out w out') (ap (λ (ps : List Parameter). answers (flat_map parameter_line ps)) g ∙ sym (step-table l)) x

-- ---- a text with a separator

-- the whole text as the name
abbrev pub whole : ℕ → Part
whole n = record { key = n; key_end = n + 5; value = 0; value_end = n }

module _ {s : Bytes} {n : ℕ} (z : Spelt s n) where
  pub whole-within : Within s (whole n)
  whole-within = record { key-ahead = omega arith; key-within = omega (arith, z.ends); value-ahead = omega arith; value-within = omega (arith, z.ends) }

  whole_is : part_of s (whole n) ≡ name (take n s)
  unfolding name
  whole_is = let k : n - 0 ≡ n = omega arith in rw (z.name-there, k)

  -- entered into a table of none
  module _ (l k : List Part) (r : Result (Unit {0}) Full) (none : l ≡ []) (good : OnOk r (k ≡ parts_with s (whole n) l)) (full : OnErr r (32 < length (parts_with s (whole n) l))) where
    one : k ≡ whole n ∷ []
    unfolding entered_by
    one = go r good full
      where
        go : (o : Result (Unit {0}) Full) → OnOk o (k ≡ parts_with s (whole n) l) → OnErr o (32 < length (parts_with s (whole n) l)) → k ≡ whole n ∷ []
        go (Ok _) g f = rw none at g
        go (Err _) g f = let h : 32 < 1 = rw none at f in absurd (omega (arith, h))

    pub name-so : {out : Bytes} {w : Result ℕ Refusal} {out' : Bytes} → Lends (answers (flat_map parameter_line (map (part_of s) k))) out w out' → Lends (name_reply (take n s)) out w out'
    name-so {out} {w} {out'} x =
        subst (λ (ps : List Parameter). Lends (answers (flat_map parameter_line ps)) out w out') (ap (map (part_of s)) one ∙ ap (λ (q : Parameter). q ∷ []) whole_is) x

-- ---- any normalised text

module _ (s : Bytes) (n : ℕ) {e : ℕ} (l : n ≤ length s) (m : Run (other (is "|")) (take n s) 0 e) {out : Bytes} {w : Result ℕ Refusal} {out' : Bytes} where
  pub text-name : e < n → Lends (name_reply (take n s)) out w out' → Lends (text_reply (take n s)) out w out'
  unfolding text_table and_then
  text-name h x = let a : any_of (is "|") (take n s) ≡ true = run-any (is "|") m (omega (arith, length-take-le n s l)) in rw a x

  pub text-step : n ≤ e → Lends (step_reply (words (take n s))) out w out' → Lends (text_reply (take n s)) out w out'
  unfolding text_table
  text-step h x = let a : any_of (is "|") (take n s) ≡ false = run_none (is "|") m (omega (arith, length-take-le n s l)) in rw a x
