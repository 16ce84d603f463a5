-- One step: from its text to its parameters, and what is refused on the way. Its text is written out as it is cut, leading modifiers turned: its words
-- there are the turned words of the text.
use Rattle.std.specs.Prelude.{Option, None, Some}
use mathlib.Core.Path.{◌≡◌, refl, sym, ap, ◌∙◌}
use Prim.Native.Nat.{ℕ, suc, ◌+◌, ◌-◌, ◌≤◌, ◌<◌, min}
use mathlib.Core.Bool.{Bool, true, false, cond, and-false, true≢false}
use mathlib.Core.List.{List, [], ◌∷◌, ◌++◌, map}
use native.Mathlib.Nat.{le-min}
use native.Mathlib.Omega.{arith}
use borrow.Author.Tests.{lt-ltb, le-ltb}
use lib.ListN.{length, take, length-map, length-append}
use lib.Seq.{take_at}
use lib.Dec.{ltb}
use Rattle.rules.specs.Text.Ascii.{ascii, is}
use Rattle.rules.specs.Text.Lists.{any_of, all_of, non_empty}
use Rattle.rules.specs.Text.Bytes.{Bytes, Words, white, same, trimmed, words, joined}
use Rattle.rules.specs.Text.Normal.{normal}
use Rattle.rules.specs.Text.Refusal.{Reply, answers, refuses, and_then}
use Rattle.rules.specs.Text.Split.{modifier, only_modifiers, leading, following, turned, step_text, line}
use Rattle.rules.specs.Text.Parameters.{name, elements, entered_all_by, table_of, placed_elements, placed_table, step_table, text_table}
use Rattle.rules.specs.Operators.Table.{wording_of, names, name_in, name_of}
use Rattle.rules.specs.Operators.Arguments.{value_of}
use Rattle.rules.specs.Pipeline.Prepare.{named, judged10, judged, offset_of, at_step}
use Rattle.rules.specs.declared.Mode.{Mode}
use Rattle.rules.specs.declared.Name.{Name}
use Rattle.rules.specs.declared.Step.{Step}
use Rattle.laws_lists.specs.Tests.{and_left, and_right, or_left, or_right, same-is}
use Rattle.laws_lists.specs.Lists.{all_append}
use Rattle.laws_text.specs.Sizes.{weight, trimmed-weight}
use Rattle.laws_text.specs.Plain.{plain, words-plain, words-joined}
use Rattle.laws_text.specs.Table.{given, given-table}
use Rattle.text.specs.Wrote.{Wrote, Holds}
use Rattle.text.proofs.Wrote.{wrote-front}
use Rattle.text.specs.Runs.{Run}
use Rattle.text.proofs.RunEnd.{other, words-none, words-blank}
use Rattle.split.specs.Lines.{HasLine, IsLine}
use Rattle.split.proofs.Lengths.{line-within}
use Rattle.parameters.specs.Parts.{Parts, Good, placed_of, held, placed_in}
use Rattle.parameters.proofs.Places.{held-length}
use Rattle.parameters.specs.Elements.{Spelt, placed_all}
use Rattle.parameters.proofs.Cut.{run-any, run_none}
use Rattle.parameters.proofs.Spelt.{spelled, spelt-behind}
use Rattle.prepare.specs.StepReply.{Roomy, placed_reply, cut_reply, text_reply, step_reply}
use Rattle.prepare.proofs.StepByStep.{line-end, line-front}
use Rattle.prepare.proofs.StepWeight.{normal-fits}

-- ---- no name has a separator

differs : (u w : Bytes) → any_of (is "|") u ≡ true → any_of (is "|") w ≡ false → same u w ≡ false
differs u w e f = go (same u w) refl
  where
    go : (b : Bool) → same u w ≡ b → b ≡ false
    go true g = absurd (true≢false (sym e ∙ ap (any_of (is "|")) (same-is u w g) ∙ f))
    go false g = refl

-- does the name of an operator have one?
separated : Name → Bool
separated n = any_of (is "|") (ascii (wording_of n).name)

no-name-in : (u : Bytes) → any_of (is "|") u ≡ true → (ns : List Name) → any_of separated ns ≡ false → name_in ns u ≡ None
unfolding name_in any_of separated
no-name-in u e [] f = refl
no-name-in u e (n ∷ ns) f =
    rw (differs u (ascii (wording_of n).name) e (or_left (separated n) (any_of separated ns) f))
    (no-name-in u e ns (or_right (separated n) (any_of separated ns) f))

no_name : (u : Bytes) → any_of (is "|") u ≡ true → name_of u ≡ None
unfolding name_of
no_name u e = no-name-in u e names (unfold any_of separated names ascii in refl)

unnamed : (mode : Mode) (u : Bytes) → name_of u ≡ None → judged mode (name u ∷ []) ≡ refuses 10 0
unfolding judged judged10 named value_of name same ascii
unnamed mode u e = rw e

nothing-named : (mode : Mode) → judged mode [] ≡ refuses 10 0
unfolding judged judged10 named value_of
nothing-named mode = refl

-- ---- words in another order

abbrev plainly : Words → Type 0
plainly ws = all_of plain ws ≡ true

leading-words : (ws : Words) → plainly ws → plainly (leading ws)
unfolding all_of leading
leading-words [] h = refl
leading-words (w ∷ ws) h = go (modifier w) (leading-words ws (and_right (plain w) (all_of plain ws) h))
  where
    go : (b : Bool) → plainly (leading ws) → plainly (cond b (w ∷ leading ws) [])
    go true k = rw (and_left (plain w) (all_of plain ws) h) k
    go false k = refl

following-words : (ws : Words) → plainly ws → plainly (following ws)
unfolding all_of following
following-words [] h = refl
following-words (w ∷ ws) h = go (modifier w) (following-words ws (and_right (plain w) (all_of plain ws) h))
  where
    go : (b : Bool) → plainly (following ws) → plainly (cond b (following ws) (w ∷ ws))
    go true k = k
    go false k = h

-- the words of a step's text as it is cut
pub turned-words : (t : Bytes) → words (step_text (words t)) ≡ turned (words t)
unfolding step_text turned
turned-words t =
    let ws = words t in
    words-joined (following ws ++ leading ws) (all_append plain (following ws) (leading ws) (following-words ws (words-plain t)) (leading-words ws (words-plain t)))

-- ---- a normalised text

module _ (mode : Mode) {s : Bytes} {e : ℕ} (r : Run (other (is "|")) s 0 e) where
  pub text-parted : {x : Reply Step} → e < length s → x ≡ refuses 10 0 → x ≡ text_reply mode s
  unfolding text_reply text_table and_then at_step
  text-parted h f =
      let a : any_of (is "|") s ≡ true = run-any (is "|") r h in
      f ∙ sym (rw (a, unnamed mode s (no_name s a)))

  module _ (h : length s ≤ e) where
    one-step : text_table s ≡ step_table (words s)
    unfolding text_table
    one-step = let a : any_of (is "|") s ≡ false = run_none (is "|") r h in rw a

    pub text-blank : {x : Reply Step} → all_of white s ≡ true → x ≡ refuses 10 0 → x ≡ text_reply mode s
    unfolding text_reply and_then step_table table_of turned following leading elements entered_all_by only_modifiers non_empty at_step
    text-blank w f = f ∙ sym (rw (one-step, words-none s w, nothing-named mode))

    module _ (w : all_of white s ≡ false) where
      pub text-modifiers : {x : Reply Step} → all_of modifier (words s) ≡ true → x ≡ refuses 6 0 → x ≡ text_reply mode s
      unfolding text_reply and_then step_table only_modifiers at_step
      text-modifiers m f = f ∙ sym (rw (one-step, words-blank s, w, m))

      module _ (m : all_of modifier (words s) ≡ false) where
        other_step : only_modifiers (words s) ≡ false
        unfolding only_modifiers
        other_step = rw m (and-false (non_empty (words s)))

        -- what its words as they are cut give
        pub text-cut : {x : Reply Step} {us : Words} → us ≡ turned (words s) → x ≡ cut_reply mode us → x ≡ text_reply mode s
        unfolding text_reply step_table cut_reply
        text-cut {x} {us} u f = f ∙ ap (cut_reply mode) u ∙ sym whole
          where
            ws : Words
            ws = words s

            many : length (placed_table ws) ≡ length (table_of ws)
            many = sym (length-map (placed_table ws) given) ∙ ap length (given-table ws)

            go : (b : Bool) → at_step 0 (offset_of ws) (and_then (cond b (refuses 9 0) (answers (table_of ws))) (judged mode)) ≡ cond b (refuses 9 0) (placed_reply mode (placed_table ws))
            go true = unfold at_step and_then in refl
            go false = unfold and_then placed_reply offset_of in rw (given-table ws)

            whole : text_reply mode s ≡ cut_reply mode (turned ws)
            whole =
                rw (one-step, other_step)
                (ap (λ (k : ℕ). at_step 0 (offset_of ws) (and_then (cond (ltb 32 k) (refuses 9 0) (answers (table_of ws))) (judged mode))) (sym many)
                ∙ go (ltb 32 (length (placed_table ws))) ∙ unfold placed_table in refl)

-- ---- as it stands in a buffer, with `_nametrue` behind it

module _ (mode : Mode) (ws : Words) where
  pub cut-full : {x : Reply Step} → 32 < length (placed_all (placed_elements ws) []) → x ≡ refuses 9 0 → x ≡ cut_reply mode ws
  unfolding cut_reply
  cut-full h f = f ∙ sym (rw (lt-ltb 32 _ h))

  pub cut-table : (s : Bytes) (t : Parts) {x : Reply Step} → Good s t → map (placed_of s) (held t) ≡ placed_all (placed_elements ws) []
      → x ≡ placed_reply mode (placed_in s t) → x ≡ cut_reply mode ws
  unfolding cut_reply
  cut-table s t g h f =
      let l : length (placed_all (placed_elements ws) []) ≤ 32 = rw (← h) (omega (arith, length-map (held t) (placed_of s), held-length g, g.fits)) in
      f ∙ rw h (sym (rw (le-ltb 32 _ l)))

pub line-room : (t : Bytes) {b : ℕ} → length t + 9 ≤ b → 0 + length (line (step_text (words t))) ≤ b
line-room t h = omega (arith, line-within t, h)

-- what `line_at` leaves, by what it returned
pub has-line : (ws : Words) (b₀ : Bytes) (r : Option ℕ) (b₁ : Bytes) {end : ℕ} → IsLine ws b₀ 0 r b₁ → r ≡ Some end → HasLine ws b₀ 0 end b₁
has-line ws b₀ r b₁ l e = rw e at l

pub no_line : (ws : Words) (b₀ : Bytes) (r : Option ℕ) (b₁ : Bytes) → IsLine ws b₀ 0 r b₁ → r ≡ None → all_of modifier ws ≡ true
no_line ws b₀ r b₁ l e = rw e at l

-- a step's line in a buffer, and `_nametrue` in the place of its newline
module _ (t : Bytes) {b₀ b₁ : Bytes} {end : ℕ} (l : HasLine (words t) b₀ 0 end b₁) where
  text-length : end ≡ suc (length (step_text (words t)))
  text-length = line-end (step_text (words t)) l.wrote

  -- there is room for it
  pub behind-room : {x : ℕ} → length t + 9 ≤ x → length b₁ ≡ x → end - 1 + 9 ≤ length b₁
  behind-room h e = unfold line ascii in omega (arith, h, e, line-within t, text-length, length-append (step_text (words t)) (10 ∷ []))

  module _ {m : ℕ} {b₂ : Bytes} (w : Wrote (take (end - 1) b₁ ++ spelled) b₁ m b₂) where
    pub cut-front : take m b₂ ≡ step_text (words t) ++ spelled
    cut-front = wrote-front w ∙ ap (λ (u : Bytes). u ++ spelled) (line-front (step_text (words t)) l.wrote)

    pub cut-spelt : Spelt (take m b₂) (end - 1)
    cut-spelt = rw cut-front (spelt-behind (step_text (words t)) (end - 1) (omega (arith, text-length)))

    pub cut_short : length t ≤ 4096 → length (take m b₂) ≤ 40969
    cut_short h = unfold line ascii in omega (arith, h, ap length cut-front, length-append (step_text (words t)) spelled, line-within t, length-append (step_text (words t)) (10 ∷ []))

    cut-text : take (end - 1) (take m b₂) ≡ step_text (words t)
    cut-text = ap (take (end - 1)) cut-front ∙ take_at (step_text (words t)) spelled (end - 1) (omega (arith, text-length))

    -- its words are the text's, turned
    pub cut-words : words (take (end - 1) (take m b₂)) ≡ turned (words t)
    cut-words = ap words cut-text ∙ turned-words t

    pub cut-joined : take (end - 1) (take m b₂) ≡ joined (words (take (end - 1) (take m b₂)))
    cut-joined = cut-text ∙ unfold step_text in ap joined (sym cut-words)

-- ---- a step's text, normalised again

pub trimmed-room : (t : Bytes) {x : ℕ} → weight t ≤ x → weight (trimmed white t) ≤ x
trimmed-room t h = omega (arith, trimmed-weight white t)

module _ (t : Bytes) {n : ℕ} {a : Bytes} (w : Holds (normal t) n a) where
  pub normal-room : {x y : ℕ} → weight t ≤ 4096 → weight t + 9 ≤ x → y ≡ x → (length (take n a) ≤ 4096) × (length (take n a) + 9 ≤ y)
  normal-room h l e = (omega (arith, ap length (wrote-front w), normal-fits t, h), omega (arith, ap length (wrote-front w), normal-fits t, l, e))

  pub text-so : (mode : Mode) {x : Reply Step} → x ≡ text_reply mode (take n a) → x ≡ text_reply mode (normal t)
  text-so mode h = h ∙ ap (text_reply mode) (wrote-front w)

-- ---- a step's text of any length

module _ (t : Bytes) where
  pub step-long : (mode : Mode) {x : Reply Step} → 4096 < length t → x ≡ refuses 1 0 → x ≡ step_reply mode t
  unfolding step_reply
  step-long mode h f = f ∙ sym (rw (lt-ltb 4096 (length t) h))

  pub step_so : (mode : Mode) {x : Reply Step} → length t ≤ 4096 → x ≡ text_reply mode (normal t) → x ≡ step_reply mode t
  unfolding step_reply
  step_so mode h f = f ∙ sym (rw (le-ltb 4096 (length t) h))

  -- its weight is its length, so its normal form has room
  pub step_room : {a b : ℕ} → weight t ≤ length t → length t ≤ 4096 → Roomy (length t) a b → (weight t ≤ 4096) × ((weight t ≤ a) × (weight t + 9 ≤ b))
  step_room h l r =
      let k : weight t ≤ min (length t) 4096 = le-min h (omega arith) in
      (omega (arith, h, l), (omega (arith, k, r.first), omega (arith, k, r.second)))
