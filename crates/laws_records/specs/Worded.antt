-- A step's text that is words with a space between: it has these words, is one step, and is cut into their parameters.
use Rattle.std.specs.Prelude.{◌≡◌, ℕ, ◌≤◌, Bool, ◌&&◌, ◌||◌}
use Rattle.std.proofs.Math.Path.{refl, ap}
use Rattle.std.proofs.Math.Bool.{true, false, not}
use Rattle.std.proofs.lemmas.Bool.{false≢true}
use mathlib.Core.List.{List, [], ◌∷◌, ◌++◌, map, append-nil}
use Rattle.std.proofs.Common.{arith}
use borrow.Author.Tests.{le-ltb}
use Rattle.std.proofs.Math.ListN.{length, length-map}
use Rattle.rules.specs.Text.Ascii.{ascii, is}
use Rattle.rules.specs.Text.Lists.{any_of, all_of, non_empty}
use Rattle.rules.specs.Text.Bytes.{Bytes, Words, white, words, after_each, joined_by, joined}
use Rattle.rules.specs.Text.Refusal.{answers, and_then}
use Rattle.rules.specs.Text.Split.{modifier, only_modifiers, leading, following, turned, step_text}
use Rattle.rules.specs.Text.Parameters.{parameter, name, elements, entered_all, table_of, step_table, text_table, parameters_of}
use Rattle.rules.specs.Pipeline.Prepare.{judged, at_step, prepare_step}
use Rattle.rules.specs.declared.Mode.{Mode}
use Rattle.rules.specs.declared.Step.{Step}
use Rattle.laws_lists.specs.Lists.{all_so}
use Rattle.laws_lists.specs.Tests.{and_left, and_right, below}
use Rattle.laws_records.specs.Calm.{known, firm, middle, follows, so, quiet, calm, gap, joined-calm, all_first, all_rest}
use Rattle.laws_records.specs.Settled.{lacks, lacking, cut-joined, kept-all}
use Rattle.laws_records.specs.Bars.{normal-calm}
use Rattle.laws_records.specs.Given.{all-length}

-- ---- what is lacking

module _ (test : ℕ → Bool) where
  pub lacks-append : (a b : Bytes) → lacks test a ≡ true → lacks test b ≡ true → lacks test (a ++ b) ≡ true
  unfolding lacks any_of
  lacks-append [] b h k = k
  lacks-append (x ∷ a) b h k = go (test x) h (lacks-append a b)
    where
      go : (c : Bool) → not (c || any_of test a) ≡ true → (not (any_of test a) ≡ true → not (any_of test b) ≡ true → not (any_of test (a ++ b)) ≡ true) → not (c || any_of test (a ++ b)) ≡ true
      go true h f = absurd (false≢true h)
      go false h f = f h k

  lacks-after : (sep : Bytes) (ws : List Bytes) → lacks test sep ≡ true → all_of (lacks test) ws ≡ true → lacks test (after_each sep ws) ≡ true
  unfolding all_of after_each
  lacks-after sep [] s h = unfold lacks any_of in refl
  lacks-after sep (w ∷ ws) s h =
      lacks-append sep (w ++ after_each sep ws) s
      (lacks-append w (after_each sep ws) (and_left (lacks test w) _ h) (lacks-after sep ws s (and_right (lacks test w) _ h)))

  pub lacks-joined : (sep : Bytes) (ws : List Bytes) → lacks test sep ≡ true → all_of (lacks test) ws ≡ true → lacks test (joined_by sep ws) ≡ true
  unfolding all_of joined_by
  lacks-joined sep [] s h = unfold lacks any_of in refl
  lacks-joined sep (w ∷ ws) s h = lacks-append w (after_each sep ws) (and_left (lacks test w) _ h) (lacks-after sep ws s (and_right (lacks test w) _ h))

-- ---- words

-- a word of a calm text: calm, without a space and a bar
unfoldable pub worded : Bytes → Bool
worded w = calm w && (lacks white w && lacks (is "|") w)

pub worded-calm : (w : Bytes) → worded w ≡ true → calm w ≡ true
unfolding worded
worded-calm w h = and_left (calm w) _ h

pub worded-dark : (w : Bytes) → worded w ≡ true → lacks white w ≡ true
unfolding worded
worded-dark w h = and_left (lacks white w) _ (and_right (calm w) _ h)

pub worded-bare : (w : Bytes) → worded w ≡ true → lacks (is "|") w ≡ true
unfolding worded
worded-bare w h = and_right (lacks white w) _ (and_right (calm w) _ h)

calm-some : (w : Bytes) → calm w ≡ true → non_empty w ≡ true
unfolding calm non_empty
calm-some [] h = absurd (false≢true h)
calm-some (x ∷ w) h = refl

-- the words of a step: the first is no modifier and has no `=`
pub record Spoken (w : Bytes) (ws : Words) : Type 0 where
  pub each : all_of worded (w ∷ ws) ≡ true
  pub no-modifier : modifier w ≡ false
  pub no_value : any_of (is "=") w ≡ false
  pub few : length ws ≤ 31

module _ (w : Bytes) (ws : Words) (h : all_of worded (w ∷ ws) ≡ true) where
  pub step-calm : calm (joined (w ∷ ws)) ≡ true
  unfolding joined joined_by
  step-calm =
      let c : all_of calm (w ∷ ws) ≡ true = all_so worded calm worded-calm (w ∷ ws) h in
      joined-calm (32 ∷ []) (unfold gap below so firm known follows middle quiet any_of ascii in refl) w ws
      (all_first calm w ws c) (all_rest calm w ws c)

  pub step-bare : lacks (is "|") (joined (w ∷ ws)) ≡ true
  unfolding joined
  step-bare = lacks-joined (is "|") (32 ∷ []) (w ∷ ws) (unfold lacks any_of in refl) (all_so worded (lacks (is "|")) worded-bare (w ∷ ws) h)

  pub step-words : words (joined (w ∷ ws)) ≡ w ∷ ws
  unfolding words joined
  step-words =
      rw (cut-joined white 32 (unfold white in refl) w ws (all_so worded (lacks white) worded-dark (w ∷ ws) h))
      (kept-all non_empty (w ∷ ws) (all_so worded non_empty (λ v k. calm-some v (worded-calm v k)) (w ∷ ws) h))

module _ {w : Bytes} {ws : Words} (h : Spoken w ws) where
  pub not-turned : turned (w ∷ ws) ≡ w ∷ ws
  unfolding turned following leading
  not-turned = rw (h.no-modifier, append-nil ws)

  pub step-text : step_text (w ∷ ws) ≡ joined (w ∷ ws)
  unfolding step_text
  step-text = ap joined not-turned

  pub not-modifiers : only_modifiers (w ∷ ws) ≡ false
  unfolding only_modifiers non_empty all_of
  not-modifiers = rw h.no-modifier

  step-elements : elements (w ∷ ws) ≡ name w ∷ map parameter ws
  unfolding elements
  step-elements = rw h.no_value

  -- the parameters of the step's text are those of its words
  pub step-parameters : parameters_of (joined (w ∷ ws)) ≡ answers (entered_all (name w ∷ map parameter ws) [])
  unfolding parameters_of text_table step_table table_of
  step-parameters =
      let b = lacking (is "|") (joined (w ∷ ws)) (step-bare w ws h.each) in
      let few : length (entered_all (name w ∷ map parameter ws) []) ≤ 32 =
      omega (arith, all-length (name w ∷ map parameter ws) [], length-map ws parameter, h.few) in
      rw (normal-calm (joined (w ∷ ws)) (step-calm w ws h.each) b, b, step-words w ws h.each, not-modifiers, not-turned, step-elements, le-ltb 32 _ few)

  pub step-prepared : (mode : Mode) (place : ℕ) (s : Step) → length (joined (w ∷ ws)) ≤ 4096 → judged mode (entered_all (name w ∷ map parameter ws) []) ≡ answers s
      → prepare_step mode place (joined (w ∷ ws)) ≡ answers s
  unfolding prepare_step at_step and_then
  step-prepared mode place s l j = rw (le-ltb 4096 _ l, step-parameters, j)
