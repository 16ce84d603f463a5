-- Steps' texts with ` | ` between are split into those steps again, and prepared one by one.
use Rattle.std.specs.Prelude.{◌≡◌, ℕ, suc, ◌+◌, ◌≤◌, true, false, List, [], ◌∷◌, map, length}
use Rattle.std.proofs.Math.Path.{refl}
use Rattle.std.proofs.Common.{le-ltb}
use Rattle.rules.specs.Text.Ascii.{ascii, is}
use Rattle.rules.specs.Text.Lists.{any_of, all_of, non_empty}
use Rattle.rules.specs.Text.Bytes.{Bytes, Words, Steps, in_domain, words, joined_by, joined}
use Rattle.rules.specs.Text.Refusal.{answers, and_then}
use Rattle.rules.specs.Text.Split.{only_modifiers, steps_of, steps, step_text, split_steps}
use Rattle.rules.specs.Text.Reader.{spans_from, spans_of, definition, spans}
use Rattle.rules.specs.Pipeline.Prepare.{prepare_step, prepare_steps, prepare_split}
use Rattle.rules.specs.Pipeline.Write.{spans_in_turn}
use Rattle.rules.specs.Opened.{opened}
use Rattle.rules.specs.declared.Mode.{Mode}
use Rattle.rules.specs.declared.Step.{Step}
use Rattle.laws_lists.specs.Lists.{Every}
use Rattle.laws_records.specs.Calm.{calm}
use Rattle.laws_records.specs.Settled.{lacks, cut-joined, kept-all, domain-calm}
use Rattle.laws_records.specs.Bars.{spaced-calm, normal-stripped}
use Rattle.laws_records.specs.Worded.{Spoken, step-calm, step-bare, step-words, step-text, not-modifiers}

-- the words of a step
unfoldable pub Speaks : Words → Type 0
Speaks [] = ⊥
Speaks (w ∷ ws) = Spoken w ws

pub speaks-calm : (ws : Words) → Speaks ws → calm (joined ws) ≡ true
unfolding Speaks
speaks-calm [] h = absurd h
speaks-calm (w ∷ ws) h = step-calm w ws h.each

speaks-bare : (ws : Words) → Speaks ws → lacks (is "|") (joined ws) ≡ true
unfolding Speaks
speaks-bare [] h = absurd h
speaks-bare (w ∷ ws) h = step-bare w ws h.each

speaks-words : (ws : Words) → Speaks ws → words (joined ws) ≡ ws
unfolding Speaks
speaks-words [] h = absurd h
speaks-words (w ∷ ws) h = step-words w ws h.each

speaks-some : (ws : Words) → Speaks ws → non_empty ws ≡ true
unfolding Speaks non_empty
speaks-some [] h = absurd h
speaks-some (w ∷ ws) h = refl

speaks-text : (ws : Words) → Speaks ws → step_text ws ≡ joined ws
unfolding Speaks
speaks-text [] h = absurd h
speaks-text (w ∷ ws) h = step-text h

speaks_more : (ws : Words) → Speaks ws → only_modifiers ws ≡ false
unfolding Speaks
speaks_more [] h = absurd h
speaks_more (w ∷ ws) h = not-modifiers h

-- ---- all of them

all-calm : (wss : Steps) → Every Speaks wss → all_of calm (map joined wss) ≡ true
unfolding Every all_of
all-calm [] h = refl
all-calm (ws ∷ wss) h = rw (speaks-calm ws h.0) (all-calm wss h.1)

all-bare : (wss : Steps) → Every Speaks wss → all_of (lacks (is "|")) (map joined wss) ≡ true
unfolding Every all_of
all-bare [] h = refl
all-bare (ws ∷ wss) h = rw (speaks-bare ws h.0) (all-bare wss h.1)

all_words : (wss : Steps) → Every Speaks wss → map words (map joined wss) ≡ wss
unfolding Every
all_words [] h = refl
all_words (ws ∷ wss) h = rw (speaks-words ws h.0, all_words wss h.1)

all-some : (wss : Steps) → Every Speaks wss → all_of non_empty wss ≡ true
unfolding Every all_of
all-some [] h = refl
all-some (ws ∷ wss) h = rw (speaks-some ws h.0) (all-some wss h.1)

all-texts : (wss : Steps) → Every Speaks wss → map step_text wss ≡ map joined wss
unfolding Every
all-texts [] h = refl
all-texts (ws ∷ wss) h = rw (speaks-text ws h.0, all-texts wss h.1)

all_more : (wss : Steps) → Every Speaks wss → any_of only_modifiers wss ≡ false
unfolding Every any_of
all_more [] h = refl
all_more (ws ∷ wss) h = rw (speaks_more ws h.0) (all_more wss h.1)

-- the text of the steps
unfoldable pub spaced : Steps → Bytes
spaced wss = joined_by (ascii " | ") (map joined wss)

-- its steps are these
pub spaced-steps : (wss : Steps) → Every Speaks wss → steps (spaced wss) ≡ wss
unfolding spaced
spaced-steps [] h = unfold opened in refl
spaced-steps (ws ∷ wss) h =
    let c = all-calm (ws ∷ wss) h in
    let b = all-bare (ws ∷ wss) h in
    unfold steps steps_of ascii in
    rw (normal-stripped (joined ws) (map joined wss) c b, cut-joined (is "|") 124 refl (joined ws) (map joined wss) b, speaks-words ws (unfold Every in h.0), all_words wss (unfold Every in h.1))
    (kept-all non_empty (ws ∷ wss) (all-some (ws ∷ wss) h))

-- they stand one after the other, with a byte between
in-turn : (place : ℕ) (wss : Steps) → Every Speaks wss → spans_from place (map joined wss) ≡ spans_in_turn place (map joined wss)
unfolding spans_from spans_in_turn Every
in-turn place [] h = refl
in-turn place (ws ∷ wss) h = rw (speaks-words ws h.0, speaks-some ws h.0, in-turn (place + suc (length (joined ws))) wss h.1)

pub spaced-spans : (wss : Steps) → Every Speaks wss → spans (spaced wss) ≡ spans_in_turn 0 (map joined wss)
unfolding spaced
spaced-spans [] h = unfold opened in refl
spaced-spans (ws ∷ wss) h =
    let b = all-bare (ws ∷ wss) h in
    unfold spans spans_of definition ascii in
    rw (normal-stripped (joined ws) (map joined wss) (all-calm (ws ∷ wss) h) b, cut-joined (is "|") 124 refl (joined ws) (map joined wss) b) (in-turn 0 (ws ∷ wss) h)

-- it is in the domain
pub spaced-domain : (ws : Words) (wss : Steps) → Every Speaks (ws ∷ wss) → in_domain (spaced (ws ∷ wss)) ≡ true
unfolding spaced ascii
spaced-domain ws wss h = domain-calm _ (spaced-calm (joined ws) (map joined wss) (all-calm (ws ∷ wss) h) (all-bare (ws ∷ wss) h))

pub spaced-prepared : (mode : Mode) (wss : Steps) → Every Speaks wss → length wss ≤ 64 → prepare_split mode (spaced wss) ≡ prepare_steps mode 1 (map joined wss)
unfolding prepare_split split_steps and_then
spaced-prepared mode wss h l = rw (spaced-steps wss h, all_more wss h, le-ltb 64 (length wss) l, all-texts wss h)

-- each step's text is prepared to its record
unfoldable pub Prepared : Mode → Bytes → Step → Type 0
Prepared mode t s = (place : ℕ) → prepare_step mode place t ≡ answers s

pub data Each (mode : Mode) : List Bytes → List Step → Type 0 where
  end : Each mode [] []
  also : {t : Bytes} {s : Step} {ts : List Bytes} {ss : List Step} → Prepared mode t s → Each mode ts ss → Each mode (t ∷ ts) (s ∷ ss)

pub all-prepared : {mode : Mode} {ts : List Bytes} {ss : List Step} → Each mode ts ss → (place : ℕ) → prepare_steps mode place ts ≡ answers ss
unfolding prepare_steps and_then Prepared
all-prepared end place = refl
all-prepared (also h r) place = rw (h place, all-prepared r (suc place))
