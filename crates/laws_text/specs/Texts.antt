-- The text of a step, where its span says: for every definition that splitting does not refuse 6, it is the step's words with one space between.
use Rattle.std.specs.Prelude.{◌≡◌, refl, ℕ, Bool, true, false, cond, List, [], ◌∷◌, map, length, drop, ltb}
use Rattle.std.proofs.Common.{sym, ◌∙◌}
use Rattle.rules.specs.Text.Ascii.{is}
use Rattle.rules.specs.Text.Lists.{any_of, kept, place_of, non_empty}
use Rattle.rules.specs.Text.Bytes.{Bytes, Steps, cut, words, joined}
use Rattle.rules.specs.Text.Refusal.{answers, refuses}
use Rattle.rules.specs.Text.Comments.{stripped}
use Rattle.rules.specs.Text.Split.{only_modifiers, step_text, steps_of, steps, split_steps}
use Rattle.rules.specs.Text.Reader.{definition}
use Rattle.rules.specs.Pipeline.Record.{span_end}
use Rattle.rules.specs.Face.Demands.{bytes_at, Walk}
use Rattle.rules.specs.declared.Step.{Step}
use Rattle.laws_lists.specs.Tests.{never, or_left, or_right}
use Rattle.laws_lists.specs.Lists.{Every}
use Rattle.laws_text.specs.Walk.{worded, piece-step, piece-end}
use Rattle.laws_text.specs.Pieces.{Edged}
use Rattle.laws_text.specs.Edges.{edged-joined, normal-edged}

-- the bytes at the spans of a walk are the pieces that have words
walk-bytes : (n : Bytes) (place : ℕ) (l : List Step) → Walk n place l → map (λ (s : Step). bytes_at n s.span) l ≡ worded (cut (is "|") (drop place n))
unfolding Walk
walk-bytes n place [] w = sym (piece-end n place w)
walk-bytes n place (s ∷ l) w =
    rw (walk-bytes n (span_end s.span) l w.1)
    (sym (piece-step n place s.span.from (span_end s.span) (record { at = span_end s.span }) w.0))

-- pieces with the edges of their words, none of modifiers alone
joined-text : (p : Bytes) → Edged p → non_empty (words p) ≡ true → only_modifiers (words p) ≡ false → joined (words p) ≡ p
unfolding only_modifiers
joined-text p h e n = edged-joined p h (rw e at n)

edged-texts : (ps : List Bytes) → Every Edged ps → any_of only_modifiers (kept non_empty (map words ps)) ≡ false → worded ps ≡ map joined (kept non_empty (map words ps))
unfolding Every worded kept any_of
edged-texts [] h n = refl
edged-texts (p ∷ ps) h n = go (non_empty (words p)) refl n (edged-texts ps h.1)
  where
    rest : Steps
    rest = kept non_empty (map words ps)

    go : (b : Bool) → non_empty (words p) ≡ b → any_of only_modifiers (cond b (words p ∷ rest) rest) ≡ false → (any_of only_modifiers rest ≡ false → worded ps ≡ map joined rest)
        → cond b (p ∷ worded ps) (worded ps) ≡ map joined (cond b (words p ∷ rest) rest)
    go true e n i =
        let here = joined-text p h.0 e (or_left (only_modifiers (words p)) (any_of only_modifiers rest) n) in
        rw (i (or_right (only_modifiers (words p)) (any_of only_modifiers rest) n), here) refl
    go false e n i = i n

-- ---- the steps of a text

-- no step that splitting gives has modifiers alone
pub split-worded : (ss : Steps) (ts : List Bytes) → split_steps ss ≡ answers ts → any_of only_modifiers ss ≡ false
unfolding split_steps
split-worded ss ts h = go (any_of only_modifiers ss) h
  where
    go : (b : Bool) → cond b (refuses 6 (place_of only_modifiers ss)) (cond (ltb 64 (length ss)) (refuses 8 0) (answers (map step_text ss))) ≡ answers ts → b ≡ false
    go true h = absurd (never (cc h))
    go false h = refl

-- So the bytes at the spans of a walk over its definition are the steps, each with one space between its words.
pub walk-texts : (t : Bytes) (l : List Step) → any_of only_modifiers (steps t) ≡ false → Walk (definition t) 0 l
    → map (λ (s : Step). bytes_at (definition t) s.span) l ≡ map joined (steps t)
unfolding steps steps_of definition
walk-texts t l n w = walk-bytes (definition t) 0 l w ∙ edged-texts (cut (is "|") (definition t)) (normal-edged (stripped t)) n
