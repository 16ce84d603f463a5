-- Replies on the way: of one step at its place, of the records so far and of those behind them, each with its span.
use mathlib.Core.Path.{◌≡◌, refl, sym, ap, ◌∙◌}
use Prim.Native.Nat.{ℕ}
use mathlib.Core.Bool.{Bool, true, false, cond}
use mathlib.Core.List.{List, [], ◌∷◌, ◌++◌}
use lib.ListN.{length}
use lib.Seq.{append_snoc}
use lib.Dec.{eqb, ltb}
use Rattle.rules.specs.Text.Bytes.{Bytes, words}
use Rattle.rules.specs.Text.Normal.{normal}
use Rattle.rules.specs.Text.Parameters.{text_table, parameters_of}
use Rattle.rules.specs.Text.Refusal.{Reply, answers, refuses, refuses12, and_then}
use Rattle.rules.specs.Pipeline.Record.{spanned, with_spans}
use Rattle.rules.specs.Pipeline.Prepare.{judged, offset_of, offset_in, at_step, prepare_step}
use Rattle.rules.specs.declared.Mode.{Mode}
use Rattle.rules.specs.declared.Span.{Span}
use Rattle.rules.specs.declared.Step.{Step}
use Rattle.prepare.specs.Records.{refused_at}
use Rattle.prepare.specs.StepReply.{text_reply, step_reply}
use Rattle.prepare.specs.Lent.{with_theirs}

-- ---- one step's reply

-- a step's reply at a place, its offset being known
unfoldable pub at_place : ℕ → Reply Step → Reply Step
at_place place (answers s) = answers s
at_place place (refuses number nowhere) = refuses number place
at_place place (refuses12 nowhere offset) = refuses12 place offset

at_both : (place offset : ℕ) (r : Reply Step) → at_step place offset r ≡ at_place place (at_step 0 offset r)
unfolding at_step at_place
at_both place offset (answers s) = refl
at_both place offset (refuses number nowhere) = refl
at_both place offset (refuses12 nowhere unknown) = refl

pub step-at : (mode : Mode) (place : ℕ) (t : Bytes) → prepare_step mode place t ≡ at_place place (step_reply mode t)
unfolding prepare_step step_reply text_reply parameters_of offset_in
step-at mode place t = go (ltb 4096 (length t))
  where
    go : (b : Bool) → at_step place (offset_of (words (normal t))) (cond b (refuses 1 0) (and_then (text_table (normal t)) (judged mode)))
        ≡ at_place place (cond b (refuses 1 0) (at_step 0 (offset_of (words (normal t))) (and_then (text_table (normal t)) (judged mode))))
    go true = unfold at_step at_place in refl
    go false = at_both place (offset_of (words (normal t))) (and_then (text_table (normal t)) (judged mode))

-- a refusal by its number, at a place
pub refused-there : (number place at : ℕ) → at_place place (refused_at number 0 at) ≡ refused_at number place at
unfolding at_place
refused-there number place at = go (eqb number 12)
  where
    go : (b : Bool) → at_place place (cond b (refuses12 0 at) (refuses number 0)) ≡ cond b (refuses12 place at) (refuses number place)
    go true = refl
    go false = refl

-- ---- records in front of others

unfoldable pub prefixed : List Step → Reply (List Step) → Reply (List Step)
prefixed done (answers l) = answers (done ++ l)
prefixed done (refuses number place) = refuses number place
prefixed done (refuses12 place offset) = refuses12 place offset

pub prefixed-none : (r : Reply (List Step)) → r ≡ prefixed [] r
unfolding prefixed
prefixed-none (answers l) = refl
prefixed-none (refuses number place) = refl
prefixed-none (refuses12 place offset) = refl

prefixed-one : (done : List Step) (s : Step) (r : Reply (List Step)) → prefixed done (and_then r (λ l. answers (s ∷ l))) ≡ prefixed (done ++ (s ∷ [])) r
unfolding prefixed and_then
prefixed-one done s (answers l) = ap answers (sym (append_snoc done s l))
prefixed-one done s (refuses number place) = refl
prefixed-one done s (refuses12 place offset) = refl

-- ---- records and their spans

-- a record and its span in front of others and theirs
front-spanned : (p : Span) (ps : List Span) (s : Step) (r : Reply (List Step)) → with_theirs (p ∷ ps) (and_then r (λ l. answers (s ∷ l))) ≡ and_then (with_theirs ps r) (λ l. answers (spanned p s ∷ l))
unfolding with_theirs with_spans and_then
front-spanned p ps s (answers l) = refl
front-spanned p ps s (refuses number place) = refl
front-spanned p ps s (refuses12 place offset) = refl

-- the next record of those that stand in front
pub prefixed-more : (done : List Step) (p : Span) (ps : List Span) (s : Step) (r : Reply (List Step))
    → prefixed done (with_theirs (p ∷ ps) (and_then r (λ l. answers (s ∷ l)))) ≡ prefixed (done ++ (spanned p s ∷ [])) (with_theirs ps r)
prefixed-more done p ps s r = ap (prefixed done) (front-spanned p ps s r) ∙ prefixed-one done (spanned p s) (with_theirs ps r)
