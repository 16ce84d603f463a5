-- The steps of a PROJ text have words without white space, and so have the texts of the answer none at their ends. The
-- pipeline of a first step that is `proj=pipeline`.
use Rattle.std.specs.Prelude.{◌≡◌, Bool, cond, ◌||◌, drop}
use Rattle.std.proofs.Math.Path.{refl, sym}
use Rattle.std.proofs.Common.{ap, ◌∙◌, true≢false}
use Rattle.std.proofs.Math.Bool.{true, false}
use Rattle.std.proofs.lemmas.Bool.{false≢true}
use mathlib.Core.List.{[], ◌∷◌, map}
use Rattle.rules.specs.Text.Ascii.{ascii}
use Rattle.rules.specs.Text.Lists.{any_of, all_of, kept, non_empty}
use Rattle.rules.specs.Text.Bytes.{Bytes, Words, Steps, same, onto}
use Rattle.rules.specs.Proj.Words.{is_step, cut_at_step, without_noise, is_proj, first_proj, in_its_place, exchanged}
use Rattle.rules.specs.Proj.Translate.{is_inv, is_pipeline, Pipeline, is_written, step_of, in_order, translation}
use Rattle.laws_lists.specs.Tests.{and_left, and_right, same-is}
use Rattle.laws_proj.specs.Tests.{both, all-kept}
use Rattle.laws_proj.specs.Solid.{mild}
use Rattle.laws_text.specs.Plain.{plain}
use Rattle.laws_proj.specs.Step.{Global, step-mild}
use Rattle.laws_proj.specs.Ordering.{whole, whole_is}

-- ---- the steps

abbrev plainly : Words → Bool
plainly ws = all_of plain ws

onto-plain : (w : Bytes) (ps : Steps) → plain w ≡ true → all_of plainly ps ≡ true → all_of plainly (onto w ps) ≡ true
unfolding onto all_of
onto-plain w [] e f = rw e
onto-plain w (p ∷ ps) e f = rw e f

head_plain : (w : Bytes) (ws : Words) → all_of plain (w ∷ ws) ≡ true → plain w ≡ true
unfolding all_of
head_plain w ws e = and_left (plain w) (all_of plain ws) e

tail_of : (w : Bytes) (ws : Words) → all_of plain (w ∷ ws) ≡ true → all_of plain ws ≡ true
unfolding all_of
tail_of w ws e = and_right (plain w) (all_of plain ws) e

pub cut-plain : (b : Bool) (ws : Words) → all_of plain ws ≡ true → all_of plainly (cut_at_step b ws) ≡ true
unfolding cut_at_step
cut-plain true [] e = unfold all_of in refl
cut-plain false [] e = unfold all_of in refl
cut-plain true (w ∷ ws) e = onto-plain w (cut_at_step false ws) (head_plain w ws e) (cut-plain false ws (tail_of w ws e))
cut-plain false (w ∷ ws) e = go (is_step w) (cut-plain true ws (tail_of w ws e)) (cut-plain false ws (tail_of w ws e))
  where
    go : (b : Bool) → all_of plainly (cut_at_step true ws) ≡ true → all_of plainly (cut_at_step false ws) ≡ true
        → all_of plainly (cond b ([] ∷ cut_at_step true ws) (onto w (cut_at_step false ws))) ≡ true
    go true h k = unfold all_of in h
    go false h k = onto-plain w (cut_at_step false ws) (head_plain w ws e) k

noise-plain : (ws : Words) → all_of plain ws ≡ true → all_of plain (without_noise ws) ≡ true
unfolding without_noise
noise-plain [] e = e
noise-plain (w ∷ []) e = e
noise-plain (w ∷ v ∷ ws) e = go (is_step w)
  where
    rest : all_of plain (v ∷ ws) ≡ true
    rest = unfold all_of in and_right (plain w) (all_of plain (v ∷ ws)) e

    go : (b : Bool) → all_of plain (cond b (v ∷ ws) (w ∷ v ∷ ws)) ≡ true
    go true = rest
    go false = e

noises-plain : (ss : Steps) → all_of plainly ss ≡ true → all_of plainly (map without_noise ss) ≡ true
unfolding all_of
noises-plain [] e = refl
noises-plain (s ∷ ss) e = both (noise-plain s (and_left (plainly s) (all_of plainly ss) e)) (noises-plain ss (and_right (plainly s) (all_of plainly ss) e))

pub steps-plain : (b : Bool) (ws : Words) → all_of plain ws ≡ true → all_of plainly (kept non_empty (map without_noise (cut_at_step b ws))) ≡ true
steps-plain b ws e = all-kept plainly non_empty (map without_noise (cut_at_step b ws)) (noises-plain (cut_at_step b ws) (cut-plain b ws e))

-- ---- the texts

texts-mild : (p : Pipeline) → Global p → (ss : Steps) → all_of plainly ss ≡ true → all_of mild (map (step_of p) ss) ≡ true
unfolding all_of
texts-mild p g [] e = refl
texts-mild p g (s ∷ ss) e = both (step-mild p s (and_left (plainly s) (all_of plainly ss) e) g) (texts-mild p g ss (and_right (plainly s) (all_of plainly ss) e))

-- the answer, part by part
pub translation-is : (p : Pipeline) → Global p → (ss : Steps) → all_of plainly ss ≡ true → translation p ss ≡ whole p.inverted (map (step_of p) (kept is_written ss))
unfolding translation in_order ascii
translation-is p g ss e = whole_is p.inverted (map (step_of p) (kept is_written ss)) (texts-mild p g (kept is_written ss) (all-kept plainly is_written ss e))

-- ---- the pipeline's own step

pipe-not : (v : Bytes) → same v (ascii "proj=pipeline") ≡ true → is_inv (drop 5 v) ≡ false
pipe-not v e = ap (λ (x : Bytes). is_inv (drop 5 x)) (same-is v (ascii "proj=pipeline") e) ∙ unfold is_inv same ascii in refl

first-none : (ws : Words) → any_of is_proj ws ≡ false → first_proj ws ≡ []
unfolding any_of first_proj
first-none [] e = refl
first-none (w ∷ ws) e = go (is_proj w) e (first-none ws)
  where
    go : (b : Bool) → (b || any_of is_proj ws) ≡ false → (any_of is_proj ws ≡ false → first_proj ws ≡ []) → cond b w (first_proj ws) ≡ []
    go true g h = absurd (true≢false g)
    go false g h = h g

-- its name is not `inv`
pub pipeline-inv : (ws : Words) → is_pipeline ws ≡ true → any_of is_inv (exchanged ws) ≡ any_of is_inv (drop 1 (exchanged ws))
unfolding is_pipeline exchanged first_proj
pipeline-inv [] e = refl
pipeline-inv (w ∷ ws) e = go (is_proj w) (any_of is_proj ws) refl e
  where
    go : (b d : Bool) → any_of is_proj ws ≡ d → same (cond b w (first_proj ws)) (ascii "proj=pipeline") ≡ true
        → any_of is_inv (cond b (drop 5 w ∷ ws) (cond d (drop 5 (first_proj ws) ∷ in_its_place w ws) (w ∷ ws))) ≡ any_of is_inv
        (drop 1 (cond b (drop 5 w ∷ ws) (cond d (drop 5 (first_proj ws) ∷ in_its_place w ws) (w ∷ ws))))
    go true d f g = unfold any_of in rw (pipe-not w g)
    go false true f g = unfold any_of in rw (pipe-not (first_proj ws) g)
    go false false f g = absurd (false≢true (none (first-none ws f) g))
      where
        none : first_proj ws ≡ [] → same (first_proj ws) (ascii "proj=pipeline") ≡ true → false ≡ true
        none z h = unfold same ascii in sym (ap (λ (x : Bytes). same x (ascii "proj=pipeline")) z) ∙ h
