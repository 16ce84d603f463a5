-- What the pipeline's own step says to the others.
use mathlib.Core.Path.{◌≡◌, refl, sym, ap, ◌∙◌}
use mathlib.Core.Bool.{true, false}
use mathlib.Core.List.{[], ◌∷◌}
use lib.ListN.{drop}
use Rattle.rules.specs.Text.Ascii.{ascii}
use Rattle.rules.specs.Text.Lists.{any_of, kept, non_empty}
use Rattle.rules.specs.Text.Bytes.{Bytes, Steps, same, words, joined_by, joined}
use Rattle.rules.specs.Proj.Words.{exchanged}
use Rattle.rules.specs.Proj.Translate.{is_inv, pipeline_words, pipeline}
use Rattle.laws_proj.specs.Solid.{mild}
use Rattle.laws_text.specs.Plain.{words-plain}
use Rattle.laws_proj.specs.Plain.{exchanged-even, tail-plain}
use Rattle.laws_proj.specs.Step.{Global, globals-fine}
use Rattle.laws_proj.specs.Bounds.{globals_of}
use Rattle.laws_proj.specs.Cutting.{pipeline-inv}
use Rattle.proj_words.specs.Heads.{coming, IsHead}
use Rattle.proj_words.specs.Facts.{IsMarks}
use Rattle.proj_words.specs.declared.exchange.Head.{Head}
use Rattle.proj_words.specs.declared.exchange.Marks.{Marks}
use Rattle.proj_steps.specs.Pipelines.{pipeline_of}

-- nothing is said
pub nothing-global : Global (pipeline_of [] false)
unfolding mild non_empty is_inv same ascii
nothing-global = record { mildly = refl; other = refl }

silent : (ss : Steps) → pipeline_words ss ≡ [] → pipeline ss ≡ pipeline_of [] false
unfolding pipeline kept any_of joined joined_by
silent ss e = rw e

pub pipe-none : {ss : Steps} → ss ≡ [] → pipeline ss ≡ pipeline_of [] false
unfolding pipeline_words
pipe-none {ss} e = silent ss (ap pipeline_words e)

module _ (t : Bytes) {ss rest : Steps} (s : ss ≡ words t ∷ rest) {h : Head} (m : IsHead (words t) h) where
  pub pipe-other : h.pipeline ≡ false → pipeline ss ≡ pipeline_of [] false
  unfolding pipeline_words
  pipe-other e = silent ss (ap pipeline_words s ∙ rw (sym m.pipeline ∙ e))

  module _ (e : h.pipeline ≡ true) {k : Marks} (w : IsMarks (coming h.words) k) where
    words_are : pipeline_words ss ≡ drop 1 (exchanged (words t))
    unfolding pipeline_words
    words_are = ap pipeline_words s ∙ rw (sym m.pipeline ∙ e)

    inverted-is : any_of is_inv (drop 1 (exchanged (words t))) ≡ k.inv
    inverted-is = sym (pipeline-inv (words t) (sym m.pipeline ∙ e)) ∙ sym (w.inv ∙ ap (any_of is_inv) m.words)

    module _ {g : Bytes} (z : g ≡ globals_of (words t)) where
      pub pipe-here : pipeline ss ≡ pipeline_of g k.inv
      unfolding pipeline globals_of
      pipe-here = rw (words_are, inverted-is, z)

      pub pipe-global : Global (pipeline_of g k.inv)
      unfolding globals_of
      pipe-global = rw z (globals-fine (drop 1 (exchanged (words t))) k.inv (tail-plain (exchanged (words t)) (exchanged-even (words t) (words-plain t))))
