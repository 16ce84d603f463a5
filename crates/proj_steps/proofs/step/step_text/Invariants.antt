-- `step_text`: what is written so far, and what the words that are left still give, are what all give (`Telling`). A turn leaves a word out,
-- or adds it.
use Rattle.rules.specs.Text.Bytes.{words}
use Rattle.rules.specs.Proj.Words.{tidied}
use Rattle.rules.specs.Proj.Translate.{with_globals}
use Rattle.std.proofs.Common.{true}
use Rattle.proj_words.specs.Heads.{coming}
use Rattle.proj_steps.specs.Pipelines.{pipeline_of}
use Rattle.proj_steps.proofs.Emitted.{Telling}
use Rattle.proj_steps.proofs.step.step_text.Given as goal

abbrev pub invariant-loop-word : goal.invariant-loop-word
invariant-loop-word l =
    (goal.iterator-loop-word).can_next l.word-iterator ×
    (goal.iterator-loop-word).is_finite l.word-iterator ×
    Telling (with_globals (pipeline_of l.pipe.globals.now true) (tidied (words l.step.text.now))) l.ellipsoid l.globals l.initial.pen l.initial.out l.pen l.ahead (coming l.word-iterator) l.out
