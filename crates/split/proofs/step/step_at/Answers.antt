-- `step_at`: a step's text is its words from `lead` on, joined, and then those before it, each after a space (`step_is`); the two calls
-- write just these, one behind the other.
use Rattle.split.proofs.StepText.{step-first, step-second, step-done}
use Rattle.split.proofs.step.step_at.Goals as goal

pub words_at-o-requires : goal.words_at-o-requires
words_at-o-requires c =
    step-first c.requires.lead c.requires.step_value c.args.dst.now c.args.at c.requires.step_in_bounds

pub more_words_at-requires : goal.more_words_at-requires
more_words_at-requires c =
    step-second c.requires.lead c.requires.step_value c.args.dst.now c.args.at c.requires.step_in_bounds c.words_at-o.ensures

pub returns : goal.returns
returns c =
    step-done c.requires.lead c.requires.step_value c.args.dst.now c.args.at c.requires.step_in_bounds c.words_at-o.ensures c.more_words_at.ensures
