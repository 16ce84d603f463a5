-- `prepare_step`: a text of at most 4,096 bytes weighs no more than these, so it has room to be normalised again.
use mathlib.Core.Path.{refl}
use Rattle.prepare.proofs.StepText.{step-long, step_so, step_room}
use Rattle.prepare.proofs.judge.prepare_step.Goals as goal

pub returns-then-text-gt-MOST : goal.returns-then-text-gt-MOST
returns-then-text-gt-MOST c = step-long _ _ c.if-text-gt-MOST.true refl

pub prepare_text-requires : goal.prepare_text-requires
prepare_text-requires c = let all = step_room c.args.text.now c.requires.text_in_bounds c.if-text-gt-MOST.false c.requires.roomy in record { text_bound = all.0; text_in_bounds = all.1.0; text_in_bounds_2 = all.1.1 }

pub returns : goal.returns
returns c =
    step_so _ _ c.if-text-gt-MOST.false c.prepare_text.ensures
