-- `more_words_at`: of a blank text there are no words, and nothing is written; else what stands after each space is a space, and then the
-- words, one space apart (`spaced-some`).
use mathlib.Core.Path.{sym, ◌∙◌}
use Rattle.split.proofs.StepText.{more-none, more-place, more_room, more-some}
use Rattle.split.proofs.step.more_words_at.Goals as goal

pub returns-then-is_blank : goal.returns-then-is_blank
returns-then-is_blank c =
    more-none c.args.src.now c.args.dst.now c.args.at (sym c.is_blank.ensures ∙ c.if-is_blank.true) c.requires

pub bounds-dst-at : goal.bounds-dst-at
bounds-dst-at c =
    more-place c.args.src.now c.args.dst.now c.args.at (sym c.is_blank.ensures ∙ c.if-is_blank.false) c.requires

pub words_at-requires : goal.words_at-requires
words_at-requires c =
    more_room c.args.src.now c.args.dst.now c.args.at (sym c.is_blank.ensures ∙ c.if-is_blank.false) c.requires

pub returns : goal.returns
returns c =
    more-some c.args.src.now c.args.dst.now c.args.at (sym c.is_blank.ensures ∙ c.if-is_blank.false) c.requires c.words_at.ensures
