-- `start_of`: only at the text's start can a `step` stand in front of everything: it is passed if it is the first word.
use Rattle.std.proofs.Common.{sym, ◌∙◌}
use Rattle.proj_words.proofs.Pieces.{start-later, start-step, start_none, start_word}
use Rattle.proj_words.proofs.walk.start_of.Goals as goal

pub returns-then-place-gt0 : goal.returns-then-place-gt0
returns-then-place-gt0 c = start-later c.requires c.if-place-gt0.true

pub returns-in-Some : goal.returns-in-Some
returns-in-Some c = start-step c.if-place-gt0.false c.in-Some.ensures (sym c.is_step.ensures ∙ c.if-is_step.true)

pub returns-in_default : goal.returns-in_default
returns-in_default c = start_word c.if-place-gt0.false c.in-Some.ensures (sym c.is_step.ensures ∙ c.if-is_step.false)

pub returns-in_default-2 : goal.returns-in_default-2
returns-in_default-2 c = start_none c.if-place-gt0.false c.in_default.ensures
