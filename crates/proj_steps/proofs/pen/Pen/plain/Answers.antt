-- `plain`: an empty element adds nothing; any other is a word, and its mark is exchanged.
use Rattle.std.proofs.Common.{sym, ◌∙◌}
use Rattle.proj_steps.proofs.Penned.{full, bare, plain-empty, plain-room, plain_done}
use Rattle.proj_steps.proofs.pen.Pen.plain.Goals as goal

pub returns-then-is_empty : goal.returns-then-is_empty
returns-then-is_empty c = plain-empty _ (bare _ (sym c.is_empty.ensures ∙ c.if-is_empty.true))

pub word-requires : goal.word-requires
word-requires c = plain-room c.args.x.now (full _ (sym c.is_empty.ensures ∙ c.if-is_empty.false)) c.exchanged_mark.ensures c.requires

pub returns : goal.returns
returns c = plain_done c.args.x.now (full _ (sym c.is_empty.ensures ∙ c.if-is_empty.false)) c.exchanged_mark.ensures c.word.ensures
