-- `is_other`: `find` stops before the text's end just where there is a `|`, and comes to its end just where there is no `proj`.
use Rattle.std.proofs.Common.{◌∙◌}
use borrow.Author.Tests.{lt-ltb}
use Rattle.proj.proofs.Laws.{other-bar, other-proj}
use Rattle.proj.proofs.is_other.Goals as goal

pub returns-then-find-text : goal.returns-then-find-text
returns-then-find-text c = lt-ltb _ _ c.if-find-text.true ∙ other-bar _ c.find.ensures c.if-find-text.true

pub returns-else-find-text : goal.returns-else-find-text
returns-else-find-text c = other-proj _ c.find.ensures c.if-find-text.false c.find-else-find-text.ensures
