-- `answer_of`: each of its ways out is a case of `answered`.
use mathlib.Core.Path.{sym, ◌∙◌}
use Rattle.prepare.proofs.LentTable.{answered-many, answered-refused, answered-short, answered-all}
use Rattle.prepare.proofs.answer_of.Goals as goal

pub returns-then-n-gt64 : goal.returns-then-n-gt64
returns-then-n-gt64 c = c.refusing.ensures ∙ sym (answered-many _ _ _ _ c.if-n-gt64.true)

pub returns-in-Some : goal.returns-in-Some
returns-in-Some c = c.refusing-in-Some.ensures ∙ rw c.in-Some.is (sym (answered-refused _ _ _ c.if-n-gt64.false _))

pub returns-then-table-n : goal.returns-then-table-n
returns-then-table-n c = c.refusing-then-table-n.ensures ∙ rw c.in_default.is (sym (answered-short _ _ _ c.if-n-gt64.false c.if-table-n.true))

pub returns : goal.returns
returns c = rw c.in_default.is (sym (answered-all _ _ _ c.if-n-gt64.false c.if-table-n.false))
