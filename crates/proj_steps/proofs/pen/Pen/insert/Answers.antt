-- `insert`: the globals are an element just where they are still to go in and there are any; else nothing is added.
use Rattle.std.proofs.Common.{sym, ◌∙◌}
use Rattle.proj_steps.proofs.Penned.{full, bare-none, insert-room, insert-done, insert-empty, insert-later}
use Rattle.proj_steps.proofs.pen.Pen.insert.Goals as goal

pub returns-in_default : goal.returns-in_default
returns-in_default c = insert-later c.in_default.is

pub element-requires : goal.element-requires
element-requires c = insert-room c.in-Some.is (full _ (sym c.is_empty.ensures ∙ c.if-not-is_empty.true)) c.requires

pub returns-then-not-is_empty : goal.returns-then-not-is_empty
returns-then-not-is_empty c = insert-done c.in-Some.is (full _ (sym c.is_empty.ensures ∙ c.if-not-is_empty.true)) c.element.ensures

pub returns-else-not-is_empty : goal.returns-else-not-is_empty
returns-else-not-is_empty c = insert-empty c.in-Some.is (bare-none _ (sym c.is_empty.ensures ∙ c.if-not-is_empty.false))
