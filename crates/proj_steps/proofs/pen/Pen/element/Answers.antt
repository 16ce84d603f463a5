-- `element`: `inv` is left out and stays owed as it was; any other element is added, and the `inv` that is owed comes right behind it.
use Rattle.std.proofs.Common.{sym, ◌∙◌}
use Rattle.proj_steps.proofs.Penned.{element-inv, element-first, element-then, element-done}
use Rattle.proj_steps.proofs.pen.Pen.element.Goals as goal

pub returns-then-is_inv : goal.returns-then-is_inv
returns-then-is_inv c = element-inv (sym c.is_inv.ensures ∙ c.if-is_inv.true)

pub plain-requires : goal.plain-requires
plain-requires c = element-first (sym c.is_inv.ensures ∙ c.if-is_inv.false) c.requires

pub settle-requires : goal.settle-requires
settle-requires c = element-then (sym c.is_inv.ensures ∙ c.if-is_inv.false) c.requires c.plain.ensures

pub returns : goal.returns
returns c = element-done (sym c.is_inv.ensures ∙ c.if-is_inv.false) c.requires c.plain.ensures c.settle.ensures
