-- `is_same`: the library's `==` compares byte by byte, as the definition does.
use mathlib.Core.Path.{◌∙◌}
use Rattle.text.proofs.RunEnd.{same-is}
use Rattle.text.proofs.runs.is_same.Goals as goal

pub returns : goal.returns
returns c = c.eq.ensures ∙ same-is _ _
