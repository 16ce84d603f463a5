-- What the reader finds, told as a plain record.
use mathlib.Core.Path.{ap, ◌∙◌}
use Rattle.rules.specs.Face.Plain.{plain_found}
use Rattle.sakondreno.proofs.sakondreno_next.Goals as goal

pub returns : goal.returns
returns c = c.part_of.ensures ∙ ap plain_found c.next_from.ensures
