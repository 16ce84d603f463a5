-- The promise of `definition`, its answer told as a plain record.
use Rattle.laws_text.specs.Entry.{in-other-words}
use Rattle.rules.specs.Face.Plain.{plain_written}
use Rattle.sakondreno.proofs.sakondreno_definition.Goals as goal

pub returns : goal.returns
returns c = rw c.answered.ensures (in-other-words plain_written c.definition.ensures)
