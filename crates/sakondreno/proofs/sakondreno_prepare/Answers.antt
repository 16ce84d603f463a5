-- The promise of `prepare`, its answer told as a plain record.
use Rattle.laws_text.specs.Entry.{in-other-words}
use Rattle.rules.specs.Face.Plain.{plain_prepared}
use Rattle.sakondreno.proofs.sakondreno_prepare.Goals as goal

pub returns : goal.returns
returns c = rw c.counted.ensures (in-other-words plain_prepared c.prepare.ensures)
