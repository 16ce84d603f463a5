-- The promise of `prepare_as` in the reading and the mode that the numbers name, its answer told as a plain record.
use Rattle.laws_text.specs.Entry.{in-other-words}
use Rattle.rules.specs.Face.Plain.{plain_prepared}
use Rattle.sakondreno.proofs.sakondreno_prepare_as.Goals as goal

pub returns : goal.returns
returns c =
    rw (c.counted.ensures, ← c.reading_of-how.ensures, ← c.mode_of-page.ensures) (in-other-words plain_prepared c.prepare_as.ensures)
