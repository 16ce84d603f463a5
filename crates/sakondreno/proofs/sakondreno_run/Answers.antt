-- The promise of `run`, its answer told as a plain record.
use Rattle.sakondreno.proofs.PlainPromises.{runs-plain}
use Rattle.sakondreno.proofs.sakondreno_run.Goals as goal

pub returns : goal.returns
returns c = runs-plain c.direction_of-d.ensures c.run.ensures c.ended.ensures
