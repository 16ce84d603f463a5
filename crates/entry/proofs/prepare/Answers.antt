-- `prepare` is `prepare_as` in the crate's reading and mode.
use Rattle.laws_records.specs.Exact.{crates-prepare}
use Rattle.entry.proofs.prepare.Goals as goal

pub returns : goal.returns
returns c = crates-prepare.0 c.prepare_as.ensures
