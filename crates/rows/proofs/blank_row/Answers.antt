-- One record, 64 times.
use mathlib.Core.Path.{ap}
use lib.ListN.{replicate}
use Rattle.rules.specs.declared.Step.{Step}
use Rattle.record.specs.Records.{mark_of}
use Rattle.rows.specs.Row.{spare, blanks}
use Rattle.rows.proofs.blank_row.Goals as goal

pub returns : goal.returns
unfolding blanks spare mark_of
returns c = ap (λ (s : Step). replicate 64 s) c.step_of-s.ensures
