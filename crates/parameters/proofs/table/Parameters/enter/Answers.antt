-- `enter`: where there is a part with the key of p, p takes its place.
use mathlib.Core.Path.{sym, ◌∙◌}
use Rattle.parameters.proofs.Entry.{put-held, put-good}
use Rattle.parameters.proofs.table.Parameters.enter.Goals as goal

pub invariant_of-self : goal.invariant_of-self
invariant_of-self c = record { good = put-good c.args.self.now.good c.requires _ }

pub returns-in-Ok-clause-entered : goal.returns-in-Ok-clause-entered
returns-in-Ok-clause-entered c = put-held c.args.self.now.good c.requires _ ∙ sym c.in-Ok.ensures.1
