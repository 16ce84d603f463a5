-- The plan is what the call by value leaves of a table of blank records.
use Rattle.entry.specs.PlanOfTable.{planned-by}
use Rattle.entry.proofs.planned.Goals as goal

pub returns : goal.returns
returns c = planned-by _ _ _ _ c.empty.ensures c.prepare_as-p.ensures c.unwrap_or.ensures
