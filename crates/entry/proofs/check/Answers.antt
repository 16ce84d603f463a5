-- `check`: what the check finds in the table that stands for the row is what it finds in the row.
use Rattle.std.proofs.Common.{ap, ◌∙◌}
use Rattle.rules.specs.Pipeline.Record.{listed}
use Rattle.rules.specs.Pipeline.Check.{check}
use Rattle.rules.specs.declared.Table.{Table}
use Rattle.entry.specs.TableOfRow.{check-stands}
use Rattle.entry.proofs.check.Goals as goal

pub returns : goal.returns
returns c =
    record {
      exactly =
          c.check.ensures.exactly ∙ ap (λ (t : Table). check c.args.direction (listed t)) c.load-t.ensures ∙ check-stands c.args.table.now c.args.direction;
    }
