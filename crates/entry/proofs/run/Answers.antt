-- `run`: what the run makes over the table that stands for the row is what it makes over the row.
use Rattle.std.proofs.Common.{ap, ◌∙◌}
use Rattle.rules.specs.Pipeline.Record.{listed}
use Rattle.rules.specs.Pipeline.Run.{runs}
use Rattle.rules.specs.declared.Table.{Table}
use Rattle.entry.specs.TableOfRow.{runs-stands}
use Rattle.entry.proofs.run.Goals as goal

pub returns : goal.returns
returns c =
    let xs = c.args.tuples.now in
    let store = c.args.columns.now in
    record {
      exactly =
          c.run.ensures.exactly
          ∙ ap (λ (t : Table). runs c.args.direction (listed t) xs store) c.load-t.ensures
          ∙ runs-stands c.args.table.now c.args.direction xs store;
    }
