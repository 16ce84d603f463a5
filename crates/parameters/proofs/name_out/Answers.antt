-- `name_out`: a table with the one part whose key is `_name` and whose value is the whole text is what a text with a separator gives; its
-- lines are handed out.
use mathlib.Core.Path.{◌≡◌, ap, ◌∙◌}
use Rattle.parameters.specs.declared.table.Source.{Source}
use Rattle.parameters.specs.Parts.{held}
use Rattle.parameters.specs.Tables.{table_in}
use Rattle.parameters.proofs.Replies.{whole-within, name-so}
use Rattle.parameters.proofs.name_out.Goals as goal

pub enter-requires : goal.enter-requires
enter-requires c = rw c.new-table.ensures.from (whole-within c.args.source.spelt)

pub returns : goal.returns
returns c =
    let here : c.new-table.result.source.s.now ≡ c.args.source.s.now = ap (λ (x : Source). x.s.now) c.new-table.ensures.from in
    let then : c.enter.new.self.source.s.now ≡ c.args.source.s.now = ap (λ (x : Source). x.s.now) c.enter.ensures.from ∙ here in
    name-so c.args.source.spelt (held (table_in c.new-table.result)) (held (table_in c.enter.new.self)) c.enter.result c.new-table.ensures.none
    (rw here at c.enter.ensures.entered) (rw here at c.enter.ensures.full) (rw then at c.small_out.ensures)
