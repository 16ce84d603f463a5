-- `judge_cut`: the words' table has each parameter in its place, or they have no room there.
use mathlib.Core.Path.{◌≡◌, refl, ap, ◌∙◌}
use Rattle.parameters.specs.declared.table.Source.{Source}
use Rattle.parameters.specs.Tables.{front, text, table_in}
use Rattle.rules.specs.Text.Bytes.{words}
use Rattle.prepare.proofs.StepText.{cut-full, cut-table}
use Rattle.prepare.proofs.judge.judge_cut.Goals as goal

pub enter_cut-requires : goal.enter_cut-requires
enter_cut-requires c = record { s_value = rw c.new-table.ensures.from c.requires.spaced; none = c.new-table.ensures.none }

pub judge-requires : goal.judge-requires
judge-requires c = rw (ap (λ (x : Source). x.s.now) (c.in-Ok.ensures.from ∙ c.new-table.ensures.from)) c.requires.small

pub returns-in-Err : goal.returns-in-Err
returns-in-Err c = cut-full _ (words (front c.args.source)) (rw c.new-table.ensures.from at c.in-Err.ensures.entered.1) refl

pub returns-in-Ok : goal.returns-in-Ok
returns-in-Ok c =
    let then : c.enter_cut.new.self.source.s.now ≡ c.args.source.s.now = ap (λ (x : Source). x.s.now) (c.in-Ok.ensures.from ∙ c.new-table.ensures.from) in
    cut-table _ (words (front c.args.source)) (text c.enter_cut.new.self) (table_in c.enter_cut.new.self) c.enter_cut.new.self.good
    (rw then (rw c.new-table.ensures.from at c.in-Ok.ensures.entered.0)) c.judge.ensures
