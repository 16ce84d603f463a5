-- `judge`: 10 where no name is given or it is none of the five; else what `judge_named` finds of the one that it is.
use mathlib.Core.Path.{refl, sym, ◌∙◌}
use Rattle.rules.specs.Text.Ascii.{ascii}
use Rattle.parameters.specs.Tables.{text, table_in}
use Rattle.prepare.specs.Lookup.{placed_in}
use Rattle.prepare.proofs.EarliestFault.{given-in}
use Rattle.prepare.proofs.Judged.{judged-unnamed, judged-other, judged-named}
use Rattle.prepare.proofs.judge.judge.Goals as goal

pub returns-in_default : goal.returns-in_default
unfolding ascii
returns-in_default c =
    judged-unnamed _ (placed_in c.args.table.now) (rw (given-in (text c.args.table.now) (table_in c.args.table.now)) c.in_default.ensures) refl

pub returns-in-Some-name_of : goal.returns-in-Some-name_of
unfolding ascii
returns-in-Some-name_of c =
    judged-named _ (placed_in c.args.table.now) (rw (given-in (text c.args.table.now) (table_in c.args.table.now)) c.in-Some.ensures)
    (sym c.name_of.ensures ∙ c.in-Some-name_of.is) c.judge_named.ensures

pub returns-in-None : goal.returns-in-None
unfolding ascii
returns-in-None c =
    judged-other _ (placed_in c.args.table.now) (rw (given-in (text c.args.table.now) (table_in c.args.table.now)) c.in-Some.ensures)
    (sym c.name_of.ensures ∙ c.in-None.is) refl
