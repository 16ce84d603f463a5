-- What a parameter may be refused by goes by what its key takes.
use mathlib.Core.Path.{sym, ◌∙◌}
use Rattle.prepare.proofs.EarliestFault.{finds-lacking, finds-flag, finds-word, finds-series}
use Rattle.prepare.proofs.faults.fault_of.Goals as goal

pub returns-in-None : goal.returns-in-None
returns-in-None c = rw c.without_series.ensures (finds-lacking _ (sym c.in-None.is ∙ c.kind_of.ensures))

pub returns-in-Some-Flag : goal.returns-in-Some-Flag
returns-in-Some-Flag c =
    rw c.without_series-in-Some-Flag.ensures (finds-flag _ (sym (rw c.in-Some-Flag.field-0-is at c.in-Some-Flag.is) ∙ c.kind_of.ensures) c.fault_of_flag.ensures)

pub returns-in-Some-Word : goal.returns-in-Some-Word
returns-in-Some-Word c = rw c.without_series-in-Some-Word.ensures (finds-word _ (sym (rw c.in-Some-Word.field-0-is at c.in-Some-Word.is) ∙ c.kind_of.ensures))

pub returns-in-Some-Series : goal.returns-in-Some-Series
returns-in-Some-Series c = finds-series _ (sym (rw c.in-Some-Series.field-0-is at c.in-Some-Series.is) ∙ c.kind_of.ensures) c.series-numbers.ensures
