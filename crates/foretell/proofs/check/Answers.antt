-- `check`: where `refusal18` finds a bad record the verdict is 18 at its place; where it finds none the table is one that `checked`
-- requires.
use mathlib.Core.Path.{sym, ◌∙◌}
use Rattle.foretell.proofs.CheckSoFar.{checks-refused, checks-so}
use Rattle.foretell.proofs.check.Goals as goal

pub checked-requires : goal.checked-requires
checked-requires c = sym c.refusal18.ensures ∙ c.in-None.is

pub returns-in-Some : goal.returns-in-Some
returns-in-Some c = checks-refused c.refusal18.ensures c.in-Some.is c.only.ensures

pub returns-in-None : goal.returns-in-None
returns-in-None c = checks-so (sym c.refusal18.ensures ∙ c.in-None.is) c.checked.ensures
