-- `write`: where `refusal18` finds a bad record the answer is 18 at its place; where it finds none the table is one that `written`
-- requires.
use mathlib.Core.Path.{sym, ◌∙◌}
use Rattle.write.proofs.TableText.{table-bad}
use Rattle.write.proofs.write.Goals as goal

pub written-requires : goal.written-requires
written-requires c = sym c.refusal18.ensures ∙ c.in_default.is

pub returns-in-Some : goal.returns-in-Some
returns-in-Some c = table-bad _ c.refusal18.ensures c.in-Some.is

pub returns : goal.returns
returns c = c.written.ensures
