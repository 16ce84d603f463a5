use mathlib.Core.Path.{ap, ◌∙◌}
use lib.ListN.{length}
use Rattle.std.specs.declared.cmp.Ordering.TheVariants.{Less, Equal, Greater}
use Rattle.parameters.specs.Parts.{no_part}
use Rattle.parameters.proofs.Order.{told}
use Rattle.parameters.proofs.Places.{held-length, held-within, seeks-past, seeks-there, seeks-before, seeks-end}
use Rattle.parameters.proofs.table.Parameters.place_of.Goals as goal

pub key-requires-in-loop-i : goal.key-requires-in-loop-i
key-requires-in-loop-i c = held-within c.args.self.now.good c.held-q-items.ensures _ _ c.loop-i-test.true

pub returns-in-Less : goal.returns-in-Less
returns-in-Less c =
    rw (← c.held-q-items.ensures) (seeks-before c.loop-i.invariant no_part c.loop-i-test.true (told Less c.in-Less.ensures c.key.ensures c.key-in-loop-i.ensures))

pub returns-in-Equal : goal.returns-in-Equal
returns-in-Equal c =
    rw (← c.held-q-items.ensures) (seeks-there c.loop-i.invariant no_part c.loop-i-test.true (told Equal c.in-Equal.ensures c.key.ensures c.key-in-loop-i.ensures))

pub loop-i-preserved : goal.loop-i-preserved
loop-i-preserved c =
    seeks-past c.loop-i.invariant no_part c.loop-i-test.true (told Greater c.in-Greater.ensures c.key.ensures c.key-in-loop-i.ensures)

pub returns : goal.returns
returns c =
    rw (← c.held-q-items.ensures) (seeks-end c.loop-i.invariant c.loop-i-test.false (ap length c.held-q-items.ensures ∙ held-length c.args.self.now.good))
