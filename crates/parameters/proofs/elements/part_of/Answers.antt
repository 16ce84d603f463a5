-- `part_of`: `run_end` finds the first `=` of the word, if it has one, and the second: so each return spells the parameter that the word is
-- (`part_cut`, `part-name`, `part-key`).
use Rattle.parameters.proofs.Cut.{part_cut, part-name, part-key}
use Rattle.parameters.proofs.elements.part_of.Goals as goal

pub returns-then-q-to : goal.returns-then-q-to
returns-then-q-to c =
    part_cut _ c.args.source.spelt c.requires.0 c.requires.1 c.run_end-q.ensures _ c.if-q-to.true c.run_end-r.ensures

pub returns-then-first : goal.returns-then-first
returns-then-first c =
    rw c.if-first.true (part-name _ c.args.source.spelt c.requires.0 c.requires.1 c.run_end-q.ensures c.if-q-to.false)

pub returns : goal.returns
returns c =
    rw c.if-first.false (part-key _ c.args.source.spelt c.requires.0 c.requires.1 c.run_end-q.ensures c.if-q-to.false)
