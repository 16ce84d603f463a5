-- `checked`: the steps so far, k of them, have come to what the rules say, and none of them was at fault (`Checking`). A step that is
-- omitted adds nothing; one that finds too few columns or leaves too many is the first at fault, so its verdict and span are the whole one's; any
-- other is taken on places.
use lib.ListN.{take}
use Rattle.foretell.specs.Steps.{sofar}
use Rattle.foretell.proofs.CheckSoFar.{Checking}
use Rattle.foretell.proofs.checked.Given as goal

abbrev pub invariant-loop-k : goal.invariant-loop-k
invariant-loop-k l = Checking l.direction (take l.n l.table.steps) l.k (sofar l.t l.run l.depths l.deepest l.adapts)
