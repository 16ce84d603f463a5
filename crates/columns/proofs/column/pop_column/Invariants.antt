-- `pop_column`: the first k tuples have the column's numbers at i, the others are as they were (`Each`).
use Rattle.columns.proofs.EachTuple.{Each}
use Rattle.columns.proofs.OneNumber.{storing}
use Rattle.columns.proofs.column.pop_column.Given as goal

abbrev pub invariant-loop-k : goal.invariant-loop-k
invariant-loop-k l = Each (storing l.i l.from) l.initial.xs l.xs l.k
