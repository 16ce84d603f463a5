-- `flip_column`: number i of the first k tuples and the first k numbers of the column are exchanged, and all others are as they were.
use Rattle.rules.specs.Pipeline.Tuples.{tuples, column}
use Rattle.columns.proofs.EachTuple.{Each}
use Rattle.columns.proofs.OneNumber.{Copied, storing}
use Rattle.columns.proofs.column.flip_column.Given as goal

abbrev pub invariant-loop-k : goal.invariant-loop-k
invariant-loop-k l = Each (storing l.i l.initial.with) l.initial.xs l.xs l.k × Copied (column l.i (tuples l.initial.xs)) l.initial.with l.with l.k
