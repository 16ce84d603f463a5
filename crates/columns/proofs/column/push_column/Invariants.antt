-- `push_column`: the first k numbers of the column are number i of their tuples (`Copied`).
use Rattle.rules.specs.Pipeline.Tuples.{tuples, column}
use Rattle.columns.proofs.OneNumber.{Copied}
use Rattle.columns.proofs.column.push_column.Given as goal

abbrev pub invariant-loop-k : goal.invariant-loop-k
invariant-loop-k l = Copied (column l.i (tuples l.xs)) l.initial.into l.into l.k
