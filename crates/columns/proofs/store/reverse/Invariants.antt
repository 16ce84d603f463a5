-- `reverse`: the k outermost columns on both sides stand where they belong, and those between as they were (`Reversing`).
use Rattle.std.proofs.Common.{◌+◌, ◌-◌}
use Rattle.columns.proofs.Reversals.{Reversing}
use Rattle.columns.proofs.store.reverse.Given as goal

abbrev pub invariant-loop-k : goal.invariant-loop-k
invariant-loop-k l = Reversing l.n l.from l.to l.initial.store l.store (l.from + l.k) (l.to - l.k)
