-- `each_coord`: where each call of f gives what h says, h has changed the first k tuples (`Each`).
use Rattle.std.proofs.Common.{◌≡◌}
use Rattle.rules.specs.declared.Coord.{Coord}
use Rattle.columns.proofs.EachTuple.{Each}
use Rattle.columns.proofs.column.each_coord.Given as goal

abbrev pub invariant-loop-k : goal.invariant-loop-k
invariant-loop-k g l = (h : Coord → Coord) → ((c r : Coord) → goal.F-post g l.f c r → r ≡ h c) → Each (λ _. h) l.initial.xs l.xs l.k
