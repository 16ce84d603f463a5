-- What has been read after some of the pieces.
use Rattle.prepare.proofs.SeriesPieces.{Reading}
use Prim.Native.Nat.{◌+◌, ◌-◌}
use lib.ListN.{length}
use Rattle.prepare.proofs.series.series.Given as goal

abbrev pub invariant-loop-at : goal.invariant-loop-at
invariant-loop-at l = Reading l.value l.list l.whole l.n l.at

abbrev pub decreases-loop-at : goal.decreases-loop-at
decreases-loop-at l = length l.value + 1 - l.at
