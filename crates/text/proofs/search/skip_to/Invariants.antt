-- `skip_to`: `front` begins nowhere from `from` up to i (`Passed`). A turn passes sixteen places, so what is left of src is the measure.
use Prim.Native.Nat.{◌-◌}
use lib.ListN.{length}
use Rattle.text.specs.Places.{Passed}
use Rattle.text.proofs.search.skip_to.Given as goal

abbrev pub invariant-loop-i : goal.invariant-loop-i
invariant-loop-i g l = Passed l.src l.from l.front l.i

abbrev pub decreases-loop-i : goal.decreases-loop-i
decreases-loop-i g l = length l.src - l.i
