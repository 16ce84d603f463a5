-- `pop`: popping what is left of the places out of what the columns still hold gives what popping all of them gives. A turn pops one more,
-- or there is no column and the step stops at a NaN.
use Rattle.rules.specs.Operators.Arguments.{places}
use Rattle.pushpop.proofs.Popped.{pops_left}
use Rattle.columns.specs.Stores.{columns_of}
use Rattle.rules.specs.Pipeline.Tuples.{tuples, drained}
use lib.ListN.{length}
use mathlib.Core.Path.{◌≡◌}
use Rattle.pushpop.proofs.coords.pop.Given as goal

abbrev pub invariant-loop-j : goal.invariant-loop-j
invariant-loop-j l = (pops_left l.n l.depth l.args (tuples l.xs) l.store l.j ≡ drained (places l.args) (tuples l.initial.xs) (columns_of l.n l.depth l.store)) × (length l.xs ≡ length l.initial.xs)
