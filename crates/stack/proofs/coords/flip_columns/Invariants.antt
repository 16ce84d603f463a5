-- `flip_columns`: the first j places and the top j columns are exchanged, the others are as they were (`Flipping`).
use Rattle.stack.proofs.Flipped.{Flipping}
use Rattle.rules.specs.Pipeline.Tuples.{tuples}
use lib.ListN.{length}
use mathlib.Core.Path.{◌≡◌}
use Rattle.stack.proofs.coords.flip_columns.Given as goal

abbrev pub invariant-loop-j : goal.invariant-loop-j
invariant-loop-j l = Flipping l.n l.depth l.args (tuples l.initial.xs) l.initial.store (tuples l.xs) l.store l.j × (length l.xs ≡ length l.initial.xs)
