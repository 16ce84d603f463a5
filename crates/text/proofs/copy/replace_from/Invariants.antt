-- `replace_from`: src up to i is written with its replacements, and the next `old` stands at k (`Replacing`). A turn copies the part up to
-- k, writes `new`, and has `find` foretell the next k. What is left of src from i on is the measure.
use Prim.Native.Nat.{◌-◌}
use lib.ListN.{length}
use Rattle.text.proofs.Replaced.{Replacing}
use Rattle.text.proofs.copy.replace_from.Given as goal

abbrev pub invariant-loop-k : goal.invariant-loop-k
invariant-loop-k l = Replacing l.src l.old l.new l.initial.dst l.i l.o l.k l.dst

abbrev pub decreases-loop-k : goal.decreases-loop-k
decreases-loop-k l = length l.src - l.i
