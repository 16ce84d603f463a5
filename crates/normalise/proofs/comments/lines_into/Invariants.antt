-- `lines_into`: the lines so far are written, and the others are to come (`Lining`).
use lib.ListN.{length}
use Rattle.normalise.proofs.Lined.{Lining}
use Rattle.normalise.proofs.comments.lines_into.Given as goal

abbrev pub invariant-loop-line : goal.invariant-loop-line
invariant-loop-line l = Lining l.src l.initial.dst (length l.yielded) l.o l.dst
