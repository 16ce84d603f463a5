-- `add_short`: the bytes so far are written, and the others up to a comment are to come (`Shorting`).
use Rattle.normalise.proofs.Lined.{Shorting}
use Rattle.normalise.proofs.comments.add_short.Given as goal

abbrev pub invariant-loop-b : goal.invariant-loop-b
invariant-loop-b l = Shorting l.line l.initial.dst l.at l.b-index l.o l.dst
