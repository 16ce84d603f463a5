-- `squeeze_into`: what is left to write is told by the place, by whether a space is owed, and by the bytes from `b` on (`Squeezing`).
use Rattle.text.proofs.Squeezed.{Squeezing}
use Rattle.text.proofs.white.squeeze_into.Given as goal

abbrev pub invariant-loop-b : goal.invariant-loop-b
invariant-loop-b l = Squeezing l.src l.initial.dst l.b-index l.o l.owed l.dst
