-- `signless_into`: the text in front of `rest` is written with its signs gone, and what is left is told by `rest` (`Signing`). A turn
-- passes a gap and the `+` behind it, or one byte, so what is left of the text is the measure.
use Rattle.std.proofs.Common.{length}
use Rattle.proj_words.proofs.Signs.{Signing}
use Rattle.proj_words.proofs.clean.signless_into.Given as goal

abbrev pub invariant-loop-b : goal.invariant-loop-b
invariant-loop-b l = Signing l.src l.initial.dst l.rest l.o l.dst

abbrev pub decreases-loop-b : goal.decreases-loop-b
decreases-loop-b l = length l.rest
