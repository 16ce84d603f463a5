-- The loop keeps what is written so far, and whether a line has begun (proofs/HeadedLines.antt). A turn passes a byte or begins a line,
-- so twice the bytes that are left, and one where no line has begun, is the measure.
use mathlib.Core.Bool.{cond}
use Prim.Native.Nat.{◌+◌, ◌*◌, ◌-◌}
use lib.ListN.{length}
use Rattle.show.proofs.HeadedLines.{Heading}
use Rattle.show.proofs.pieces.say_steps.Given as goal

abbrev pub invariant-loop-i : goal.invariant-loop-i
invariant-loop-i l = Heading l.lines l.initial.out l.at l.done l.begun l.i l.o l.out

abbrev pub decreases-loop-i : goal.decreases-loop-i
decreases-loop-i l = 2 * (length l.lines - l.i) + cond l.begun 0 1
