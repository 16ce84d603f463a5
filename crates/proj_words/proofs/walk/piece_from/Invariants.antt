-- `piece_from`: no word from k up to `at` is `step`, and a word ends there (`Piecing`). So the piece ends before the next `step`, or with
-- the text. Each turn passes a word, and what is left of the text is the measure.
use Prim.Native.Nat.{◌-◌}
use lib.ListN.{length}
use Rattle.proj_words.proofs.Pieces.{Piecing}
use Rattle.proj_words.proofs.walk.piece_from.Given as goal

abbrev pub invariant-loop-word : goal.invariant-loop-word
invariant-loop-word l = Piecing l.n l.k l.at

abbrev pub decreases-loop-word : goal.decreases-loop-word
decreases-loop-word l = length l.n - l.at
