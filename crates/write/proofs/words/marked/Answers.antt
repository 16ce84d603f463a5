-- `marked`: a mark that is set is its word, and one that is not is no text at all.
use Rattle.write.proofs.Marks.{mark_set, mark-not}
use Rattle.numbers.proofs.Listed.{put_written}
use Rattle.numbers.proofs.InTurn.{room_as, as_written, none_written}
use mathlib.Core.Path.{sym}
use Rattle.write.proofs.words.marked.Goals as goal

pub put-requires : goal.put-requires
put-requires c = (room_as (sym (mark_set c.if-mark-eq1.true)) c.requires).fits

pub returns-then-mark-eq1 : goal.returns-then-mark-eq1
returns-then-mark-eq1 c = as_written (mark_set c.if-mark-eq1.true) (put_written c.put.ensures)

pub returns : goal.returns
returns c =
    as_written (mark-not _ c.if-mark-eq1.false) (none_written (room_as (sym (mark-not _ c.if-mark-eq1.false)) c.requires))
