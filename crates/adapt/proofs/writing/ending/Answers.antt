-- `ending`: radians have no ending, so nothing is written; each other angle has its own, which one test tells.
use Rattle.adapt.proofs.Spelt.{no-ending, deg-ending, gon-ending}
use Rattle.numbers.proofs.Listed.{put_written}
use Rattle.numbers.proofs.InTurn.{room_as, as_written, none_written}
use mathlib.Core.Path.{sym}
use Rattle.adapt.proofs.writing.ending.Goals as goal

pub returns-then-angle-eq0 : goal.returns-then-angle-eq0
returns-then-angle-eq0 c = as_written (no-ending c.if-angle-eq0.true) (none_written (room_as (sym (no-ending c.if-angle-eq0.true)) c.requires))

pub put-requires : goal.put-requires
put-requires c = (room_as (sym (deg-ending c.if-angle-eq1.true)) c.requires).fits

pub returns-then-angle-eq1 : goal.returns-then-angle-eq1
returns-then-angle-eq1 c =
    as_written (deg-ending c.if-angle-eq1.true) (put_written c.put.ensures)

pub put-requires-2 : goal.put-requires-2
put-requires-2 c =
    (room_as (sym (gon-ending _ c.if-angle-eq0.false c.if-angle-eq1.false)) c.requires).fits

pub returns : goal.returns
returns c =
    as_written (gon-ending _ c.if-angle-eq0.false c.if-angle-eq1.false) (put_written c.put-2.ensures)
