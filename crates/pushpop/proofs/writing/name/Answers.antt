-- `name`: the two operators are told apart by one test of the number, and each has its own name.
use mathlib.Core.Path.{sym}
use Rattle.rules.specs.Text.Ascii.{ascii}
use Rattle.numbers.proofs.InTurn.{room_as, as_written}
use Rattle.numbers.proofs.Listed.{put_written}
use Rattle.pushpop.proofs.Words.{push-name, pop-name}
use Rattle.pushpop.proofs.writing.name.Goals as goal

pub put-requires : goal.put-requires
unfolding ascii
put-requires c = (room_as (sym (push-name c.if-operator-eq-PUSH.true)) c.requires.room).fits

pub returns-then-operator-eq-PUSH : goal.returns-then-operator-eq-PUSH
unfolding ascii
returns-then-operator-eq-PUSH c = as_written (push-name c.if-operator-eq-PUSH.true) (put_written c.put.ensures)

pub put-requires-else-operator-eq-PUSH : goal.put-requires-else-operator-eq-PUSH
unfolding ascii
put-requires-else-operator-eq-PUSH c =
    (room_as (sym (pop-name _ c.requires.operator_bound c.if-operator-eq-PUSH.false)) c.requires.room).fits

pub returns-else-operator-eq-PUSH : goal.returns-else-operator-eq-PUSH
unfolding ascii
returns-else-operator-eq-PUSH c =
    as_written (pop-name _ c.requires.operator_bound c.if-operator-eq-PUSH.false) (put_written c.put-else-operator-eq-PUSH.ensures)
