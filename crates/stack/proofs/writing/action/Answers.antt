-- `action`: each arm knows the operator's number, and the text that it writes is the name and the key that the rules have for that action.
use mathlib.Core.Path.{sym}
use Rattle.rules.specs.Text.Ascii.{ascii}
use Rattle.numbers.proofs.InTurn.{room_as, as_written}
use Rattle.numbers.proofs.Listed.{put_written}
use Rattle.stack.proofs.LastAction.{the_last}
use Rattle.stack.proofs.Texts.{text-push, text-pop, text-flip, text-roll, text-unroll, text-swap, text-drop}
use Rattle.stack.proofs.writing.action.Goals as goal

pub put-requires : goal.put-requires
unfolding ascii
put-requires c = (room_as (sym (text-push c.in-2.is)) c.requires.room).fits

pub put-requires-in-3 : goal.put-requires-in-3
unfolding ascii
put-requires-in-3 c = (room_as (sym (text-pop c.in-3.is)) c.requires.room).fits

pub put-requires-in-4 : goal.put-requires-in-4
unfolding ascii
put-requires-in-4 c = (room_as (sym (text-flip c.in-4.is)) c.requires.room).fits

pub put-requires-in-5 : goal.put-requires-in-5
unfolding ascii
put-requires-in-5 c = (room_as (sym (text-roll c.in-5.is)) c.requires.room).fits

pub put-requires-in-6 : goal.put-requires-in-6
unfolding ascii
put-requires-in-6 c = (room_as (sym (text-unroll c.in-6.is)) c.requires.room).fits

pub put-requires-in-7 : goal.put-requires-in-7
unfolding ascii
put-requires-in-7 c = (room_as (sym (text-swap c.in-7.is)) c.requires.room).fits

pub put-requires-in_default : goal.put-requires-in_default
unfolding ascii
put-requires-in_default c =
    (room_as
    (sym (text-drop (the_last _ c.requires.le_operator c.in_default.in_default-own.rest.0.0.0.0.0.1 c.in_default.in_default-own.rest.0.0.0.0.1 c.in_default.in_default-own.rest.0.0.0.1 c.in_default.in_default-own.rest.0.0.1
    c.in_default.in_default-own.rest.0.1 c.in_default.in_default-own.rest.1))) c.requires.room).fits

pub returns-in-2 : goal.returns-in-2
unfolding ascii
returns-in-2 c = as_written (text-push c.in-2.is) (put_written c.put.ensures)

pub returns-in-3 : goal.returns-in-3
unfolding ascii
returns-in-3 c =
    as_written (text-pop c.in-3.is) (put_written c.put-in-3.ensures)

pub returns-in-4 : goal.returns-in-4
unfolding ascii
returns-in-4 c =
    as_written (text-flip c.in-4.is) (put_written c.put-in-4.ensures)

pub returns-in-5 : goal.returns-in-5
unfolding ascii
returns-in-5 c =
    as_written (text-roll c.in-5.is) (put_written c.put-in-5.ensures)

pub returns-in-6 : goal.returns-in-6
unfolding ascii
returns-in-6 c =
    as_written (text-unroll c.in-6.is) (put_written c.put-in-6.ensures)

pub returns-in-7 : goal.returns-in-7
unfolding ascii
returns-in-7 c =
    as_written (text-swap c.in-7.is) (put_written c.put-in-7.ensures)

pub returns-in_default : goal.returns-in_default
unfolding ascii
returns-in_default c =
    as_written
    (text-drop (the_last _ c.requires.le_operator c.in_default.in_default-own.rest.0.0.0.0.0.1 c.in_default.in_default-own.rest.0.0.0.0.1 c.in_default.in_default-own.rest.0.0.0.1 c.in_default.in_default-own.rest.0.0.1
    c.in_default.in_default-own.rest.0.1 c.in_default.in_default-own.rest.1)) (put_written c.put-in_default.ensures)
