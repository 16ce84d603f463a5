-- `words`: each arm knows which operators it has, and there the words are those that the operator's own call writes.
use mathlib.Core.Path.{sym}
use Prim.Native.Nat.{◌<◌}
use native.Mathlib.Omega.{arith}
use Rattle.numbers.proofs.InTurn.{room_as, as_written}
use Rattle.write.proofs.OperatorTexts.{flags-rule, order-text, documented-rule, documented-text, adapt-rule, adapt-text}
use Rattle.write.proofs.words.words.Goals as goal

pub write_words-requires : goal.write_words-requires
write_words-requires c = room_as (sym (order-text _ c.in-9.is)) c.requires.room

pub write_documented-requires : goal.write_documented-requires
write_documented-requires c = record { l_value = documented-rule _ c.in-11.is c.requires.l_value; room = room_as (sym (documented-text _ c.in-11.is)) c.requires.room }

pub write_words-requires-in-0 : goal.write_words-requires-in-0
write_words-requires-in-0 c = record { operator_bound = omega arith; l_value = flags-rule _ _ (omega arith) c.requires.l_value; room = c.requires.room }

pub write_words-requires-in_default : goal.write_words-requires-in_default
write_words-requires-in_default c =
    let over : 8 < c.args.operator = omega arith in record { l_value = adapt-rule _ _ over c.in_default.in_default-own.rest.0.1 c.in_default.in_default-own.rest.1 c.requires.l_value; room = room_as (sym (adapt-text _ _ over c.in_default.in_default-own.rest.0.1 c.in_default.in_default-own.rest.1)) c.requires.room }

pub returns-in-9 : goal.returns-in-9
returns-in-9 c = as_written (order-text _ c.in-9.is) c.write_words.ensures

pub returns-in-11 : goal.returns-in-11
returns-in-11 c = as_written (documented-text _ c.in-11.is) c.write_documented.ensures

pub returns-in_default : goal.returns-in_default
returns-in_default c =
    as_written (adapt-text _ _ (omega arith) c.in_default.in_default-own.rest.0.1 c.in_default.in_default-own.rest.1) c.write_words-in_default.ensures
