-- `roll_places`: the first of the top m go behind the others. What full turns n has does not matter (`rolls-all`).
use Rattle.std.proofs.Common.{arith}
use Rattle.stack.proofs.TracedRoll.{rolls-all}
use Rattle.stack.proofs.places.roll_places.Goals as goal

pub returns : goal.returns
returns c = rolls-all c.requires.whole c.requires.m_bound c.turns.ensures (omega arith) c.turn_into.ensures
