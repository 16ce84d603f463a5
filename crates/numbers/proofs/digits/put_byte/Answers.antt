-- `put_byte`: a text of one byte has room where o is a place of the buffer, and to set that byte is to write it (`byte-written`).
use Rattle.numbers.proofs.InTurn.{byte-written}
use Rattle.numbers.proofs.digits.put_byte.Goals as goal

pub returns : goal.returns
returns c = byte-written c.requires
