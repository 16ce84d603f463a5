-- `put_list`: the numbers before i are written, each but the first after a comma, and those from i on are to come (`Going`).
use Rattle.numbers.proofs.EachInTurn.{Going}
use Rattle.numbers.specs.Parts.{numbered}
use Rattle.rules.specs.Operators.Arguments.{listing}
use Rattle.numbers.proofs.lists.put_list.Given as goal

abbrev pub invariant-loop-i : goal.invariant-loop-i
invariant-loop-i l = Going numbered (listing l.l) l.l l.initial.out l.o l.i l.e l.out
