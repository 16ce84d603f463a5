-- `letters`: the letters of the first i axes are written, those from i on are to come (`Going`).
use Rattle.numbers.proofs.EachInTurn.{Going}
use Rattle.adapt.specs.Text.{lettered}
use Rattle.rules.specs.Operators.Adapt.{letter}
use mathlib.Core.List.{map}
use Rattle.adapt.proofs.writing.letters.Given as goal

abbrev pub invariant-loop-x : goal.invariant-loop-x
invariant-loop-x l = Going lettered (map letter l.l) l.l l.initial.out l.o l.x-index l.e l.out
