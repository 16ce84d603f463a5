-- `flags`: the flags of the first axes are written, the others are to come (`Going`).
use Rattle.numbers.proofs.EachInTurn.{Going}
use Rattle.pushpop.specs.Flags.{flagged}
use Rattle.rules.specs.Operators.PushPop.{flag_of}
use Rattle.rules.specs.Text.Bytes.{after_each}
use mathlib.Core.List.{[], ◌∷◌, map}
use Rattle.pushpop.proofs.writing.flags.Given as goal

abbrev pub invariant-loop-x : goal.invariant-loop-x
invariant-loop-x l = Going flagged (after_each (32 ∷ []) (map flag_of l.l)) l.l l.initial.out l.o l.x-index l.e l.out
