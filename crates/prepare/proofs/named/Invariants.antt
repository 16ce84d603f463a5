-- `named`: the first i records are in the reading, the others as they were; the next one joins them.
use mathlib.Core.Path.{◌≡◌}
use Rattle.prepare.specs.Lent.{first_named}
use Rattle.prepare.proofs.named.Given as goal

abbrev pub invariant-loop-i : goal.invariant-loop-i
invariant-loop-i l = l.steps ≡ first_named l.reading l.i l.initial.steps
