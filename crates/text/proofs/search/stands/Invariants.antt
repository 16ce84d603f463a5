-- `stands`: `front` stands nowhere from `from` up to j, or it is said that it may (`Sought`).
use Rattle.text.specs.Places.{Sought}
use Rattle.text.proofs.search.stands.Given as goal

abbrev pub invariant-loop-j : goal.invariant-loop-j
invariant-loop-j g l = Sought l.src l.from l.front l.j l.found
