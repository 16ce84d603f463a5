-- `flaw_of`: no step before the place is at fault, and as many stand before it as are counted (`Flawing`). So the first that is found is
-- the first faulty one.
use Rattle.std.proofs.Common.{◌≡◌}
use Rattle.proj_steps.specs.Plans.{said}
use Rattle.proj.proofs.Flaws.{Flawing}
use Rattle.proj.proofs.flaw_of.Given as goal

abbrev pub invariant-loop-place : goal.invariant-loop-place
invariant-loop-place l =
    (goal.iterator-loop-place).can_next l.place-iterator ×
    (goal.iterator-loop-place).is_finite l.place-iterator ×
    (l.place-iterator.b.text.now ≡ l.n) ×
    Flawing (said l.pipe) l.n l.place-iterator.b.at l.place-iterator.a.start
