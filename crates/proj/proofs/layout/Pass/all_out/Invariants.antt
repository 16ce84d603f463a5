-- `all_out`: what is put so far, and what the steps that are left still give, are what all give (`Laying`). A step that is written is put,
-- and another is passed over.
use Rattle.std.proofs.Common.{◌≡◌}
use Rattle.proj.specs.Places.{number_of, writes, backs, total_of}
use Rattle.proj.proofs.Laid.{Laying}
use Rattle.proj.proofs.layout.Pass.all_out.Given as goal

abbrev pub invariant-loop-step : goal.invariant-loop-step
invariant-loop-step l =
    (goal.iterator-loop-step).can_next l.step-iterator ×
    (goal.iterator-loop-step).is_finite l.step-iterator ×
    (l.step-iterator.text.now ≡ l.n) ×
    Laying l.n l.pipe.globals.now l.pipe.inverted (writes l.self) (backs l.self) (total_of l.self) l.initial.out l.put.o (number_of l.put.last) l.step-iterator.at l.out
