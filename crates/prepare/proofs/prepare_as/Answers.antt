-- `prepare_as`: what `prepare_in` leaves is the answer in the crate's reading; where it answers, its records are named for the reading, and a
-- refusal stays (`as-named`).
use mathlib.Core.Path.{◌∙◌}
use Rattle.prepare.proofs.InReading.{answers-named, refuses-named, counts-records}
use Rattle.prepare.proofs.prepare_as.Goals as goal

pub named-requires : goal.named-requires
named-requires c =
    counts-records c.args.reading _ _ _ c.prepare_in-p.ensures c.in-Ok.is

pub returns-in-Ok : goal.returns-in-Ok
returns-in-Ok c =
    answers-named c.args.reading _ _ _ c.prepare_in-p.ensures
    c.in-Ok.is c.named.ensures

pub returns-in-Err : goal.returns-in-Err
returns-in-Err c =
    (λ i. record { answer = c.in-Err.is i; table = c.prepare_in-p.result.table }) ∙ refuses-named c.args.reading _ _ _ c.prepare_in-p.ensures c.in-Err.is
