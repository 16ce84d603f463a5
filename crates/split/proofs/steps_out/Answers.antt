-- `steps_out`: `lines_of` leaves splitting's reply in b (`Lined`). A refusal is returned as it is, and out is untouched; an answer is handed
-- out from b, which refuses 7.
use mathlib.Core.Path.{◌≡◌}
use borrow.Author.Rules.{rules}
use Rattle.std.specs.Prelude.{Err}
use Rattle.split.proofs.Laws.{out-refused}
use Rattle.split.proofs.steps_out.Goals as goal

pub returns-in_err-m : goal.returns-in_err-m
returns-in_err-m c =
    let e : c.from_residual.result ≡ Err c.in_err-m.field-0.0 = search rules in
    rw e (out-refused c.lines_of.ensures c.in_err-m.was)
