-- `translate`: 1 and 2 are refused as every text call refuses them; a text that is no PROJ text is handed out as it is; any other is as
-- `answer` promises, over buffers for its length.
use Rattle.std.specs.Prelude.{Err}
use borrow.Author.Rules.{rules}
use mathlib.Core.Path.{◌≡◌}
use Rattle.std.proofs.Common.{sym, ◌∙◌, arith}
use Rattle.laws_text.specs.Entry.{passed-short, passed-domain, writes-first}
use Rattle.proj.proofs.Laws.{unchanged-so}
use Rattle.proj.proofs.translate.Goals as goal

pub returns-in_err-tested : goal.returns-in_err-tested
returns-in_err-tested c =
    let e : c.from_residual.result ≡ Err c.in_err-tested.field-0.0 = search rules in
    rw e (writes-first c.tested.ensures c.in_err-tested.was)

pub returns-then-is_other : goal.returns-then-is_other
returns-then-is_other c =
    unchanged-so (passed-short c.tested.ensures c.in_ok-tested.was) (passed-domain c.tested.ensures c.in_ok-tested.was) (sym c.is_other.ensures ∙ c.if-is_other.true)
    c.hand_out.ensures

pub answer-requires-clause-text_value : goal.answer-requires-clause-text_value
answer-requires-clause-text_value c = passed-domain c.tested.ensures c.in_ok-tested.was

pub answer-requires-2-clause-text_len_bound : goal.answer-requires-2-clause-text_len_bound
answer-requires-2-clause-text_len_bound c = passed-short c.tested.ensures c.in_ok-tested.was

pub answer-requires-2-clause-text_value : goal.answer-requires-2-clause-text_value
answer-requires-2-clause-text_value c = passed-domain c.tested.ensures c.in_ok-tested.was

pub answer-requires-2-clause-room : goal.answer-requires-2-clause-room
answer-requires-2-clause-room c = omega (arith, passed-short c.tested.ensures c.in_ok-tested.was)
