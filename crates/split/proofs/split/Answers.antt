-- `split`: 1 and 2 are refused as every text call refuses them; any other text is as `answer` promises, over buffers that its length asks for.
use Rattle.std.specs.Prelude.{Err}
use borrow.Author.Rules.{rules}
use mathlib.Core.Path.{◌≡◌}
use native.Mathlib.Omega.{arith}
use Rattle.laws_text.specs.Entry.{passed-short, passed-domain, writes-first}
use Rattle.split.proofs.split.Goals as goal

pub returns-in_err-tested : goal.returns-in_err-tested
returns-in_err-tested c =
    let e : c.from_residual.result ≡ Err c.in_err-tested.field-0.0 = search rules in
    rw e (writes-first c.tested.ensures c.in_err-tested.was)

pub answer-requires-clause-text_value : goal.answer-requires-clause-text_value
answer-requires-clause-text_value c = passed-domain c.tested.ensures c.in_ok-tested.was

pub answer-requires-2 : goal.answer-requires-2
answer-requires-2 c =
    let short = passed-short c.tested.ensures c.in_ok-tested.was in
    record {
      text_len_bound = short;
      text_value = passed-domain c.tested.ensures c.in_ok-tested.was;
      room = omega arith;
      most = omega arith;
    }
