-- `parameters`: 1 and 2 are refused as every text call refuses them; any other text is as `within` promises, by its length.
use Rattle.std.specs.Prelude.{Err}
use borrow.Author.Rules.{rules}
use mathlib.Core.Path.{◌≡◌}
use Prim.Native.Nat.{◌≤◌}
use native.Mathlib.Omega.{arith}
use lib.ListN.{length}
use Rattle.laws_text.specs.Entry.{passed-short, passed-domain, writes-first}
use Rattle.parameters.proofs.parameters.Goals as goal

pub returns-in_err-tested : goal.returns-in_err-tested
returns-in_err-tested c =
    let e : c.from_residual.result ≡ Err c.in_err-tested.field-0.0 = search rules in
    rw e (writes-first c.tested.ensures c.in_err-tested.was)

pub within-requires-clause-text_value : goal.within-requires-clause-text_value
within-requires-clause-text_value c = passed-domain c.tested.ensures c.in_ok-tested.was

pub within-requires-2 : goal.within-requires-2
within-requires-2 c =
    let few : length c.args.text.now ≤ 4096 = passed-short c.tested.ensures c.in_ok-tested.was in record {
      text_len_bound = few;
      text_value = passed-domain c.tested.ensures c.in_ok-tested.was;
      text_in_bounds = omega (arith, few);
      few = omega arith;
    }
