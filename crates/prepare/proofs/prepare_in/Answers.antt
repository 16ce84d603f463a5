-- `prepare_in`: 1 and 2 are refused as every text call refuses them; any other text is as `within` promises, by its length.
use Prim.Native.Nat.{◌≤◌}
use native.Mathlib.Omega.{arith}
use lib.ListN.{length}
use borrow.Author.Rules.{rules}
use Rattle.laws_text.specs.Entry.{passed-short, passed-domain}
use Rattle.prepare.proofs.TextReply.{prepare-first}
use Rattle.prepare.proofs.prepare_in.Goals as goal

pub returns-in-Err : goal.returns-in-Err
returns-in-Err c = prepare-first _ _ _ c.tested.ensures c.in-Err.is

pub within-requires-clause-text_value : goal.within-requires-clause-text_value
within-requires-clause-text_value c = passed-domain c.tested.ensures c.in_default.is

pub within-requires-then-text-le-SOME-clause-text_value :
    goal.within-requires-then-text-le-SOME-clause-text_value
within-requires-then-text-le-SOME-clause-text_value c = passed-domain c.tested.ensures c.in_default.is

pub within-requires-then-text-le-MORE-clause-text_value :
    goal.within-requires-then-text-le-MORE-clause-text_value
within-requires-then-text-le-MORE-clause-text_value c = passed-domain c.tested.ensures c.in_default.is

pub within-requires-2 : goal.within-requires-2
within-requires-2 c =
    let short : length c.args.text.now ≤ 4096 = passed-short c.tested.ensures c.in_default.is in
    record {
      text_len_bound = short;
      text_value = passed-domain c.tested.ensures c.in_default.is;
      steps_len = search rules;
      text_in_bounds = omega (arith, short);
      text_in_bounds_2 = omega (arith, short);
      few = (omega arith, omega arith);
    }
