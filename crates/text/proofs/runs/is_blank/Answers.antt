-- `is_blank`: `all` tests each byte, as the definition does.
use mathlib.Core.Path.{◌∙◌}
use Rattle.std.proofs.Common.{rules, tests}
use Rattle.std.proofs.lemmas.Iterator.{YieldsList-from_slice}
use Rattle.std.proofs.lemmas.Iterator.Search.{all_from_yields_List}
use Rattle.rules.specs.Text.Bytes.{white}
use Rattle.text.proofs.RunEnd.{all-is}
use Rattle.text.proofs.runs.is_blank.Goals as goal

pub returns : goal.returns
returns c =
    all_from_yields_List white _ _ _ c.all.ensures.ran (YieldsList-from_slice c.args.s.now cc) (λ x b q k. search (rules, tests)) ∙ all-is white c.args.s.now
