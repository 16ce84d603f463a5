-- `is_lead`: `all` tests each word, as the definition does.
use mathlib.Core.Path.{◌∙◌}
use Rattle.std.proofs.Common.{rules, tests}
use Rattle.std.proofs.lemmas.Iterator.Splits.{YieldsList-from_slice_split}
use Rattle.std.proofs.lemmas.Iterator.Consumers.{YieldsList-from_filter}
use Rattle.std.proofs.lemmas.Iterator.Search.{all_from_yields_List}
use Rattle.rules.specs.Text.Bytes.{white}
use Rattle.rules.specs.Text.Split.{modifier}
use Rattle.text.proofs.RunEnd.{all-is}
use Rattle.text.proofs.Squeezed.{has_byte, words-is}
use Rattle.text.proofs.modifiers.is_lead.Goals as goal

pub returns : goal.returns
returns c =
    all_from_yields_List modifier _ _ _ c.all.ensures.ran
    (YieldsList-from_filter _ has_byte (YieldsList-from_slice_split _ white c.args.s.now (cc) (cc) (cc) (λ x b q k. search (rules, tests))) (cc) (λ x b q k. search (rules, tests)))
    (λ x b q k. search (rules, tests))
    ∙ rw (words-is c.args.s.now) (all-is modifier _)
