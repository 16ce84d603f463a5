-- `end_of`: the last byte that stays, which `position` finds from the end back.
use mathlib.Core.List.{reverse}
use Rattle.std.proofs.Common.{rules, tests}
use Rattle.std.proofs.lemmas.List.{length-reverse}
use Rattle.std.proofs.lemmas.Iterator.Adapters.{YieldsList-from_rev_slice}
use Rattle.std.proofs.lemmas.Iterator.Search.{position_from_yields_List}
use Rattle.text.specs.Places.{cut_by}
use Rattle.text.proofs.RunEnd.{other, place}
use Rattle.text.proofs.Trimmed.{end-is}
use Rattle.text.proofs.ends.end_of.Goals as goal

pub returns : goal.returns
returns c =
    let found =
    position_from_yields_List (other (cut_by c.args.e)) _ _ c.position-cut.result c.position-cut.ensures.ran
    (YieldsList-from_rev_slice c.args.s.now cc) (λ x b q k. search (rules, tests)) in
    end-is (place (cut_by c.args.e) (reverse c.args.s.now) found (simp length-reverse c.unwrap_or.ensures))
