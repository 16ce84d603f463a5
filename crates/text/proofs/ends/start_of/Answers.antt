-- `start_of`: the first byte that stays, which `position` finds.
use Rattle.std.proofs.Common.{rules, tests}
use Rattle.std.proofs.lemmas.Iterator.{YieldsList-from_slice}
use Rattle.std.proofs.lemmas.Iterator.Search.{position_from_yields_List}
use Rattle.text.specs.Places.{cut_by}
use Rattle.text.proofs.RunEnd.{other, place}
use Rattle.text.proofs.Trimmed.{start-is}
use Rattle.text.proofs.ends.start_of.Goals as goal

pub returns : goal.returns
returns c =
    let found = position_from_yields_List (other (cut_by c.args.e)) _ _ c.position.result c.position.ensures.ran (YieldsList-from_slice c.args.s.now cc) (λ x b q k. search (rules, tests)) in
    start-is (place (cut_by c.args.e) c.args.s.now found c.unwrap_or.ensures)
