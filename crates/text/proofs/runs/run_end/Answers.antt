-- `run_end`: the run goes up to the first byte that is not of the kind, which `position` finds.
use Rattle.std.proofs.Common.{rules, tests}
use Rattle.std.proofs.lemmas.Iterator.{YieldsList-from_slice}
use Rattle.std.proofs.lemmas.Iterator.Search.{position_from_yields_List}
use Rattle.text.specs.Runs.{is_of}
use Rattle.text.proofs.Wrote.{part-from}
use Rattle.text.proofs.RunEnd.{other, place, run-is}
use Rattle.text.proofs.runs.run_end.Goals as goal

pub returns : goal.returns
returns c =
    let found = position_from_yields_List (other (is_of c.args.kind)) _ _ c.position-run.result c.position-run.ensures.ran (YieldsList-from_slice _ cc) (λ x b q k. search (rules, tests)) in
    run-is c.requires (rw (part-from c.args.s.now c.args.at) at (place (is_of c.args.kind) _ found c.unwrap_or.ensures))
