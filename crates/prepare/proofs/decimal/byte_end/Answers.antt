-- `byte_end`: the other bytes go up to the first of that kind, which `position` finds.
use Rattle.std.proofs.Common.{rules, tests}
use Rattle.std.proofs.lemmas.Iterator.{YieldsList-from_slice}
use Rattle.std.proofs.lemmas.Iterator.Search.{position_from_yields_List}
use lib.Dec.{eqb}
use Prim.Native.Nat.{ℕ}
use Rattle.text.proofs.Lead.{part-from}
use mathlib.Core.Bool.{not}
use Rattle.text.proofs.RunEnd.{other, place, run-is}
use Rattle.prepare.proofs.decimal.byte_end.Goals as goal

pub returns : goal.returns
returns c =
    let found = position_from_yields_List (other (λ (x : ℕ). not (eqb x c.args.b))) _ _ c.position-run.result c.position-run.ensures.ran (YieldsList-from_slice _ cc) (λ x b q k. search (rules, tests)) in
    run-is c.requires (rw (part-from c.args.s.now c.args.at) at (place (λ (x : ℕ). not (eqb x c.args.b)) _ found c.unwrap_or.ensures))
