-- `judge_named`: the number that `lowest_of` finds is 11 to 14, so it refuses by one below 14, at the byte that it finds, and where it is 14 the
-- operator's own rule says the rest.
use mathlib.Core.Path.{refl}
use native.Mathlib.Omega.{arith}
use Rattle.parameters.specs.Tables.{text, table_in}
use Rattle.prepare.specs.Lookup.{placed_in}
use Rattle.prepare.specs.Faults.{unplaced}
use Rattle.prepare.proofs.EarliestFault.{given-in}
use Rattle.prepare.proofs.Judged.{lowest-most, judged-low, judged-own}
use Rattle.prepare.proofs.judge.judge_named.Goals as goal

pub returns-then-low-lt14 : goal.returns-then-low-lt14
returns-then-low-lt14 c = judged-low _ _ c.lowest_of-low.ensures _ c.if-low-lt14.true refl

pub own_rule-requires : goal.own_rule-requires
own_rule-requires c =
    let most = lowest-most c.args.name (unplaced (placed_in c.args.table.now)) in record { lowers = rw (given-in (text c.args.table.now) (table_in c.args.table.now)) at c.lowest_of-low.ensures.lowers; number_value = omega (arith, c.lowest_of-low.ensures.lowers.number, c.if-low-lt14.false, most) }

pub returns : goal.returns
returns c =
    judged-own _ _ c.lowest_of-low.ensures _ c.if-low-lt14.false (rw (given-in (text c.args.table.now) (table_in c.args.table.now)) c.own_rule.ensures)
