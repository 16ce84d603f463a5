use Rattle.std.proofs.Common.{rules, SFits, w32, get_or, pos, to_z-of_z}
use Rattle.numbers.proofs.Listed.{listing-rest}
use Rattle.numbers.proofs.EachInTurn.{going_start, going-room, going-turn, going_end}
use Rattle.numbers.specs.Parts.{numbered}
use Rattle.numbers.proofs.lists.put_list.Goals as goal

pub loop-i-init : goal.loop-i-init
loop-i-init c = going_start numbered _ (listing-rest _) c.requires

pub put_next-e-requires : goal.put_next-e-requires
put_next-e-requires c =
    let f : SFits w32 (get_or c.args.l.now c.loop-i.i (pos 0)) = search rules in
    rw (to_z-of_z f) (going-room c.loop-i.invariant (pos 0) c.loop-i-test.true)

pub loop-i-preserved : goal.loop-i-preserved
loop-i-preserved c =
    let f : SFits w32 (get_or c.args.l.now c.loop-i.i (pos 0)) = search rules in
    going-turn c.loop-i.invariant (pos 0) c.loop-i-test.true (simp (to_z-of_z f) at c.put_next-e.ensures)

pub returns : goal.returns
returns c = going_end c.loop-i.invariant c.loop-i-test.false
