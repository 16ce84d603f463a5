use Rattle.std.proofs.Common.{rules, false, get_or, pos, SFits, w32, to_z-of_z}
use Rattle.rules.specs.Operators.Arguments.{is_place}
use Rattle.numbers.proofs.Listed.{all-at}
use Rattle.numbers.proofs.EachInTurn.{going_start, going-room, going-turn, going_end}
use Rattle.pushpop.specs.Flags.{flagged}
use Rattle.pushpop.proofs.Words.{flags-rest}
use Rattle.pushpop.proofs.writing.flags.Goals as goal

pub loop-x-init : goal.loop-x-init
loop-x-init c = going_start flagged _ (flags-rest false _) c.requires.room

pub flag-e-requires : goal.flag-e-requires
unfolding flagged
flag-e-requires c =
    let f : SFits w32 (get_or c.args.l.now c.loop-x.x-index (pos 0)) = search rules in
    let p = all-at is_place _ _ (pos 0) c.loop-x-test.true c.requires.l_value in
    rw (to_z-of_z f) (record { x_value = p; room = going-room c.loop-x.invariant (pos 0) c.loop-x-test.true })

pub loop-x-preserved : goal.loop-x-preserved
unfolding flagged
loop-x-preserved c =
    let f : SFits w32 (get_or c.args.l.now c.loop-x.x-index (pos 0)) = search rules in
    going-turn c.loop-x.invariant (pos 0) c.loop-x-test.true (simp (to_z-of_z f) at c.flag-e.ensures)

pub returns : goal.returns
returns c = going_end c.loop-x.invariant c.loop-x-test.false
