use Rattle.std.proofs.Common.{rules, false, get_or, pos, SFits, w32, to_z-of_z}
use Rattle.numbers.specs.Axes.{is_axis}
use Rattle.numbers.proofs.Listed.{all-at}
use Rattle.numbers.proofs.EachInTurn.{going_start, going-room, going-turn, going_end}
use Rattle.adapt.specs.Text.{lettered}
use Rattle.adapt.proofs.Spelt.{letters-rest}
use Rattle.adapt.proofs.writing.letters.Goals as goal

pub loop-x-init : goal.loop-x-init
loop-x-init c = going_start lettered _ (letters-rest false _) c.requires.room

pub letter-requires : goal.letter-requires
letter-requires c =
    let f : SFits w32 (get_or c.args.l.now c.loop-x.x-index (pos 0)) = search rules in
    rw (to_z-of_z f) (all-at is_axis _ _ (pos 0) c.loop-x-test.true c.requires.l_value)

pub put_byte-e-requires : goal.put_byte-e-requires
unfolding lettered
put_byte-e-requires c =
    let f : SFits w32 (get_or c.args.l.now c.loop-x.x-index (pos 0)) = search rules in
    rw (simp (to_z-of_z f) at c.letter.ensures) (going-room c.loop-x.invariant (pos 0) c.loop-x-test.true)

pub loop-x-preserved : goal.loop-x-preserved
unfolding lettered
loop-x-preserved c =
    let f : SFits w32 (get_or c.args.l.now c.loop-x.x-index (pos 0)) = search rules in
    let e = simp (to_z-of_z f) at c.letter.ensures in
    going-turn c.loop-x.invariant (pos 0) c.loop-x-test.true (rw e at c.put_byte-e.ensures)

pub returns : goal.returns
returns c = going_end c.loop-x.invariant c.loop-x-test.false
