use mathlib.Core.Path.{◌≡◌}
use Rattle.write.proofs.TableText.{rows-rest, row_room, row-turn, rows_end}
use Rattle.numbers.proofs.EachInTurn.{going_start, going-length, going_end}
use Rattle.write.specs.Parts.{parted}
use Rattle.record.proofs.SoundTable.{sound-so}
use lib.ListN.{length}
use native.Mathlib.Omega.{arith}
use borrow.Author.Rules.{rules}
use Rattle.write.proofs.steps.Goals as goal

pub loop-i-init : goal.loop-i-init
loop-i-init c =
    let snd = sound-so c.args.table (let e : length c.args.table.steps ≡ 64 = search rules in e) c.requires.table_value in
    (snd, going_start parted _ (rows-rest snd) c.requires.room)

pub offset_bounds-table-i : goal.offset_bounds-table-i
offset_bounds-table-i c = omega (arith, c.loop-i.invariant.0.few, c.loop-i-test.true)

pub bounds-table-i : goal.bounds-table-i
bounds-table-i c = omega (arith, c.loop-i.invariant.0.few, c.loop-i-test.true)

pub parted-e-requires : goal.parted-e-requires
parted-e-requires c = record { s_value = c.loop-i.invariant.0.each _ _ c.loop-i-test.true; room = row_room c.loop-i.invariant.0 c.loop-i.invariant.1 c.loop-i-test.true _ }

pub loop-i-preserved : goal.loop-i-preserved
loop-i-preserved c =
    (c.loop-i.invariant.0, row-turn c.loop-i.invariant.0 c.loop-i.invariant.1 c.loop-i-test.true _ c.parted-e.ensures)

pub shape_of-out : goal.shape_of-out
shape_of-out c = going-length c.loop-i.invariant.1

pub returns : goal.returns
returns c = going_end c.loop-i.invariant.1 (rows_end c.loop-i.invariant.0 c.loop-i-test.false)
