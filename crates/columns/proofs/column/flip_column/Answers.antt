use Rattle.std.proofs.Common.{arith, ap, ◌∙◌}
use lib.Ieee.{Float}
use Rattle.rules.specs.Operators.Numbers.{number, put}
use Rattle.rules.specs.Pipeline.Tuples.{tuples}
use Rattle.laws_steps.specs.Lengths.{tuples-length}
use Rattle.columns.proofs.EachTuple.{each_none, each_turn}
use Rattle.columns.proofs.OneNumber.{column-at, column-length, stored-end, not_yet, copied_none, copied_turn, copied-end}
use Rattle.columns.proofs.column.flip_column.Goals as goal

pub loop-k-init : goal.loop-k-init
loop-k-init c = (each_none _ _, copied_none _ _)

pub loop-k-preserved : goal.loop-k-preserved
loop-k-preserved c =
    let i = c.args.i in
    let k = c.loop-k.k in
    let same = not_yet c.loop-k.invariant.0 in
    let x = c.loop-k.invariant.1.rest k (omega arith) in (
      each_turn c.loop-k.invariant.0 (omega arith) c.get_coord-c.ensures (c.with_number.ensures ∙ ap (λ (z : Float). put i z c.get_coord-c.result) x) c.set_coord.auto.xs c.set_coord.ensures,
      copied_turn c.loop-k.invariant.1 (omega arith)
          (c.number_of.ensures ∙ ap (number i) (c.get_coord-c.ensures ∙ same) ∙ column-at i k (tuples c.args.xs.now) (omega (arith, tuples-length c.args.xs.now))),
    )

pub returns : goal.returns
returns c = record {
  tuples = stored-end c.args.i c.args.with.now c.loop-k.invariant.0 c.requires (omega arith);
  column = copied-end c.loop-k.invariant.1 (omega (arith, column-length c.args.i c.args.xs.now)) (omega arith);
}
