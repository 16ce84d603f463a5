use Rattle.std.proofs.Common.{arith, ap, ◌∙◌}
use Rattle.rules.specs.Operators.Numbers.{number}
use Rattle.rules.specs.Pipeline.Tuples.{tuples}
use Rattle.laws_steps.specs.Lengths.{tuples-length}
use Rattle.columns.proofs.OneNumber.{column-at, column-length, copied_turn, copied-end}
use Rattle.columns.proofs.column.push_column.Goals as goal

pub loop-k-preserved : goal.loop-k-preserved
loop-k-preserved c =
    let ts = tuples c.args.xs.now in
    copied_turn c.loop-k.invariant (omega arith) (c.number_of.ensures ∙ ap (number c.args.i) c.get_coord.ensures ∙ column-at c.args.i c.loop-k.k ts (omega (arith, tuples-length c.args.xs.now)))

pub returns : goal.returns
returns c = copied-end c.loop-k.invariant (omega (arith, column-length c.args.i c.args.xs.now)) (omega arith)
