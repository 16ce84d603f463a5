use Rattle.std.proofs.Common.{◌∙◌}
use Rattle.rules.specs.Pipeline.Tuples.{tuples}
use Rattle.columns.proofs.EachTuple.{each_none, each_turn, each-end}
use Rattle.columns.proofs.Firsts.{each_map}
use Rattle.columns.proofs.column.each_coord.Goals as goal

pub loop-k-init : goal.loop-k-init
loop-k-init g c = λ h p. each_none _ _

pub loop-k-preserved : goal.loop-k-preserved
loop-k-preserved g c = λ h p. each_turn (c.loop-k.invariant h p) c.loop-k-test.true c.get_coord-c.ensures (p _ _ c.f.ensures) c.set_coord.auto.xs c.set_coord.ensures

pub returns : goal.returns
returns g c = λ h p. each-end (c.loop-k.invariant h p) c.loop-k-test.false ∙ each_map 0 h (tuples c.args.xs.now)
