-- `act_of`: of the two operators one pushes forward and the other inverse, so one test of the operator's number settles each direction.
use Rattle.columns.proofs.DoesSo.{does-as}
use Rattle.pushpop.proofs.Directions.{forward-so, inverse-so}
use Rattle.pushpop.proofs.acts.act_of.Goals as goal

pub returns-in-Forward : goal.returns-in-Forward
returns-in-Forward c = rw c.in-Forward.is (does-as (forward-so _ _ c.requires.operator_bound) c.act.ensures)

pub returns-in-Inverse : goal.returns-in-Inverse
returns-in-Inverse c = rw c.in-Inverse.is (does-as (inverse-so _ _ c.requires.operator_bound) c.act-in-Inverse.ensures)
