-- `act_of`: each arm knows its direction, and what the action does there is what `forward` or `inverse` ensures.
use Rattle.rules.specs.Pipeline.Running.{act_of}
use Rattle.stack.proofs.acts.act_of.Goals as goal

pub returns-in-Forward : goal.returns-in-Forward
unfolding act_of
returns-in-Forward c = rw c.in-Forward.is c.forward.ensures

pub returns-in-Inverse : goal.returns-in-Inverse
unfolding act_of
returns-in-Inverse c = rw c.in-Inverse.is c.inverse.ensures
