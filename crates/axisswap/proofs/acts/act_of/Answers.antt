-- `act_of`: forward the act orders, inverse it orders back, with the same arguments.
use Rattle.std.proofs.Common.{refl}
use Rattle.rules.specs.Operators.Table.{forward, inverse}
use Rattle.rules.specs.Pipeline.Running.{act_of}
use Rattle.columns.specs.Doings.{does, doing, able}
use Rattle.axisswap.proofs.acts.act_of.Goals as goal

pub returns-in-Inverse : goal.returns-in-Inverse
unfolding act_of inverse doing does able
returns-in-Inverse c = rw c.in-Inverse.is (record { same = refl; slots = c.requires.n_bound; rule = c.requires.args_value })

pub returns-in_default : goal.returns-in_default
unfolding act_of forward doing does able
returns-in_default c = rw c.in_default.is (record { same = refl; slots = c.requires.n_bound; rule = c.requires.args_value })
