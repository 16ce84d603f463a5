-- `act_of`: forward the act adapts, inverse it adapts back, in the mode and with the same arguments.
use mathlib.Core.Path.{sym}
use Rattle.rules.specs.Pipeline.Running.{act_of}
use Rattle.columns.specs.Doings.{does, doing, able}
use Rattle.adapt.proofs.ActIn.{forward-in, inverse-in}
use Rattle.adapt.proofs.acts.act_of.Goals as goal

pub returns-in_default : goal.returns-in_default
unfolding act_of doing does able
returns-in_default c = rw c.in_default.is (record { same = sym (forward-in _ _); slots = c.requires.n_bound; rule = c.requires.args_value })

pub returns-in-Inverse : goal.returns-in-Inverse
unfolding act_of doing does able
returns-in-Inverse c = rw c.in-Inverse.is (record { same = sym (inverse-in _ _); slots = c.requires.n_bound; rule = c.requires.args_value })
