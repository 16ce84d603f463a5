-- Each operator says what its own keys take.
use Rattle.rules.specs.Pipeline.Keys.{own_keys}
use Rattle.prepare.proofs.KeyKind.{own-keys}
use Rattle.prepare.proofs.keys.own_kind.Goals as goal

pub returns-in-Push : goal.returns-in-Push
unfolding own_keys
returns-in-Push c = own-keys _ c.in-Push.is c.kind_of.ensures

pub returns-in-Pop : goal.returns-in-Pop
unfolding own_keys
returns-in-Pop c = own-keys _ c.in-Pop.is c.kind_of-in-Pop.ensures

pub returns-in-Stack : goal.returns-in-Stack
unfolding own_keys
returns-in-Stack c = own-keys _ c.in-Stack.is c.kind_of-in-Stack.ensures

pub returns-in-Axisswap : goal.returns-in-Axisswap
unfolding own_keys
returns-in-Axisswap c = own-keys _ c.in-Axisswap.is c.kind_of-in-Axisswap.ensures

pub returns-in-Adapt : goal.returns-in-Adapt
unfolding own_keys
returns-in-Adapt c = own-keys _ c.in-Adapt.is c.kind_of-in-Adapt.ensures
