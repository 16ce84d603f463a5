-- `factors_for`: each arm knows which way it goes: back, each factor is 1 over that of its place, picked at the slots; forward it is the
-- step's own.
use mathlib.Core.Path.{refl, ap, ◌∙◌}
use Rattle.columns.specs.Coords.{picked}
use Rattle.adapt.specs.Factors.{factors_for}
use Rattle.adapt.proofs.coords.factors_for.Goals as goal

pub returns-then-back : goal.returns-then-back
unfolding factors_for
returns-then-back c =
    rw c.if-back.true (c.pick.ensures ∙ ap (picked c.args.o.at) c.overs_of.ensures)

pub returns : goal.returns
unfolding factors_for
returns c = rw c.if-back.false refl
