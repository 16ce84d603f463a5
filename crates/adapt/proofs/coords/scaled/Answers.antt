-- `scaled`: each arm knows which way it goes: back, the numbers are scaled and then placed; forward they are picked and then scaled.
use mathlib.Core.Path.{ap, ◌∙◌}
use Rattle.rules.specs.declared.Coord.{Coord}
use Rattle.columns.specs.Coords.{placed}
use Rattle.adapt.specs.Factors.{scaled_by, scaled, unscaled, scaled_if}
use Rattle.adapt.proofs.coords.scaled.Goals as goal

pub returns-then-back : goal.returns-then-back
unfolding scaled_if unscaled
returns-then-back c =
    rw c.if-back.true (c.place.ensures ∙ ap (λ (v : Coord). placed c.args.o.at v c.args.c) c.scaled_by.ensures)

pub returns : goal.returns
unfolding scaled_if scaled
returns c =
    rw c.if-back.false (c.scaled_by-2.ensures ∙ ap (scaled_by c.args.m) c.pick.ensures)
