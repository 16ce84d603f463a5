-- `inverse`: the numbers are turned first and then placed at the slots, which is how `unordered` is written.
use mathlib.Core.Path.{ap, ◌∙◌}
use Rattle.rules.specs.declared.Coord.{Coord}
use Rattle.columns.specs.Coords.{placed}
use Rattle.axisswap.specs.Signs.{unordered}
use Rattle.axisswap.proofs.coords.inverse.Goals as goal

pub returns : goal.returns
unfolding unordered
returns c =
    c.place.ensures ∙ ap (λ (v : Coord). placed c.args.o.at v c.args.c) c.turned_by.ensures
