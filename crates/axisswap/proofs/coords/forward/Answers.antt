-- `forward`: the numbers at the slots are picked first and then turned, which is how `ordered` is written.
use mathlib.Core.Path.{ap, ◌∙◌}
use Rattle.axisswap.specs.Signs.{turned_by, ordered}
use Rattle.axisswap.proofs.coords.forward.Goals as goal

pub returns : goal.returns
unfolding ordered
returns c = c.turned_by.ensures ∙ ap (turned_by c.args.t) c.pick.ensures
