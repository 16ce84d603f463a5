-- `mult_of`: the sign of the factor is that of the first argument, and its size that of the second argument's code; both come back from
-- their calls as the numbers that they are.
use mathlib.Core.Path.{ap, ◌∙◌}
use mathlib.Core.Bool.{Bool}
use lib.IntN.{nat_abs}
use Rattle.rules.specs.Text.Decimal.{minus}
use Rattle.rules.specs.Operators.Numbers.{turn}
use Rattle.rules.specs.Operators.Adapt.{factor}
use Rattle.laws_lists.specs.Signed.{as_is}
use Rattle.adapt.proofs.factors.mult_of.Goals as goal

pub returns : goal.returns
returns c =
    let size = c.size_of.ensures ∙ ap nat_abs (as_is c.args.code c.ranges.code) in
    let sign = c.is_minus.ensures ∙ ap minus (as_is c.args.x c.ranges.x) in
    c.turned.ensures
    ∙ ap (λ (b : Bool). turn b c.factor_of.result) sign
    ∙ ap (turn (minus c.args.x)) (c.factor_of.ensures ∙ ap factor size)
