-- A signed number as a call is given it or gives it, by its bits, and one factor from two of them.
use mathlib.Core.Path.{◌≡◌}
use lib.IntN.{ℤ}
use lib.Ieee.{Float}
use Rattle.rules.specs.Text.Decimal.{minus}
use Rattle.rules.specs.Operators.Arguments.{size}
use Rattle.rules.specs.Operators.Numbers.{turn}
use Rattle.rules.specs.Operators.Adapt.{factor}

pub mult-made : (x z code w : ℤ) (m : Float) → z ≡ x → w ≡ code → m ≡ turn (minus z) (factor (size w)) → m ≡ turn (minus x) (factor (size code))
mult-made x z code w m e f h = cc
