-- `turned`: that two Booleans differ is what `xor` says of them, whichever they are.
use mathlib.Core.Path.{◌≡◌, refl}
use mathlib.Core.Bool.{Bool, beq, true, false, not, xor}
use Rattle.rules.specs.Pipeline.Check.{turn_place}
use Rattle.axisswap.proofs.places.turned.Goals as goal

other : (a b : Bool) → not (beq a b) ≡ xor b a
unfolding xor
other true true = refl
other true false = refl
other false true = refl
other false false = refl

pub returns : goal.returns
unfolding turn_place xor
returns c = λ i. record { axis = c.args.p.axis; minus = other c.args.p.minus c.args.minus i }
