-- What `adapt` does in a direction, in either mode.
use mathlib.Core.Path.{◌≡◌, refl}
use mathlib.Core.Bool.{true, false}
use mathlib.Core.List.{List}
use lib.IntN.{ℤ}
use Rattle.rules.specs.Operators.Acts.{adapts}
use Rattle.rules.specs.Operators.Documented.{adapt_in}
use Rattle.rules.specs.Operators.Table.{forward, inverse}
use Rattle.rules.specs.declared.Mode.{Mode}
use Rattle.rules.specs.declared.Mode.TheVariants as mode-is

pub forward-in : (mode : Mode) (l : List ℤ) → forward (adapt_in mode) l ≡ adapts mode false l
unfolding forward adapt_in
forward-in mode-is.Crate l = refl
forward-in mode-is.Documented l = refl

pub inverse-in : (mode : Mode) (l : List ℤ) → inverse (adapt_in mode) l ≡ adapts mode true l
unfolding inverse adapt_in
inverse-in mode-is.Crate l = refl
inverse-in mode-is.Documented l = refl
