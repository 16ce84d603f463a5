-- The tests of one argument, by name, so that one loop serves them all.
use Rattle.std.specs.Prelude.{Bool, eqb, ℤ}
use Rattle.rules.specs.Operators.Arguments.{size, is_place}
use Rattle.rules.specs.Pipeline.Record.{nine_digits}
use Rattle.numbers.specs.declared.tests.Kind.{Kind}
use Rattle.numbers.specs.declared.tests.Kind.TheVariants.{Place, NineDigits, Zero}

-- is the argument of that kind?
abbrev pub is_of : Kind → ℤ → Bool
is_of Place x = is_place x
is_of NineDigits x = nine_digits x
is_of Zero x = eqb (size x) 0
