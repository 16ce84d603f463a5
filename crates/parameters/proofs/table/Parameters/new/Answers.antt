-- `new`: a table of none is within any text.
use mathlib.Core.Path.{refl}
use native.Mathlib.Omega.{arith}
use Rattle.parameters.specs.Parts.{AllWithin}
use Rattle.parameters.proofs.table.Parameters.new.Goals as goal

pub invariant_of-result : goal.invariant_of-result
unfolding AllWithin
invariant_of-result c = record { good = record { fits = omega arith; size = refl; within = tt } }
