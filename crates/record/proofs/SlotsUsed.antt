-- Where the slots that are not used hold zero, all slots have nine digits at most exactly if those that are used have.
use mathlib.Core.Path.{◌≡◌, refl, ap}
use Prim.Native.Nat.{ℕ, zero, suc, ◌-◌}
use mathlib.Core.Bool.{Bool, true, false, ◌&&◌}
use mathlib.Core.List.{List, [], ◌∷◌}
use native.Mathlib.Omega.{arith}
use borrow.Author.Tests.{eqb-true, le-leb}
use lib.ListN.{length, take, drop}
use lib.Dec.{eqb}
use lib.IntN.{ℤ}
use Rattle.rules.specs.Text.Lists.{all_of}
use Rattle.rules.specs.Operators.Arguments.{size}
use Rattle.rules.specs.Operators.Table.{operator_of, is_args}
use Rattle.rules.specs.Pipeline.Record.{nine_digits}
use Rattle.laws_lists.specs.Lists.{all_so}
use Rattle.numbers.specs.Tests.{is_of}
use Rattle.numbers.specs.declared.tests.Kind.TheVariants.{NineDigits, Zero}
use Rattle.numbers.proofs.Rest.{rest_of}
use Rattle.record.specs.Records.{is_written}

zero-nine : (x : ℤ) → eqb (size x) 0 ≡ true → nine_digits x ≡ true
unfolding nine_digits
zero-nine x e = le-leb (size x) 999999999 (omega (arith, eqb-true (size x) 0 e))

pub used-nine : (l : List ℤ) (n : ℕ) → all_of (λ (x : ℤ). eqb (size x) 0) (drop n l) ≡ true → all_of nine_digits l ≡ all_of nine_digits (take n l)
unfolding all_of
used-nine l zero e = all_so (λ (x : ℤ). eqb (size x) 0) nine_digits zero-nine l e
used-nine [] (suc n) e = refl
used-nine (x ∷ l) (suc n) e = ap (λ (b : Bool). nine_digits x && b) (used-nine l n e)

-- so the code may look for nine digits in all slots: what is written, in its order of tests
pub written_tests : (operator : ℕ) (l : List ℤ) (n : ℕ) → is_written operator (take n l) (drop n l)
    ≡ (all_of (is_of Zero) (take (length l - n) (drop n l)) && (all_of (is_of NineDigits) l && is_args (operator_of operator) (take n l)))
unfolding is_written
written_tests operator l n = rw (rest_of l n) (go (all_of (is_of Zero) (drop n l)) refl)
  where
    go : (b : Bool) → all_of (is_of Zero) (drop n l) ≡ b
        → (b && (all_of nine_digits (take n l) && is_args (operator_of operator) (take n l))) ≡ (b && (all_of nine_digits l && is_args (operator_of operator) (take n l)))
    go true e = rw (used-nine l n e) refl
    go false e = refl
