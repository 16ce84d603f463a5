-- The rule and the text of each operator, by its number.
use mathlib.Core.Path.{◌≡◌, ap, ◌∙◌}
use Prim.Native.Nat.{ℕ, ◌≤◌, ◌<◌}
use mathlib.Core.Bool.{true}
use mathlib.Core.List.{List}
use lib.IntN.{ℤ}
use Rattle.rules.specs.Text.Bytes.{joined}
use Rattle.rules.specs.Operators.Adapt.{is_adapt}
use Rattle.rules.specs.Operators.Documented.{is_documented}
use Rattle.rules.specs.Operators.Descriptions.{Operator, Axisswap, Adapt, Documented}
use Rattle.rules.specs.Operators.PushPop.{is_rising}
use Rattle.rules.specs.Operators.Table.{operator_of, is_args}
use Rattle.rules.specs.Pipeline.Write.{operator_words}
use Rattle.record.proofs.OperatorRules.{args-flags, args-documented, args-adapt, the_last}

pub flags-rule : (k : ℕ) (l : List ℤ) → k ≤ 1 → is_args (operator_of k) l ≡ true → is_rising 0 l ≡ true
flags-rule k l h r = args-flags k l h ∙ r

pub order-text : {k : ℕ} (l : List ℤ) → k ≡ 9 → joined (operator_words (operator_of k) l) ≡ joined (operator_words Axisswap l)
unfolding operator_of
order-text l e = ap (λ (n : ℕ). joined (operator_words (operator_of n) l)) e

pub documented-rule : {k : ℕ} (l : List ℤ) → k ≡ 11 → is_args (operator_of k) l ≡ true → is_documented l ≡ true
documented-rule l e r = args-documented l e ∙ r

pub documented-text : {k : ℕ} (l : List ℤ) → k ≡ 11 → joined (operator_words (operator_of k) l) ≡ joined (operator_words Documented l)
unfolding operator_of
documented-text l e = ap (λ (n : ℕ). joined (operator_words (operator_of n) l)) e

-- the last arm
module _ (k : ℕ) (l : List ℤ) (g : 8 < k) (n : k ≡ 9 → ⊥) (o : k ≡ 11 → ⊥) where
  pub adapt-rule : is_args (operator_of k) l ≡ true → is_adapt l ≡ true
  adapt-rule r = args-adapt k l g n o ∙ r

  pub adapt-text : joined (operator_words (operator_of k) l) ≡ joined (operator_words Adapt l)
  adapt-text = ap (λ (operator : Operator). joined (operator_words operator l)) (the_last k g n o)
