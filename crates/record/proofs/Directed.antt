-- The act of a record in a direction, by its operator's number: in the crate's reading `inv` turns two of them.
use mathlib.Core.Path.{◌≡◌, refl, sym, ap, ◌∙◌}
use Prim.Native.Nat.{ℕ, zero, suc, ◌≤◌, ◌<◌}
use mathlib.Core.Bool.{Bool, true, false}
use native.Mathlib.Omega.{arith}
use borrow.Author.Tests.{ltb-true, ltb-false, eqb-true, eq-eqb}
use lib.Dec.{ltb, eqb}
use Rattle.rules.specs.Operators.Arguments.{is_order}
use Rattle.rules.specs.Operators.Descriptions.{Operator, Axisswap, Documented}
use Rattle.rules.specs.Operators.Documented.{adapt_in, is_adapt_in}
use Rattle.rules.specs.Operators.PushPop.{is_rising}
use Rattle.rules.specs.Operators.Table.{describe, operator_of, is_args}
use Rattle.rules.specs.Pipeline.Record.{made, operator, args}
use Rattle.rules.specs.Pipeline.Running.{directed, act_of, act}
use Rattle.rules.specs.declared.Direction.{Direction}
use Rattle.rules.specs.declared.Mode.{Mode}
use Rattle.rules.specs.declared.Mode.TheVariants as mode-is
use Rattle.rules.specs.declared.Step.{Step}
use Rattle.laws_lists.specs.Tests.{never}
use Rattle.laws_records.specs.MadeSo.{made_so}
use Rattle.stack.specs.Actions.{Action}
use Rattle.record.proofs.OperatorRules.{args-flags, args-order, the_last}

-- the operator whose number is 9
pub the-order : {k : ℕ} → k ≡ 9 → operator_of k ≡ Axisswap
unfolding operator_of
the-order e = rw e refl

-- and 11
pub the-documented : {k : ℕ} → k ≡ 11 → operator_of k ≡ Documented
unfolding operator_of
the-documented e = rw e refl

-- ---- what each operator asks of its arguments

module _ (s : Step) (m : made s ≡ true) where
  pub flags-rule : s.operator ≤ 1 → is_rising 0 (args s) ≡ true
  unfolding operator
  flags-rule h = args-flags s.operator (args s) h ∙ (made_so s m).rule

  pub action-rule : 2 ≤ s.operator → s.operator ≤ 8 → Action s.operator s.args s.n
  unfolding operator args
  action-rule g h = let p = made_so s m in record { least = g; most = h; slots = p.slots; digits = p.digits; rule = p.rule }

  pub order-rule : s.operator ≡ 9 → is_order (args s) ≡ true
  unfolding operator
  order-rule e = args-order (args s) e ∙ (made_so s m).rule

  pub adapt-rule : (mode : Mode) → operator_of s.operator ≡ adapt_in mode → is_adapt_in mode (args s) ≡ true
  unfolding operator
  adapt-rule mode e = go mode (sym (ap (λ (o : Operator). is_args o (args s)) e) ∙ (made_so s m).rule)
    where
      go : (mode : Mode) → is_args (adapt_in mode) (args s) ≡ true → is_adapt_in mode (args s) ≡ true
      go mode-is.Crate h = unfold is_args adapt_in is_adapt_in in h
      go mode-is.Documented h = unfold is_args adapt_in is_adapt_in in h

-- ---- what it does

-- the operators whose direction `inv` turns in the crate's reading: those behind the stack's
pub turned_behind : (k : ℕ) → (describe (operator_of k)).turned ≡ ltb 8 k
turned_behind k = go (ltb 8 k) refl
  where
    up_to : (k : ℕ) → k ≤ 8 → (describe (operator_of k)).turned ≡ false
    up_to zero h = unfold operator_of in refl
    up_to (suc zero) h = unfold operator_of in refl
    up_to (suc (suc zero)) h = unfold operator_of in refl
    up_to (suc (suc (suc zero))) h = unfold operator_of in refl
    up_to (suc (suc (suc (suc zero)))) h = unfold operator_of in refl
    up_to (suc (suc (suc (suc (suc zero))))) h = unfold operator_of in refl
    up_to (suc (suc (suc (suc (suc (suc zero)))))) h = unfold operator_of in refl
    up_to (suc (suc (suc (suc (suc (suc (suc zero))))))) h = unfold operator_of in refl
    up_to (suc (suc (suc (suc (suc (suc (suc (suc zero)))))))) h = unfold operator_of in refl
    up_to (suc (suc (suc (suc (suc (suc (suc (suc (suc k))))))))) h = absurd (omega (arith, h))

    behind : (k : ℕ) (a b : Bool) → eqb k 9 ≡ a → eqb k 11 ≡ b → 8 < k → (describe (operator_of k)).turned ≡ true
    behind k true b e f h = rw (the-order (eqb-true k 9 e)) refl
    behind k false true e f h = rw (the-documented (eqb-true k 11 f)) refl
    behind k false false e f h = rw (the_last k h (λ g. never (cc (e, eq-eqb k 9 g))) (λ g. never (cc (f, eq-eqb k 11 g)))) refl

    go : (b : Bool) → ltb 8 k ≡ b → (describe (operator_of k)).turned ≡ b
    go true e = behind k (eqb k 9) (eqb k 11) refl refl (ltb-true 8 k e)
    go false e = up_to k (ltb-false 8 k e)

module _ (d : Direction) (s : Step) where
  -- an operator in the direction in which its step runs
  pub does-so : {o : Operator} {t : Direction} → operator_of s.operator ≡ o → t ≡ directed d s → act_of t o (args s) ≡ act d s
  unfolding act operator
  does-so e f = rw (← e, f) refl
