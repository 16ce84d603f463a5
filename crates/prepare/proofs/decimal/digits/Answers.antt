use mathlib.Core.Path.{◌∙◌}
use native.Mathlib.Omega.{arith}
use lib.ListN.{get_or}
use borrow.Author.Rules.{rules, Fits-under}
use Rattle.prepare.proofs.DigitsSpelt.{none-spelled, many-spelled, spells-small, spells-not, spells-more, spells-all, digit-high, ascii-digit}
use Rattle.prepare.proofs.decimal.digits.Goals as goal
use Rattle.prepare.proofs.decimal.digits.Goals.{then-is_empty-via-then-is_empty, then-is_empty-via-else-is_empty+then-most-t}

pub returns-then-is_empty : goal.returns-then-is_empty
returns-then-is_empty c =
    elim c.then-is_empty.branch [
      | then-is_empty-via-then-is_empty w ↦ let h = w.if-is_empty in none-spelled _ _ (search rules)
      | then-is_empty-via-else-is_empty+then-most-t w ↦ many-spelled _ _ w.if-most-t.true
    ]

pub returns-then-not-is_ascii_digit : goal.returns-then-not-is_ascii_digit
returns-then-not-is_ascii_digit c =
    spells-not c.loop-b.invariant c.loop-b-test.true (ascii-digit _ c.is_ascii_digit.ensures.value ∙ c.if-not-is_ascii_digit.true)

pub overflow_mul-n : goal.overflow_mul-n
overflow_mul-n c = Fits-under _ _ 1000000000 (omega (arith, spells-small c.loop-b.invariant c.loop-b-test.true)) tt

pub overflow_add-n : goal.overflow_add-n
overflow_add-n c =
    let digit = digit-high (get_or c.args.t.now c.loop-b.b-index 0) (ascii-digit _ c.is_ascii_digit.ensures.value ∙ c.if-not-is_ascii_digit.false) in
    Fits-under _ _ 1000000057 (omega (arith, c.from.ensures, spells-small c.loop-b.invariant c.loop-b-test.true, digit)) tt

pub loop-b-preserved : goal.loop-b-preserved
loop-b-preserved c =
    rw c.from.ensures (spells-more c.loop-b.invariant c.loop-b-test.true (ascii-digit _ c.is_ascii_digit.ensures.value ∙ c.if-not-is_ascii_digit.false))

pub returns : goal.returns
returns c = spells-all c.loop-b.invariant c.loop-b-test.false
