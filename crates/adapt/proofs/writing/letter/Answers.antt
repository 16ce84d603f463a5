-- `letter`: an axis has a size from 1 to 4, which names a letter among the plain ones or among the turned ones.
use Rattle.std.proofs.Common.{refl, sym, ◌∙◌, ◌≡◌, ◌-◌, arith, true, false, to_z-of_z}
use Rattle.rules.specs.Text.Decimal.{minus}
use Rattle.rules.specs.Operators.Arguments.{size}
use Rattle.adapt.proofs.Spelt.{letter-turned, letter-plain}
use Rattle.adapt.proofs.writing.letter.Goals as goal

pub returns-then-is_minus : goal.returns-then-is_minus
returns-then-is_minus c =
    let e = rw (to_z-of_z c.ranges.x) at c.axis_of-k.ensures.named in
    let s : minus c.args.x ≡ true = rw (to_z-of_z c.ranges.x) at (sym c.is_minus.ensures ∙ c.if-is_minus.true) in
    let d : size c.args.x - 1 ≡ c.axis_of-k.result = omega (arith, e) in
    letter-turned c.args.x refl s (rw d refl)

pub returns : goal.returns
returns c =
    let e = rw (to_z-of_z c.ranges.x) at c.axis_of-k.ensures.named in
    let s : minus c.args.x ≡ false = rw (to_z-of_z c.ranges.x) at (sym c.is_minus.ensures ∙ c.if-is_minus.false) in
    let d : size c.args.x - 1 ≡ c.axis_of-k.result = omega (arith, e) in
    letter-plain c.args.x refl s (rw d refl)
