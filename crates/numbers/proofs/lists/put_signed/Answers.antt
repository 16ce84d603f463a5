-- `put_signed`: the text of a number is the digits of its size, after a minus where it is below zero; both arms write just that.
use Rattle.std.proofs.Common.{◌≡◌, ◌∙◌, sym, true, false, to_z-of_z}
use Rattle.rules.specs.Text.Decimal.{minus}
use Rattle.numbers.proofs.Listed.{sign-room, after-sign, signed-written, plain-room, plain-written}
use Rattle.numbers.proofs.lists.put_signed.Goals as goal

pub put_byte-e-requires : goal.put_byte-e-requires
put_byte-e-requires c =
    let e = rw (to_z-of_z c.ranges.x) at c.size_of-m.ensures in
    let s : minus c.args.x ≡ true = rw (to_z-of_z c.ranges.x) at (sym c.is_minus.ensures ∙ c.if-is_minus.true) in
    sign-room _ e c.requires s

pub put_digits-requires : goal.put_digits-requires
put_digits-requires c =
    let e = rw (to_z-of_z c.ranges.x) at c.size_of-m.ensures in
    let s : minus c.args.x ≡ true = rw (to_z-of_z c.ranges.x) at (sym c.is_minus.ensures ∙ c.if-is_minus.true) in
    (after-sign _ e c.requires s c.put_byte-e.ensures).fits

pub returns-then-is_minus : goal.returns-then-is_minus
returns-then-is_minus c =
    let e = rw (to_z-of_z c.ranges.x) at c.size_of-m.ensures in
    let s : minus c.args.x ≡ true = rw (to_z-of_z c.ranges.x) at (sym c.is_minus.ensures ∙ c.if-is_minus.true) in
    signed-written _ e c.requires s c.put_byte-e.ensures c.put_digits.ensures

pub put_digits-requires-2 : goal.put_digits-requires-2
put_digits-requires-2 c =
    let e = rw (to_z-of_z c.ranges.x) at c.size_of-m.ensures in
    let s : minus c.args.x ≡ false = rw (to_z-of_z c.ranges.x) at (sym c.is_minus.ensures ∙ c.if-is_minus.false) in
    (plain-room _ e c.requires s).fits

pub returns : goal.returns
returns c =
    let e = rw (to_z-of_z c.ranges.x) at c.size_of-m.ensures in
    let s : minus c.args.x ≡ false = rw (to_z-of_z c.ranges.x) at (sym c.is_minus.ensures ∙ c.if-is_minus.false) in
    plain-written _ e c.requires s c.put_digits-2.ensures
