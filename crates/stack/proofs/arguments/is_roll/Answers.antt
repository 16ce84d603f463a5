-- `is_roll`: the tests are those of `is_roll`, in its order; the first that fails decides.
use Rattle.std.proofs.Common.{◌≡◌, refl, sym, ◌∙◌, arith, rules, length, get_or, pos, SFits, w32, to_z-of_z, true, false, eq-eqb, ne_eqb}
use Rattle.rules.specs.Text.Decimal.{minus}
use Rattle.rules.specs.Operators.Arguments.{arg}
use Rattle.rules.specs.Operators.Stack.{is_roll}
use Rattle.stack.proofs.arguments.is_roll.Goals as goal

pub returns-then-not-is_minus : goal.returns-then-not-is_minus
unfolding is_roll arg
returns-then-not-is_minus c =
    let f : SFits w32 (get_or c.args.l.now 0 (pos 0)) = search rules in
    let g : SFits w32 (get_or c.args.l.now 1 (pos 0)) = search rules in
    let two : length c.args.l.now ≡ 2 = omega arith in
    let s : minus (get_or c.args.l.now 0 (pos 0)) ≡ false = sym (simp (to_z-of_z f) at c.is_minus.ensures) ∙ c.if-not-is_minus.true in
    rw (eq-eqb _ _ two, s, simp (to_z-of_z g) at c.size_of.ensures, simp (to_z-of_z f) at c.size_of-then-not-is_minus.ensures) refl

pub returns-else-not-is_minus : goal.returns-else-not-is_minus
unfolding is_roll arg
returns-else-not-is_minus c =
    let f : SFits w32 (get_or c.args.l.now 0 (pos 0)) = search rules in
    let two : length c.args.l.now ≡ 2 = omega arith in
    let s : minus (get_or c.args.l.now 0 (pos 0)) ≡ true = sym (simp (to_z-of_z f) at c.is_minus.ensures) ∙ c.if-not-is_minus.false in
    rw (c.if-not-is_minus.false, eq-eqb _ _ two, s) refl

pub returns-in_default : goal.returns-in_default
unfolding is_roll
returns-in_default c = rw (ne_eqb (length c.args.l.now) 2 (λ e. omega (arith, e))) refl

pub returns-in_default-2 : goal.returns-in_default-2
unfolding is_roll
returns-in_default-2 c = rw (ne_eqb (length c.args.l.now) 2 (λ e. omega (arith, e))) refl
