-- `rolling`: below zero, n counts back from m, and is smaller than m in size, so m - n is a number; else n is taken as it is.
use Rattle.std.proofs.Common.{rules, get_or, pos, SFits, w32, to_z-of_z}
use mathlib.Core.Path.{sym, ◌∙◌}
use native.Mathlib.Omega.{arith}
use Rattle.rules.specs.Operators.Arguments.{arg}
use Rattle.stack.proofs.RollActs.{rolling-minus, rolling-plus}
use Rattle.stack.proofs.acts.rolling.Goals as goal

pub overflow_sub-result : goal.overflow_sub-result
unfolding arg
overflow_sub-result c =
    let f : SFits w32 (get_or c.args.l.now 0 (pos 0)) = search rules in
    let g : SFits w32 (get_or c.args.l.now 1 (pos 0)) = search rules in
    omega (arith, c.requires.above, (simp (to_z-of_z f) at c.size_of-m.ensures), (simp (to_z-of_z g) at c.size_of-n.ensures))

pub returns-then-is_minus : goal.returns-then-is_minus
unfolding arg
returns-then-is_minus c =
    let f : SFits w32 (get_or c.args.l.now 0 (pos 0)) = search rules in
    let g : SFits w32 (get_or c.args.l.now 1 (pos 0)) = search rules in
    rolling-minus _ _ c.args.l.now (simp (to_z-of_z f) at c.size_of-m.ensures) (simp (to_z-of_z g) at c.size_of-n.ensures) c.requires.above
    (sym (simp (to_z-of_z g) at c.is_minus.ensures) ∙ c.if-is_minus.true)

pub returns-else-is_minus : goal.returns-else-is_minus
unfolding arg
returns-else-is_minus c =
    let f : SFits w32 (get_or c.args.l.now 0 (pos 0)) = search rules in
    let g : SFits w32 (get_or c.args.l.now 1 (pos 0)) = search rules in
    rolling-plus _ _ c.args.l.now (simp (to_z-of_z f) at c.size_of-m.ensures) (simp (to_z-of_z g) at c.size_of-n.ensures) c.requires.above
    (sym (simp (to_z-of_z g) at c.is_minus.ensures) ∙ c.if-is_minus.false)
