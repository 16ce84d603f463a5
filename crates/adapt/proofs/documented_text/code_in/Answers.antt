-- `code_in`: the greater of the greater of each two.
use Rattle.std.proofs.Common.{rules, get_or, pos, SFits, w32, to_z-of_z}
use Rattle.rules.specs.Operators.Arguments.{arg}
use Rattle.rules.specs.Operators.Documented.{code_of}
use Rattle.adapt.proofs.documented_text.code_in.Goals as goal

pub returns : goal.returns
unfolding code_of arg
returns c =
    let f4 : SFits w32 (get_or c.args.l.now 4 (pos 0)) = search rules in
    let f5 : SFits w32 (get_or c.args.l.now 5 (pos 0)) = search rules in
    let f6 : SFits w32 (get_or c.args.l.now 6 (pos 0)) = search rules in
    let f7 : SFits w32 (get_or c.args.l.now 7 (pos 0)) = search rules in
    let e4 = simp (to_z-of_z f4) at c.size_of.ensures in
    let e5 = simp (to_z-of_z f5) at c.size_of-2.ensures in
    let e6 = simp (to_z-of_z f6) at c.size_of-3.ensures in
    let e7 = simp (to_z-of_z f7) at c.size_of-4.ensures in
    cc
