-- `is_documented`: the code asks the same as `is_documented`; the first test that fails decides.
use Rattle.std.proofs.Common.{rules, get_or, pos, SFits, w32, to_z-of_z}
use Rattle.numbers.proofs.Rest.{rest_of}
use mathlib.Core.Path.{refl, sym, ap, ◌∙◌}
use native.Mathlib.Omega.{arith}
use borrow.Author.Tests.{ne_eqb}
use lib.ListN.{length-take}
use Rattle.rules.specs.Text.Lists.{all_of}
use Rattle.rules.specs.Operators.Adapt.{is_code}
use Rattle.rules.specs.Operators.Documented.{two_alike, is_documented}
use Rattle.laws_lists.specs.Tests.{not_so, not_left}
use Rattle.adapt.proofs.ByAxis.{documented-tests}
use Rattle.adapt.proofs.documented.is_documented.Goals as goal

pub returns-then-l-ne8 : goal.returns-then-l-ne8
unfolding is_documented
returns-then-l-ne8 c = rw (ne_eqb _ _ c.if-l-ne8.true) refl

pub slice_bounds-is_order-end : goal.slice_bounds-is_order-end
slice_bounds-is_order-end c = rw length-take (omega (arith, c.if-l-ne8.false))

pub returns-then-not-is_order : goal.returns-then-not-is_order
returns-then-not-is_order c =
    rw (documented-tests _ c.if-l-ne8.false, sym c.is_order.ensures ∙ not_so c.if-not-is_order.true-raw) refl

pub returns-then-not-are_codes : goal.returns-then-not-are_codes
returns-then-not-are_codes c =
    let codes = c.are_codes.ensures ∙ ap (all_of is_code) (rest_of c.args.l.now 4) in
    rw (documented-tests _ c.if-l-ne8.false, sym c.is_order.ensures ∙ not_left c.if-not-is_order.false-raw, sym codes ∙ not_so c.if-not-are_codes.true-raw) refl

pub returns : goal.returns
returns c =
    let f4 : SFits w32 (get_or c.args.l.now 4 (pos 0)) = search rules in
    let e4 = simp (to_z-of_z f4) at c.size_of.ensures in
    let f5 : SFits w32 (get_or c.args.l.now 5 (pos 0)) = search rules in
    let e5 = simp (to_z-of_z f5) at c.size_of-2.ensures in
    let f6 : SFits w32 (get_or c.args.l.now 6 (pos 0)) = search rules in
    let e6 = simp (to_z-of_z f6) at c.size_of-3.ensures in
    let f7 : SFits w32 (get_or c.args.l.now 7 (pos 0)) = search rules in
    let e7 = simp (to_z-of_z f7) at c.size_of-4.ensures in
    let codes = c.are_codes.ensures ∙ ap (all_of is_code) (rest_of c.args.l.now 4) in
    rw (documented-tests _ c.if-l-ne8.false, sym c.is_order.ensures ∙ not_left c.if-not-is_order.false-raw, sym codes ∙ not_left c.if-not-are_codes.false-raw)
    (c.two_alike.ensures ∙ (λ i. two_alike (e4 i) (e5 i) (e6 i) (e7 i)))
