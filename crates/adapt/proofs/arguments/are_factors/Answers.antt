-- `are_factors`: the code asks the same as `are_factors`, two codes alike and two zeros.
use Rattle.std.proofs.Common.{arith, rules, ◌≡◌, ◌∙◌, ap, eqb, get_or, pos, drop, w32, to_z, of_z, SFits, to_z-of_z}
use Rattle.rules.specs.Text.Lists.{all_of}
use Rattle.rules.specs.Operators.Arguments.{size}
use Rattle.numbers.specs.Tests.{is_of}
use Rattle.numbers.specs.declared.tests.Kind.TheVariants.{Zero}
use Rattle.numbers.proofs.Rest.{rest_of}
use Rattle.std.proofs.lemmas.Bool.Decides.{nat_tests}
use Rattle.adapt.specs.Arguments.{are_factors}
use Rattle.adapt.proofs.arguments.are_factors.Goals as goal

pub returns-then-size_of : goal.returns-then-size_of
unfolding are_factors
returns-then-size_of c =
    let l = c.args.l.now in
    let f0 : SFits w32 (get_or l 0 (pos 0)) = search rules in
    let e0 : to_z w32 (of_z w32 (get_or l 0 (pos 0))) ≡ get_or l 0 (pos 0) = to_z-of_z f0 in
    let f1 : SFits w32 (get_or l 1 (pos 0)) = search rules in
    let e1 : to_z w32 (of_z w32 (get_or l 1 (pos 0))) ≡ get_or l 1 (pos 0) = to_z-of_z f1 in
    let r : c.are_of.result ≡ all_of (λ x. eqb (size x) 0) (drop 2 l) = c.are_of.ensures ∙ ap (all_of (is_of Zero)) (rest_of l 2) in
    grind (arith, nat_tests)

pub returns-else-size_of : goal.returns-else-size_of
unfolding are_factors
returns-else-size_of c =
    let l = c.args.l.now in
    let f0 : SFits w32 (get_or l 0 (pos 0)) = search rules in
    let e0 : to_z w32 (of_z w32 (get_or l 0 (pos 0))) ≡ get_or l 0 (pos 0) = to_z-of_z f0 in
    let f1 : SFits w32 (get_or l 1 (pos 0)) = search rules in
    let e1 : to_z w32 (of_z w32 (get_or l 1 (pos 0))) ≡ get_or l 1 (pos 0) = to_z-of_z f1 in
    grind (arith, nat_tests)
