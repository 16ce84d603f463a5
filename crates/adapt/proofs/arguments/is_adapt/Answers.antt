-- `is_adapt`: the code asks the same as `is_adapt`, an order of four and four factors.
use Rattle.std.proofs.Common.{arith, ◌≡◌, ◌∙◌, ap, drop}
use Rattle.std.proofs.lemmas.Bool.Decides.{nat_tests}
use Rattle.numbers.proofs.Rest.{rest_of}
use Rattle.adapt.specs.Arguments.{are_factors}
use Rattle.adapt.proofs.AdaptTest.{adapt-tests, adapt-short}
use Rattle.adapt.proofs.arguments.is_adapt.Goals as goal
use Rattle.adapt.proofs.arguments.is_adapt.Goals.{then-l-eq8, else-l-eq8}

pub returns-then-is_order : goal.returns-then-is_order
returns-then-is_order c =
    let r : c.are_factors.result ≡ are_factors (drop 4 c.args.l.now) = c.are_factors.ensures ∙ ap are_factors (rest_of c.args.l.now 4) in
    elim c.if-l-eq8.branch [
      | then-l-eq8 w ↦ let t = adapt-tests c.args.l.now w.if-l-eq8.true in grind (arith, nat_tests)
      | else-l-eq8 w ↦ let t = adapt-short c.args.l.now w.if-l-eq8.false in grind (arith, nat_tests)
    ]

pub returns-else-is_order : goal.returns-else-is_order
returns-else-is_order c =
    elim c.if-l-eq8.branch [
      | then-l-eq8 w ↦ let t = adapt-tests c.args.l.now w.if-l-eq8.true in grind (arith, nat_tests)
      | else-l-eq8 w ↦ let t = adapt-short c.args.l.now w.if-l-eq8.false in grind (arith, nat_tests)
    ]
