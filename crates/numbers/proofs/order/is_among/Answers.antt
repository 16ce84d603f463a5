use Rattle.std.proofs.Common.{rules, tests, ◌≡◌, ◌∙◌}
use Rattle.std.specs.List.{list_any}
use Rattle.std.proofs.lemmas.Iterator.{YieldsList-from_slice}
use Rattle.std.proofs.lemmas.Iterator.Search.{any_from_yields_List}
use Rattle.numbers.specs.Order.{of_size}
use Rattle.numbers.proofs.Rest.{any_is}
use Rattle.numbers.proofs.order.is_among.Goals as goal

pub returns : goal.returns
unfolding of_size
returns c =
    let e : c.any.result ≡ list_any (of_size c.args.m) c.args.l.now =
    any_from_yields_List (of_size c.args.m) _ _ _ c.any.ensures.ran (YieldsList-from_slice c.args.l.now cc) (λ x b q k. search (rules, tests)) in
    e ∙ any_is (of_size c.args.m) c.args.l.now
