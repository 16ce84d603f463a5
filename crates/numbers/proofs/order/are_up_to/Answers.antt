use Rattle.std.proofs.Common.{rules, tests, ◌≡◌, ◌∙◌}
use Rattle.std.specs.List.{list_all}
use Rattle.std.proofs.lemmas.Iterator.{YieldsList-from_slice}
use Rattle.std.proofs.lemmas.Iterator.Search.{all_from_yields_List}
use Rattle.numbers.specs.Order.{up_to}
use Rattle.numbers.proofs.Rest.{all_is}
use Rattle.numbers.proofs.order.are_up_to.Goals as goal

pub returns : goal.returns
unfolding up_to
returns c =
    let e : c.all.result ≡ list_all (up_to c.args.n) c.args.l.now =
    all_from_yields_List (up_to c.args.n) _ _ _ c.all.ensures.ran (YieldsList-from_slice c.args.l.now cc) (λ x b q k. search (rules, tests)) in
    e ∙ all_is (up_to c.args.n) c.args.l.now
