use Rattle.std.proofs.Common.{rules, tests, ◌≡◌, ◌∙◌}
use Rattle.std.specs.List.{list_all}
use Rattle.std.proofs.lemmas.Iterator.{YieldsList-from_slice}
use Rattle.std.proofs.lemmas.Iterator.Search.{all_from_yields_List}
use Rattle.rules.specs.Operators.Adapt.{is_code}
use Rattle.numbers.proofs.Rest.{all_is}
use Rattle.adapt.proofs.documented.are_codes.Goals as goal

pub returns : goal.returns
returns c =
    let e : c.all.result ≡ list_all is_code c.args.l.now =
    all_from_yields_List is_code _ _ _ c.all.ensures.ran (YieldsList-from_slice c.args.l.now cc) (λ x b q k. search (rules, tests)) in
    e ∙ all_is is_code c.args.l.now
