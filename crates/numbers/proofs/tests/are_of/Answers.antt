use Rattle.std.proofs.Common.{rules, tests, ◌≡◌, ◌∙◌}
use Rattle.std.specs.List.{list_all}
use Rattle.std.proofs.lemmas.Iterator.{YieldsList-from_slice}
use Rattle.std.proofs.lemmas.Iterator.Search.{all_from_yields_List}
use Rattle.numbers.specs.Tests.{is_of}
use Rattle.numbers.proofs.Rest.{all_is}
use Rattle.numbers.proofs.tests.are_of.Goals as goal

pub returns : goal.returns
returns c =
    let e : c.all.result ≡ list_all (is_of c.args.kind) c.args.l.now =
    all_from_yields_List (is_of c.args.kind) _ _ _ c.all.ensures.ran (YieldsList-from_slice c.args.l.now cc) (λ x b q k. search (rules, tests)) in e ∙ all_is (is_of c.args.kind) c.args.l.now
