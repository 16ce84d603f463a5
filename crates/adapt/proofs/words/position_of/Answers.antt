-- `position_of`: the place, counted from 1, is one more than the library's (`found`).
use Rattle.std.proofs.Common.{rules, tests, ◌≡◌, eqb}
use Rattle.std.specs.List.{position}
use Rattle.std.proofs.lemmas.Iterator.{YieldsList-from_slice}
use Rattle.std.proofs.lemmas.Iterator.Search.{position_from_yields_List}
use Rattle.rules.specs.Operators.Arguments.{size}
use Rattle.adapt.proofs.FirstPlace.{finds-size, found, not_found}
use Rattle.adapt.proofs.words.position_of.Goals as goal

pub returns-in-Some : goal.returns-in-Some
returns-in-Some c =
    let e : c.position.result ≡ position (λ z. eqb c.args.size (size z)) c.args.l.now =
    position_from_yields_List (λ z. eqb c.args.size (size z)) _ _ _ c.position.ensures.ran (YieldsList-from_slice c.args.l.now cc) (λ x b q k. search (rules, tests)) in
    found (finds-size c.args.size) e c.in-Some.is

pub returns-in-None : goal.returns-in-None
returns-in-None c =
    let e : c.position.result ≡ position (λ z. eqb c.args.size (size z)) c.args.l.now =
    position_from_yields_List (λ z. eqb c.args.size (size z)) _ _ _ c.position.ensures.ran (YieldsList-from_slice c.args.l.now cc) (λ x b q k. search (rules, tests)) in
    not_found (finds-size c.args.size) e c.in-None.is
