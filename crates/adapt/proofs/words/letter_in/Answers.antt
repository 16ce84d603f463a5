-- `letter_in`: the place, counted from 1, is one more than the library's (`found`).
use Rattle.std.proofs.Common.{rules, tests, ◌≡◌, eqb}
use Rattle.std.specs.List.{position}
use Rattle.std.proofs.lemmas.Iterator.{YieldsList-from_slice}
use Rattle.std.proofs.lemmas.Iterator.Search.{position_from_yields_List}
use Rattle.adapt.proofs.FirstPlace.{finds-letter, found, not_found}
use Rattle.adapt.proofs.words.letter_in.Goals as goal

pub returns-in-Some : goal.returns-in-Some
returns-in-Some c =
    let e : c.position.result ≡ position (eqb c.args.b) c.args.letters.now =
    position_from_yields_List (eqb c.args.b) _ _ _ c.position.ensures.ran (YieldsList-from_slice c.args.letters.now cc) (λ x b q k. search (rules, tests)) in
    found (finds-letter c.args.b) e c.in-Some.is

pub returns-in-None : goal.returns-in-None
returns-in-None c =
    let e : c.position.result ≡ position (eqb c.args.b) c.args.letters.now =
    position_from_yields_List (eqb c.args.b) _ _ _ c.position.ensures.ran (YieldsList-from_slice c.args.letters.now cc) (λ x b q k. search (rules, tests)) in
    not_found (finds-letter c.args.b) e c.in-None.is
