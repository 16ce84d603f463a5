-- `is_places`: no argument at all is refused; else all of them must be places.
use Rattle.std.proofs.Common.{◌≡◌, refl, sym, ◌∙◌, length, eqb-true}
use Rattle.std.proofs.lemmas.Bool.{eqb-false}
use Rattle.rules.specs.Operators.Stack.{is_places}
use Rattle.stack.proofs.SomePlaces.{places-so}
use Rattle.stack.proofs.arguments.is_places.Goals as goal

pub returns-then-not-is_empty : goal.returns-then-not-is_empty
returns-then-not-is_empty c = c.are_of.ensures ∙ places-so _ (eqb-false _ _ (sym c.is_empty.ensures ∙ c.if-not-is_empty.true))

pub returns-else-not-is_empty : goal.returns-else-not-is_empty
unfolding is_places
returns-else-not-is_empty c =
    let e : length c.args.l.now ≡ 0 = eqb-true _ _ (sym c.is_empty.ensures ∙ c.if-not-is_empty.false) in
    rw (c.if-not-is_empty.false, e) refl
