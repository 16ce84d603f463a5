-- Both words are read; what they make between them in the mode are the arguments, of the mode's operator.
use mathlib.Core.Path.{refl, ap}
use Rattle.rules.specs.Text.Ascii.{ascii}
use Rattle.rules.specs.Text.Refusal.{answers}
use Rattle.adapt.specs.Words.{word_is}
use Rattle.prepare.proofs.OwnRules.{adapt-from, adapt-to, adapt-good, adapt-so}
use Rattle.prepare.proofs.own.own_adapt.Goals as goal

pub returns-in_default : goal.returns-in_default
unfolding ascii word_is
returns-in_default c = adapt-from _ _ c.in_default.ensures refl

pub returns-in_default-word_given : goal.returns-in_default-word_given
unfolding ascii word_is
returns-in_default-word_given c = adapt-to _ _ c.in-Some.ensures c.in_default-word_given.ensures refl

pub recorded-requires : goal.recorded-requires
recorded-requires c = record { good = adapt-good _ _ _ c.between-list.ensures }

pub returns : goal.returns
unfolding ascii word_is
returns c =
    adapt-so _ _ c.in-Some.ensures c.in-Some-word_given.ensures c.between-list.ensures c.operator_in.ensures
    (ap answers c.recorded.ensures)
