-- Exactly one action: then its series is the one that was read, or there is none. No mode alters that.
use mathlib.Core.Path.{◌≡◌, refl, ap, ◌∙◌}
use Rattle.std.specs.Prelude.{unwrap_or}
use Rattle.prepare.specs.Faults.{numbers_of}
use Rattle.prepare.proofs.FirstSeries.{numbers-good}
use Rattle.prepare.proofs.OwnRules.{stack-none, stack-one, stack-more}
use Rattle.prepare.proofs.own.own_stack.Goals as goal

pub own_series-requires : goal.own_series-requires
own_series-requires c =
    let is : c.unwrap_or-numbers.result ≡ numbers_of c.args.low = c.unwrap_or-numbers.ensures ∙ ap (unwrap_or c.args.low.series) c.no_numbers.ensures in
    record { good = rw is (numbers-good c.requires.lowers c.requires.number_value) }

pub returns-in-None : goal.returns-in-None
returns-in-None c mode = stack-none mode _ (rw c.in-None.is at c.action_of.ensures) refl

pub returns-in-One : goal.returns-in-One
returns-in-One c mode =
    let is : c.unwrap_or-numbers.result ≡ numbers_of c.args.low = c.unwrap_or-numbers.ensures ∙ ap (unwrap_or c.args.low.series) c.no_numbers.ensures in
    stack-one (rw c.in-One.is at c.action_of.ensures) c.requires.lowers c.requires.number_value mode (rw is at c.own_series.ensures)

pub returns-in-More : goal.returns-in-More
returns-in-More c mode = stack-more mode _ (rw c.in-More.is at c.action_of.ensures) refl
