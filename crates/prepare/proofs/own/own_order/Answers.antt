-- The order that is given, or the default. No mode alters that.
use mathlib.Core.Path.{ap}
use Rattle.rules.specs.Text.Refusal.{answers}
use Rattle.prepare.proofs.FirstSeries.{numbers-good, series-is}
use Rattle.prepare.proofs.OwnRules.{order-there, order-default}
use Rattle.prepare.proofs.own.own_order.Goals as goal

pub own_series-requires : goal.own_series-requires
own_series-requires c =
    record { good = rw (series-is c.requires.lowers c.requires.number_value c.in-Some.is) (numbers-good c.requires.lowers c.requires.number_value) }

pub returns-in-Some : goal.returns-in-Some
returns-in-Some c mode =
    order-there c.requires.lowers c.requires.number_value mode c.in-Some.is c.own_series.ensures

pub returns-in-None : goal.returns-in-None
returns-in-None c mode =
    order-default c.requires.lowers c.requires.number_value mode c.in-None.is c.all_axes.ensures (ap answers c.recorded.ensures)
