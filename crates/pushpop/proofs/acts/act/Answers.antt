-- `act`: a push has its places as they are given; a pop has them in the opposite order, and `reversed` turns the row.
use mathlib.Core.Path.{refl, ap}
use lib.ListN.{take}
use Rattle.rules.specs.Operators.Acts.{pops}
use Rattle.rules.specs.Operators.Arguments.{is_place}
use Rattle.laws_lists.specs.Lists.{all-reverse}
use Rattle.laws_steps.specs.PlacesOf.{places-reverse}
use Rattle.laws_records.specs.Operators.PushPop.{rising-places}
use Rattle.columns.specs.Doings.{does, doing, able}
use Rattle.pushpop.specs.Acts.{pushing}
use Rattle.pushpop.proofs.acts.act.Goals as goal

pub returns-then-pushes : goal.returns-then-pushes
unfolding doing does able pushing
returns-then-pushes c = record { same = rw c.if-pushes.true refl; slots = c.requires.n_bound; rule = rising-places 0 _ c.requires.args_value }

pub returns-else-pushes : goal.returns-else-pushes
unfolding doing does able pushing
returns-else-pushes c =
    record {
      same = rw (c.if-pushes.false, c.reversed.ensures) (ap pops (places-reverse _));
      slots = c.requires.n_bound;
      rule = rw c.reversed.ensures (all-reverse is_place (take c.args.n c.args.args) (rising-places 0 (take c.args.n c.args.args) c.requires.args_value));
    }
