-- `axisswap` on signed places.
use Rattle.std.specs.Prelude.{◌≡◌, Bool, List, ℤ, length}
use Rattle.rules.specs.Operators.Axisswap.{reordered}
use Rattle.rules.specs.Pipeline.Check as rules
use Rattle.rules.specs.declared.Place.{Place}

-- four places, reordered
pub record Ordered (back : Bool) (l : List ℤ) (tuple r : List Place) : Type 0 where
  pub four : length r ≡ 4
  pub same : r ≡ reordered rules.place rules.put_place rules.turn_place back l tuple
