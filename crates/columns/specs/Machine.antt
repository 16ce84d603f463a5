-- What an act leaves in the list and in the store.
use Rattle.std.specs.Prelude.{◌≡◌, ℕ, ◌*◌, ◌/◌, max, List, length, drop, Float}
use Rattle.rules.specs.Operators.Acts.{Act}
use Rattle.rules.specs.Pipeline.Tuples.{acted}
use Rattle.laws_steps.specs.Depth.{depth_after}
use Rattle.columns.specs.Stores.{held}

-- what the rules say of the tuples and the columns; and the store is as it was beyond the deeper of the two depths
pub record Acted (a : Act) (d : ℕ) (xs s xs' s' : List Float) : Type 0 where
  pub machine : held xs' s' (depth_after a d) ≡ acted a (held xs s d)
  pub beyond : drop (max d (depth_after a d) * (length xs / 4)) s' ≡ drop (max d (depth_after a d) * (length xs / 4)) s
