-- What four slots have in common.
use Rattle.std.specs.Prelude.{◌≡◌, ℕ, ◌<◌, List, length, get_or}

-- four slots, and each is one of a coordinate
pub record Within (at : List ℕ) : Type 0 where
  pub four : length at ≡ 4
  pub below : (k : ℕ) → get_or at k 0 < 4
