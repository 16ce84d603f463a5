-- The last four arguments of `adapt`, in the order in which they are tested.
use Rattle.std.specs.Prelude.{Bool, ◌&&◌, List, eqb, ℤ, pos, get_or, drop}
use Rattle.rules.specs.Text.Lists.{all_of}
use Rattle.rules.specs.Operators.Arguments.{size}
use Rattle.rules.specs.Operators.Adapt.{is_code}

-- the codes of four factors' sizes: the first two alike, the others 0
unfoldable pub are_factors : List ℤ → Bool
are_factors l =
    is_code (get_or l 0 (pos 0))
    && (is_code (get_or l 1 (pos 0))
    && (eqb (size (get_or l 1 (pos 0))) (size (get_or l 0 (pos 0))) && all_of (λ (x : ℤ). eqb (size x) 0) (drop 2 l)))
