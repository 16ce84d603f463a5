-- An axis: its size is from 1 to 4.
use mathlib.Core.Path.{◌≡◌}
use Prim.Native.Nat.{◌≤◌}
use mathlib.Core.Bool.{true}
use lib.Dec.{leb, leb→le}
use lib.IntN.{ℤ}
use Rattle.rules.specs.Operators.Arguments.{size}
use Rattle.laws_lists.specs.Tests.{so, and_left, and_right}
use Rattle.numbers.specs.Axes.{is_axis}

pub record Sized (x : ℤ) : Type 0 where
  pub low : 1 ≤ size x
  pub high : size x ≤ 4

pub axis-size : (x : ℤ) → is_axis x ≡ true → Sized x
unfolding is_axis
axis-size x e = record { low = leb→le _ _ (so (and_left (leb 1 (size x)) _ e)); high = leb→le _ _ (so (and_right (leb 1 (size x)) _ e)) }
