-- The rule "at least one place": of a list that is not empty it is that each of its numbers is a place.
use mathlib.Core.Path.{◌≡◌, refl}
use Prim.Native.Nat.{suc}
use native.Mathlib.Omega.{arith}
use mathlib.Core.List.{List, [], ◌∷◌}
use mathlib.Core.Bool.{true}
use lib.Dec.{leb}
use lib.IntN.{ℤ}
use lib.ListN.{length}
use borrow.Author.Tests.{le-leb}
use Rattle.rules.specs.Text.Lists.{all_of}
use Rattle.rules.specs.Operators.Arguments.{is_place}
use Rattle.rules.specs.Operators.Stack.{is_places}
use Rattle.laws_lists.specs.Tests.{and_right}

pub places-so : (l : List ℤ) → (length l ≡ 0 → ⊥) → all_of is_place l ≡ is_places l
unfolding is_places
places-so [] n = absurd (n refl)
places-so (x ∷ l) n = rw (le-leb 1 (suc (length l)) (omega arith)) refl

pub some-places : (l : List ℤ) → is_places l ≡ true → all_of is_place l ≡ true
unfolding is_places
some-places l e = and_right (leb 1 (length l)) _ e
