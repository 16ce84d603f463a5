-- The test of an order, by what the code has found out.
use mathlib.Core.Path.{◌≡◌, refl, sym}
use Prim.Native.Nat.{ℕ, ◌≤◌}
use mathlib.Core.List.{List, ◌∷◌}
use mathlib.Core.Bool.{true, false, ◌&&◌}
use lib.IntN.{ℤ}
use lib.ListN.{length}
use borrow.Author.Tests.{le-leb}
use Rattle.rules.specs.Text.Lists.{all_of, any_of}
use Rattle.rules.specs.Operators.Arguments.{size, is_distinct, is_order}
use Rattle.laws_lists.specs.Lists.{all_so}
use Rattle.laws_lists.specs.Tests.{so, and_left, and_right}
use Rattle.numbers.specs.Order.{of_size}
use native.Mathlib.Nat.{le_trans}
use lib.Dec.{leb, leb→le}
use Rattle.numbers.specs.Axes.{is_axis}

pub distinct-so : (x : ℤ) (l r : List ℤ) (m : ℕ) → m ≡ size x → r ≡ l → any_of (of_size m) r ≡ false → is_distinct (x ∷ l) ≡ is_distinct l
unfolding is_distinct of_size
distinct-so x l r m h p e = rw (sym h, sym p, e) refl

pub distinct-not : (x : ℤ) (l r : List ℤ) (m : ℕ) → m ≡ size x → r ≡ l → any_of (of_size m) r ≡ true → is_distinct (x ∷ l) ≡ false
unfolding is_distinct of_size
distinct-not x l r m h p e = rw (sym h, sym p, e) refl

-- ---- what an order is: each argument is an axis

pub order-axes : (l : List ℤ) → is_order l ≡ true → (all_of is_axis l ≡ true) × (length l ≤ 4)
unfolding is_order is_axis
order-axes l e =
    let rest = and_right (leb 1 (length l)) _ e in
    let few : length l ≤ 4 = leb→le (length l) 4 (so (and_left (leb (length l) 4) _ rest)) in
    let sizes = and_left (all_of _ l) _ (and_right (leb (length l) 4) _ rest) in (
      all_so (λ (x : ℤ). leb 1 (size x) && leb (size x) (length l)) is_axis
          (λ x h. rw (and_left (leb 1 (size x)) _ h) (le-leb (size x) 4 (le_trans (leb→le (size x) (length l) (so (and_right (leb 1 (size x)) _ h))) few)))
          l
          sizes,
      few,
    )
