-- Columns as they stand in a store, one after the other, the bottom one first.
use Rattle.std.specs.Prelude.{◌≡◌, ℕ, zero, suc, ◌+◌, ◌-◌, ◌*◌, ◌/◌, ◌<◌, ◌≤◌, List, [], ◌∷◌, length, get_or, take, drop, Float}
use Rattle.std.specs.Float.{nan}
use Rattle.rules.specs.Pipeline.Tuples.{State, tuples}

-- column q, of n numbers, stands from q * n on
abbrev pub col : ℕ → ℕ → List Float → List Float
col n q s = take n (drop (q * n) s)

-- the d columns, the top one first
unfoldable pub columns_of : ℕ → ℕ → List Float → List (List Float)
columns_of n zero s = []
columns_of n (suc d) s = col n d s ∷ columns_of n d s

-- what a list and a store hold, d columns deep
unfoldable pub held : List Float → List Float → ℕ → State
held xs s d = record { tuples = tuples xs; columns = columns_of (length xs / 4) d s }

-- The d columns are l now, and the store is as it was beyond them.
pub record Stacked (n d : ℕ) (l : List (List Float)) (s s' : List Float) : Type 0 where
  pub columns : columns_of n d s' ≡ l
  pub beyond : drop (d * n) s' ≡ drop (d * n) s

-- i is none of the k places from a on
abbrev pub Off : ℕ → ℕ → ℕ → Type 0
Off a k i = (t : ℕ) → t < k → i ≡ a + t → ⊥

-- The k numbers from a on and the k from b on have been exchanged.
pub record Exchanged (a b k : ℕ) (s s' : List Float) : Type 0 where
  pub low : (t : ℕ) → t < k → get_or s' (a + t) nan ≡ get_or s (b + t) nan
  pub high : (t : ℕ) → t < k → get_or s' (b + t) nan ≡ get_or s (a + t) nan
  pub apart : (i : ℕ) → Off a k i → Off b k i → get_or s' i nan ≡ get_or s i nan

-- The columns from one up to another stand in the opposite order.
pub record Reversed (n from to : ℕ) (s s' : List Float) : Type 0 where
  pub inside : (q : ℕ) → from ≤ q → q < to → col n q s' ≡ col n (from + to - 1 - q) s
  pub below : (i : ℕ) → i < from * n → get_or s' i nan ≡ get_or s i nan
  pub above : (i : ℕ) → to * n ≤ i → get_or s' i nan ≡ get_or s i nan
