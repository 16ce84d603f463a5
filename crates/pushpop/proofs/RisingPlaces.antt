-- Places that rise, by the first of them.
use mathlib.Core.Path.{◌≡◌, refl, subst}
use Prim.Native.Nat.{ℕ, ◌≤◌, ◌<◌}
use mathlib.Core.List.{List, ◌∷◌}
use mathlib.Core.Bool.{Bool, true, false, ◌&&◌}
use borrow.Author.Tests.{lt-ltb, le-ltb}
use lib.IntN.{ℤ}
use Rattle.rules.specs.Operators.Arguments.{size, is_place}
use Rattle.rules.specs.Operators.PushPop.{is_rising}

pub rising-stray : (last : ℕ) (x : ℤ) (l : List ℤ) → is_place x ≡ false → is_rising last (x ∷ l) ≡ false
unfolding is_rising
rising-stray last x l e = rw e refl

pub rising-low : (last : ℕ) (x : ℤ) (l : List ℤ) (m : ℕ) → m ≡ size x → m ≤ last → is_rising last (x ∷ l) ≡ false
unfolding is_rising
rising-low last x l m h e = rw (le-ltb _ _ (subst (λ (k : ℕ). k ≤ last) h e)) (go (is_place x))
  where
    go : (b : Bool) → (b && false) ≡ false
    go true = refl
    go false = refl

pub rising-next : (last : ℕ) (x : ℤ) (l : List ℤ) (m : ℕ) → m ≡ size x → is_place x ≡ true → last < m → is_rising last (x ∷ l) ≡ is_rising m l
unfolding is_rising
rising-next last x l m h p e = rw (p, lt-ltb _ _ (subst (λ (k : ℕ). last < k) h e), h) refl
