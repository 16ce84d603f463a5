-- A list of which the first i elements have been changed, each by a function of its place and itself: what a loop that
-- loads, changes and stores has done after i turns.
use mathlib.Core.Path.{◌≡◌, refl, sym, ap, ◌∙◌}
use mathlib.Core.List.{List, [], ◌∷◌, map}
use Prim.Native.Nat.{ℕ, zero, suc, ◌+◌, ◌<◌, ◌≤◌}
use native.Mathlib.Nat.{le_of_suc-le-suc, add-zero, zero-add}
use native.Mathlib.Numerals.{add-one}
use native.Mathlib.Omega.{arith}
use lib.ListN.{length, get_or, set}

module _ {A : Type 0} where
  -- each element x at k becomes f k x, counted from k
  unfoldable pub each_from : ℕ → (ℕ → A → A) → List A → List A
  each_from k f [] = []
  each_from k f (x ∷ l) = f k x ∷ each_from (suc k) f l

  -- the same of the first i alone
  unfoldable pub firsts_from : ℕ → ℕ → (ℕ → A → A) → List A → List A
  firsts_from k zero f l = l
  firsts_from k (suc i) f [] = []
  firsts_from k (suc i) f (x ∷ l) = f k x ∷ firsts_from (suc k) i f l

  pub firsts-none : (k : ℕ) (f : ℕ → A → A) (l : List A) → firsts_from k 0 f l ≡ l
  unfolding firsts_from
  firsts-none k f l = refl

  pub firsts-length : (k i : ℕ) (f : ℕ → A → A) (l : List A) → length (firsts_from k i f l) ≡ length l
  unfolding firsts_from
  firsts-length k zero f l = refl
  firsts-length k (suc i) f [] = refl
  firsts-length k (suc i) f (x ∷ l) = ap suc (firsts-length (suc k) i f l)

  -- the element at i is as it was
  pub firsts_at : (k i : ℕ) (f : ℕ → A → A) (l : List A) (d : A) → get_or (firsts_from k i f l) i d ≡ get_or l i d
  unfolding firsts_from
  firsts_at k zero f l d = refl
  firsts_at k (suc i) f [] d = refl
  firsts_at k (suc i) f (x ∷ l) d = firsts_at (suc k) i f l d

  -- a store at i is one turn more
  pub firsts_more : (k i : ℕ) (f : ℕ → A → A) (l : List A) (d : A) → i < length l → set (firsts_from k i f l) i (f (k + i) (get_or l i d)) ≡ firsts_from k (suc i) f l
  unfolding firsts_from
  firsts_more k zero f [] d h = refl
  firsts_more k zero f (x ∷ l) d h = ap (λ (n : ℕ). f n x ∷ l) (add-zero k)
  firsts_more k (suc i) f [] d h = refl
  firsts_more k (suc i) f (x ∷ l) d h =
      ap (λ (n : ℕ). f k x ∷ set (firsts_from (suc k) i f l) i (f n (get_or l i d))) (shift k i)
      ∙ ap (λ (m : List A). f k x ∷ m) (firsts_more (suc k) i f l d (le_of_suc-le-suc h))
    where
      shift : (k i : ℕ) → k + suc i ≡ suc k + i
      shift k i = omega arith

  -- all turns
  pub firsts-all : (k i : ℕ) (f : ℕ → A → A) (l : List A) → length l ≤ i → firsts_from k i f l ≡ each_from k f l
  unfolding firsts_from each_from
  firsts-all k zero f [] h = refl
  firsts-all k zero f (x ∷ l) h = absurd (never h)
    where
      never : {n : ℕ} → suc n ≤ 0 → ⊥
      never h = omega arith
  firsts-all k (suc i) f [] h = refl
  firsts-all k (suc i) f (x ∷ l) h = ap (λ (m : List A). f k x ∷ m) (firsts-all (suc k) i f l (le_of_suc-le-suc h))

  -- where the place does not matter it is `map`
  pub each_map : (k : ℕ) (f : A → A) (l : List A) → each_from k (λ _ x. f x) l ≡ map f l
  unfolding each_from
  each_map k f [] = refl
  each_map k f (x ∷ l) = ap (λ (m : List A). f x ∷ m) (each_map (suc k) f l)

  -- one turn of a loop that loads what stands at i, and stores f i of it there
  pub firsts-turn : (i : ℕ) (f : ℕ → A → A) (l₀ l l' : List A) (d x y : A) → l ≡ firsts_from 0 i f l₀ → i < length l₀
      → x ≡ get_or l i d → y ≡ f i x → l' ≡ set l i y → l' ≡ firsts_from 0 (i + 1) f l₀
  firsts-turn i f l₀ l l' d x y inv h load made stored =
      let was : x ≡ get_or l₀ i d = load ∙ ap (λ (m : List A). get_or m i d) inv ∙ firsts_at 0 i f l₀ d in
      stored
      ∙ ap (λ (z : A). set l i z) (made ∙ ap (f i) was)
      ∙ ap (λ (m : List A). set m i (f i (get_or l₀ i d))) inv
      ∙ ap (λ (n : ℕ). set (firsts_from 0 i f l₀) i (f n (get_or l₀ i d))) (sym (zero-add i))
      ∙ firsts_more 0 i f l₀ d h
      ∙ ap (λ (n : ℕ). firsts_from 0 n f l₀) (sym (add-one i))
