-- How the columns stand in a store: one of them by its numbers, all of them by their places, and what a store elsewhere
-- leaves.
use mathlib.Core.Path.{◌≡◌, refl, sym, ap, ◌∙◌, subst}
use Prim.Native.Nat.{ℕ, zero, suc, ◌+◌, ◌-◌, ◌*◌, ◌/◌, ◌<◌, ◌≤◌}
use mathlib.Core.Bool.{Bool, true, false}
use mathlib.Core.List.{List, [], ◌∷◌, ◌++◌}
use native.Mathlib.Nat.{suc-mul, mul-le-mul_right}
use native.Mathlib.Omega.{arith}
use borrow.Author.Tests.{ltb-true, ltb-false}
use lib.Dec.{ltb}
use lib.ListN.{length, get_or, take, drop, length-drop, get_or-append}
use lib.Seq.{ext_get_or, get_or-take, get_or-drop, get_or-append-add, length-take-le, length_paste_head, paste}
use lib.Ieee.{Float, nan}
use Rattle.columns.specs.Stores.{col, columns_of, held}

-- ---- places

-- a column below another ends where that one begins, or before
pub under : (q p n : ℕ) → q < p → q * n + n ≤ p * n
under q p n h = subst (λ (z : ℕ). z ≤ p * n) (suc-mul q n) (mul-le-mul_right n h)

-- no further than a column that is not below it
pub not-over : (q p n : ℕ) → q ≤ p → q * n ≤ p * n
not-over q p n h = mul-le-mul_right n h

-- a number of one column stands in no other
pub other-column : (n k t q p : ℕ) → k < n → t < n → (q ≡ p → ⊥) → q * n + k ≡ p * n + t → ⊥
other-column n k t q p h l d e = go (ltb q p) (ltb p q) refl refl
  where
    go : (a b : Bool) → ltb q p ≡ a → ltb p q ≡ b → ⊥
    go true b f g = below (under q p n (ltb-true q p f))
      where
        below : q * n + n ≤ p * n → ⊥
        below u = omega arith
    go false true f g = above (under p q n (ltb-true p q g))
      where
        above : p * n + n ≤ q * n → ⊥
        above u = omega arith
    go false false f g = d (omega (arith, ltb-false q p f, ltb-false p q g))

-- ---- a copy, number by number

module _ {A : Type 0} (d : List A) (at : ℕ) (s : List A) (n : ℕ) (z : A) (hd : at + n ≤ length d) (hs : n ≤ length s) where
  head : length (take at d ++ take n s) ≡ at + n
  head = length_paste_head d at s n (omega arith) hs

  front : length (take at d) ≡ at
  front = length-take-le at d (omega arith)

  pub paste-before : (j : ℕ) → j < at → get_or (paste d at s n) j z ≡ get_or d j z
  paste-before j h =
      get_or-append (take at d ++ take n s) (drop (at + n) d) z j (omega (arith, head))
      ∙ get_or-append (take at d) (take n s) z j (omega (arith, front))
      ∙ get_or-take at d j z h

  pub paste-in : (j : ℕ) → j < n → get_or (paste d at s n) (at + j) z ≡ get_or s j z
  paste-in j h =
      get_or-append (take at d ++ take n s) (drop (at + n) d) z (at + j) (omega (arith, head))
      ∙ ap (λ (i : ℕ). get_or (take at d ++ take n s) (i + j) z) (sym front)
      ∙ get_or-append-add (take at d) (take n s) j z
      ∙ get_or-take n s j z h

  pub paste-after : (j : ℕ) → at + n ≤ j → get_or (paste d at s n) j z ≡ get_or d j z
  paste-after j h =
      let e : j ≡ length (take at d ++ take n s) + (j - (at + n)) = omega (arith, head) in
      let f : at + n + (j - (at + n)) ≡ j = omega arith in
      ap (λ (i : ℕ). get_or (paste d at s n) i z) e
      ∙ get_or-append-add (take at d ++ take n s) (drop (at + n) d) (j - (at + n)) z
      ∙ get_or-drop (at + n) d (j - (at + n)) z
      ∙ ap (λ (i : ℕ). get_or d i z) f

-- what is alike from a place on
pub drop-same : (a : ℕ) (s s' : List Float) → length s' ≡ length s → ((i : ℕ) → a ≤ i → get_or s' i nan ≡ get_or s i nan) → drop a s' ≡ drop a s
drop-same a s s' e h =
    ext_get_or nan (drop a s') (drop a s) (length-drop a s' ∙ ap (λ (z : ℕ). z - a) e ∙ sym (length-drop a s))
    (λ i b. get_or-drop a s' i nan ∙ h (a + i) (omega arith) ∙ sym (get_or-drop a s i nan))

-- ---- one column

module _ (n : ℕ) where
  pub col-at : (q k : ℕ) (s : List Float) → k < n → get_or (col n q s) k nan ≡ get_or s (q * n + k) nan
  col-at q k s h = get_or-take n (drop (q * n) s) k nan h ∙ get_or-drop (q * n) s k nan

  pub col-length : (q : ℕ) (s : List Float) → q * n + n ≤ length s → length (col n q s) ≡ n
  col-length q s h = length-take-le n (drop (q * n) s) (omega (arith, length-drop (q * n) s))

  -- a list is a column where it has its numbers
  pub col-is : (q : ℕ) (s v : List Float) → q * n + n ≤ length s → length v ≡ n → ((k : ℕ) → k < n → get_or s (q * n + k) nan ≡ get_or v k nan) → col n q s ≡ v
  col-is q s v h e f =
      ext_get_or nan (col n q s) v (col-length q s h ∙ sym e) (λ k b. let l = col-length q s h in col-at q k s (omega arith) ∙ f k (omega arith))

  -- two columns with the same numbers
  pub col-same : (q p : ℕ) (s t : List Float) → q * n + n ≤ length s → p * n + n ≤ length t → ((k : ℕ) → k < n → get_or s (q * n + k) nan ≡ get_or t (p * n + k) nan) → col n q s ≡ col n p t
  col-same q p s t h g f = col-is q s (col n p t) h (col-length p t g) (λ k b. f k b ∙ sym (col-at p k t b))

  -- ---- all columns

  pub columns-length : (d : ℕ) (s : List Float) → length (columns_of n d s) ≡ d
  unfolding columns_of
  columns-length zero s = refl
  columns-length (suc d) s = ap suc (columns-length d s)

  pub columns-at : (d j : ℕ) (s : List Float) → j < d → get_or (columns_of n d s) j [] ≡ col n (d - 1 - j) s
  unfolding columns_of
  columns-at zero j s h = absurd (none h)
    where
      none : j < 0 → ⊥
      none h = omega arith
  columns-at (suc d) zero s h = ap (λ (q : ℕ). col n q s) (own d)
    where
      own : (d : ℕ) → d ≡ suc d - 1 - 0
      own d = omega arith
  columns-at (suc d) (suc j) s h = columns-at d j s (omega arith) ∙ ap (λ (q : ℕ). col n q s) (own d j)
    where
      own : (d j : ℕ) → d - 1 - j ≡ suc d - 1 - suc j
      own d j = omega arith

  pub columns-drop : (d j : ℕ) (s : List Float) → drop j (columns_of n d s) ≡ columns_of n (d - j) s
  unfolding columns_of
  columns-drop d zero s = ap (λ (q : ℕ). columns_of n q s) (own d)
    where
      own : (d : ℕ) → d ≡ d - 0
      own d = omega arith
  columns-drop zero (suc j) s = ap (λ (q : ℕ). columns_of n q s) (own j)
    where
      own : (j : ℕ) → 0 ≡ 0 - suc j
      own j = omega arith
  columns-drop (suc d) (suc j) s = columns-drop d j s ∙ ap (λ (q : ℕ). columns_of n q s) (own d j)
    where
      own : (d j : ℕ) → d - j ≡ suc d - suc j
      own d j = omega arith

  pub columns-same : (d : ℕ) (s s' : List Float) → ((q : ℕ) → q < d → col n q s' ≡ col n q s) → columns_of n d s' ≡ columns_of n d s
  unfolding columns_of
  columns-same zero s s' h = refl
  columns-same (suc d) s s' h = λ i. h d (omega arith) i ∷ columns-same d s s' (λ q l. h q (omega arith)) i

  -- columns are a list where each is its own
  pub columns-are : (d : ℕ) (s : List Float) (l : List (List Float)) → length l ≡ d → ((j : ℕ) → j < d → col n (d - 1 - j) s ≡ get_or l j []) → columns_of n d s ≡ l
  columns-are d s l e h =
      ext_get_or [] (columns_of n d s) l (columns-length d s ∙ sym e) (λ j b. let z = columns-length d s in columns-at d j s (omega arith) ∙ h j (omega arith))

  -- ---- one column stored

  module _ (q : ℕ) (s s' v : List Float) (e : s' ≡ paste s (q * n) v n) (room : q * n + n ≤ length s) (long : length v ≡ n) where
    pub put-length : length s' ≡ length s → q * n + n ≤ length s'
    put-length f = omega arith

    pub put-own : length s' ≡ length s → col n q s' ≡ v
    put-own f = col-is q s' v (omega arith) long (λ k b. ap (λ (z : List Float). get_or z (q * n + k) nan) e ∙ paste-in s (q * n) v n nan room (omega arith) k b)

    -- a number elsewhere
    pub put-before : (i : ℕ) → i < q * n → get_or s' i nan ≡ get_or s i nan
    put-before i h = ap (λ (z : List Float). get_or z i nan) e ∙ paste-before s (q * n) v n nan room (omega arith) i h

    pub put-after : (i : ℕ) → q * n + n ≤ i → get_or s' i nan ≡ get_or s i nan
    put-after i h = ap (λ (z : List Float). get_or z i nan) e ∙ paste-after s (q * n) v n nan room (omega arith) i h

    -- another column
    pub put-else : length s' ≡ length s → (p : ℕ) → (p ≡ q → ⊥) → p * n + n ≤ length s → col n p s' ≡ col n p s
    put-else f p d r = col-same p p s' s (omega arith) r (λ k b. go k b (ltb p q) refl)
      where
        go : (k : ℕ) → k < n → (b : Bool) → ltb p q ≡ b → get_or s' (p * n + k) nan ≡ get_or s (p * n + k) nan
        go k h true g = put-before (p * n + k) (omega (arith, under p q n (ltb-true p q g)))
        go k h false g = put-after (p * n + k) (omega (arith, under q p n (more (ltb-false p q g))))
          where
            more : q ≤ p → q < p
            more l = omega (arith, differ)
              where
                differ : p ≡ q → ⊥
                differ = d

pub held-depth : (xs s : List Float) (d : ℕ) → length (held xs s d).columns ≡ d
unfolding held
held-depth xs s d = columns-length (length xs / 4) d s
