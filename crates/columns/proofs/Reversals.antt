-- Columns of a store exchanged, and turned round.
use mathlib.Core.Path.{◌≡◌, refl, sym, ap, ◌∙◌}
use Prim.Native.Nat.{ℕ, ◌+◌, ◌-◌, ◌*◌, ◌<◌, ◌≤◌}
use mathlib.Core.Bool.{Bool, true, false}
use mathlib.Core.List.{List, ◌++◌, append_assoc}
use native.Mathlib.Omega.{arith}
use borrow.Author.Tests.{ltb-true, ltb-false}
use lib.Dec.{ltb}
use borrow.Rule.Slice.PartMut.{post_of}
use lib.ListN.{length, get_or, take, drop, length-drop, get_or-append}
use lib.Seq.{get_or-take, get_or-drop, get_or-append-add, length-take-le, drop-drop, paste, length-paste}
use lib.Ieee.{Float, nan}
use Rattle.columns.specs.Stores.{col, Off, Exchanged, Reversed}
use Rattle.columns.proofs.InStore.{under, not-over, other-column, col-same, paste-before, paste-in, paste-after}

-- ---- numbers exchanged

module _ (s : List Float) (a b n : ℕ) (h : a + n ≤ b) (room : b + n ≤ length s) where
  abbrev x : List Float
  x = take b s

  abbrev y : List Float
  y = drop b s

  -- the two sides as they are left
  abbrev x' : List Float
  x' = take a x ++ (take n y ++ drop n (drop a x))

  abbrev y' : List Float
  y' = take n (drop a x) ++ drop n y

  long-x : length x ≡ b
  long-x = length-take-le b s (omega arith)

  long-y : n ≤ length y
  long-y = omega (arith, length-drop b s)

  pasted : x' ≡ paste x a y n
  pasted = ap (λ (z : List Float). take a x ++ (take n y ++ z)) (drop-drop n a x) ∙ sym (append_assoc (take a x) (take n y) (drop (a + n) x))

  long-x' : length x' ≡ b
  long-x' = ap length pasted ∙ length-paste x a y n (omega (arith, long-x)) long-y ∙ long-x

  long-mid : length (take n (drop a x)) ≡ n
  long-mid = length-take-le n (drop a x) (omega (arith, length-drop a x, long-x))

  in-x : (i : ℕ) → i < b → get_or (x' ++ y') i nan ≡ get_or (paste x a y n) i nan
  in-x i l = get_or-append x' y' nan i (omega (arith, long-x')) ∙ ap (λ (z : List Float). get_or z i nan) pasted

  in-y : (j : ℕ) → get_or (x' ++ y') (b + j) nan ≡ get_or y' j nan
  in-y j = ap (λ (z : ℕ). get_or (x' ++ y') (z + j) nan) (sym long-x') ∙ get_or-append-add x' y' j nan

  pub exchanged-all : Exchanged a b n s (x' ++ y')
  exchanged-all =
      record {
        low = λ t l. in-x (a + t) (omega arith) ∙ paste-in x a y n nan (omega (arith, long-x)) long-y t l ∙ get_or-drop b s t nan;
        high = λ t l.
            in-y t
            ∙ get_or-append (take n (drop a x)) (drop n y) nan t (omega (arith, long-mid))
            ∙ get_or-take n (drop a x) t nan l
            ∙ get_or-drop a x t nan
            ∙ get_or-take b s (a + t) nan (omega arith);
        apart = λ i p q. apart i p q (ltb i b) (ltb i a) refl refl;
      }
    where
      past : (c i : ℕ) → Off c n i → c ≤ i → c + n ≤ i
      past c i p l = go (ltb i (c + n)) refl
        where
          go : (d : Bool) → ltb i (c + n) ≡ d → c + n ≤ i
          go false f = ltb-false i (c + n) f
          go true f = absurd (p (i - c) (omega (arith, ltb-true i (c + n) f)) (omega arith))

      apart : (i : ℕ) → Off a n i → Off b n i → (c d : Bool) → ltb i b ≡ c → ltb i a ≡ d → get_or (x' ++ y') i nan ≡ get_or s i nan
      apart i p q true true f g =
          let l = ltb-true i b f in
          in-x i l ∙ paste-before x a y n nan (omega (arith, long-x)) long-y i (ltb-true i a g) ∙ get_or-take b s i nan l
      apart i p q true false f g =
          let l = ltb-true i b f in
          in-x i l ∙ paste-after x a y n nan (omega (arith, long-x)) long-y i (past a i p (ltb-false i a g)) ∙ get_or-take b s i nan l
      apart i p q false d f g =
          let j = i - b in
          let at : i ≡ b + j = omega (arith, ltb-false i b f) in
          let over : n ≤ j = omega (arith, past b i q (ltb-false i b f)) in
          let m : j ≡ n + (j - n) = omega arith in
          let e : j ≡ length (take n (drop a x)) + (j - n) = omega (arith, long-mid) in
          ap (λ (z : ℕ). get_or (x' ++ y') z nan) at
          ∙ in-y j
          ∙ ap (λ (z : ℕ). get_or y' z nan) e
          ∙ get_or-append-add (take n (drop a x)) (drop n y) (j - n) nan
          ∙ get_or-drop n y (j - n) nan
          ∙ ap (λ (z : ℕ). get_or y z nan) (sym m)
          ∙ get_or-drop b s j nan
          ∙ ap (λ (z : ℕ). get_or s z nan) (sym at)

-- a part of what stands before b, and as many numbers from b on: each goes where the other was
pub exchanged-parts : {s low high mid other : List Float} {a b n k : ℕ} → low ≡ take b s → high ≡ drop b s → other ≡ take n high → mid ≡ take k (drop a low) → k ≡ n
    → a + n ≤ b → b + n ≤ length s → Exchanged a b n s ((take a low ++ (other ++ post_of a k low)) ++ (mid ++ drop n high))
exchanged-parts {s} {low} {high} {mid} {other} {a} {b} {n} {k} el eh eo em ek h room =
    rw (eo, em, ek, el, eh) (exchanged-all s a b n h room)

-- ---- two columns exchanged

module _ (n p q : ℕ) (s s' : List Float) (e : Exchanged (p * n) (q * n) n s s') (h : p < q) (room : q * n + n ≤ length s) (len : length s' ≡ length s) where
  fits : p * n + n ≤ length s
  fits = omega (arith, under p q n h)

  pub low-col : col n p s' ≡ col n q s
  low-col = col-same n p q s' s (omega (arith, fits)) room e.low

  pub high-col : col n q s' ≡ col n p s
  high-col = col-same n q p s' s (omega arith) fits e.high

  pub other-col : (r : ℕ) → (r ≡ p → ⊥) → (r ≡ q → ⊥) → r * n + n ≤ length s → col n r s' ≡ col n r s
  other-col r a b f =
      col-same n r r s' s (omega arith) f (λ k l. e.apart (r * n + k) (λ t m g. other-column n k t r p l m a g) (λ t m g. other-column n k t r q l m b g))

  -- below the one and above the other
  pub below_both : (i : ℕ) → i < p * n → get_or s' i nan ≡ get_or s i nan
  below_both i l = e.apart i (λ t m g. one t g) (λ t m g. two t g)
    where
      one : (t : ℕ) → i ≡ p * n + t → ⊥
      one t g = omega arith

      two : (t : ℕ) → i ≡ q * n + t → ⊥
      two t g = omega (arith, under p q n h)

  pub above-both : (i : ℕ) → q * n + n ≤ i → get_or s' i nan ≡ get_or s i nan
  above-both i l = e.apart i (λ t m g. one t m g) (λ t m g. two t m g)
    where
      one : (t : ℕ) → t < n → i ≡ p * n + t → ⊥
      one t m g = omega (arith, under p q n h)

      two : (t : ℕ) → t < n → i ≡ q * n + t → ⊥
      two t m g = omega arith

-- ---- columns turned round

-- those before i and from j on stand where they belong, the others as they were
pub record Reversing (n from to : ℕ) (s₀ s : List Float) (i j : ℕ) : Type 0 where
  pub done : (q : ℕ) → from ≤ q → q < i → col n q s ≡ col n (from + to - 1 - q) s₀
  pub done-high : (q : ℕ) → j ≤ q → q < to → col n q s ≡ col n (from + to - 1 - q) s₀
  pub rest : (q : ℕ) → i ≤ q → q < j → col n q s ≡ col n q s₀
  pub below : (x : ℕ) → x < from * n → get_or s x nan ≡ get_or s₀ x nan
  pub above : (x : ℕ) → to * n ≤ x → get_or s x nan ≡ get_or s₀ x nan
  pub same_length : length s ≡ length s₀
  pub least : from ≤ i
  pub most : j ≤ to
  pub apart : i ≤ j
  pub sum : i + j ≡ from + to

module _ (n from to : ℕ) (s₀ : List Float) where
  pub reverse-none : from ≤ to → Reversing n from to s₀ s₀ from to
  reverse-none h =
      record {
        done = λ q a b. absurd (none a b);
        done-high = λ q a b. absurd (none a b);
        rest = λ q a b. refl;
        below = λ x a. refl;
        above = λ x a. refl;
        same_length = refl;
        least = omega arith;
        most = omega arith;
        apart = h;
        sum = refl;
      }
    where
      none : {a b : ℕ} → a ≤ b → b < a → ⊥
      none l m = omega arith

  pub reverse-turn : (s s' : List Float) (i j : ℕ) → Reversing n from to s₀ s i j → i + 1 < j → to * n ≤ length s₀ → length s' ≡ length s → Exchanged (i * n) ((j - 1) * n) n s s'
      → Reversing n from to s₀ s' (i + 1) (j - 1)
  reverse-turn s s' i j inv h room len e =
      record {
        done = λ q a b. low q a b (ltb q i) refl;
        done-high = λ q a b. high q a b (ltb q j) refl;
        rest = λ q a b. other q (more q a) (fewer q b) (omega arith) ∙ inv.rest q (omega arith) (omega arith);
        below = λ x a. below_both n i p s s' e less fits len x (omega (arith, not-over from i n inv.least)) ∙ inv.below x a;
        above = λ x a. above-both n i p s s' e less fits len x (omega (arith, under p to n (omega (arith, inv.most)))) ∙ inv.above x a;
        same_length = len ∙ inv.same_length;
        least = omega (arith, inv.least);
        most = omega (arith, inv.most);
        apart = omega arith;
        sum = omega (arith, inv.sum);
      }
    where
      p : ℕ
      p = j - 1

      less : i < p
      less = omega arith

      fits : p * n + n ≤ length s
      fits = omega (arith, under p to n (omega (arith, inv.most)), inv.same_length)

      other : (q : ℕ) → (q ≡ i → ⊥) → (q ≡ p → ⊥) → q < to → col n q s' ≡ col n q s
      other q a b c = other-col n i p s s' e less fits len q a b (omega (arith, under q to n c, inv.same_length))

      more : (q : ℕ) → i + 1 ≤ q → q ≡ i → ⊥
      more q a f = omega arith

      fewer : (q : ℕ) → q < p → q ≡ p → ⊥
      fewer q b f = omega arith

      low : (q : ℕ) → from ≤ q → q < i + 1 → (b : Bool) → ltb q i ≡ b → col n q s' ≡ col n (from + to - 1 - q) s₀
      low q a b true f = let g = ltb-true q i f in other q (λ z. one z g) (λ z. two z g) (omega (arith, inv.most)) ∙ inv.done q a g
        where
          one : q ≡ i → q < i → ⊥
          one z g = omega arith

          two : q ≡ p → q < i → ⊥
          two z g = omega arith
      low q a b false f =
          let g : q ≡ i = omega (arith, ltb-false q i f) in
          let m : p ≡ from + to - 1 - q = omega (arith, inv.sum) in
          ap (λ (z : ℕ). col n z s') g
          ∙ low-col n i p s s' e less fits len
          ∙ inv.rest p (omega arith) (omega arith)
          ∙ ap (λ (z : ℕ). col n z s₀) m

      high : (q : ℕ) → p ≤ q → q < to → (b : Bool) → ltb q j ≡ b → col n q s' ≡ col n (from + to - 1 - q) s₀
      high q a b false f = let g = ltb-false q j f in other q (λ z. one z g) (λ z. two z g) b ∙ inv.done-high q g b
        where
          one : q ≡ i → j ≤ q → ⊥
          one z g = omega arith

          two : q ≡ p → j ≤ q → ⊥
          two z g = omega arith
      high q a b true f =
          let g : q ≡ p = omega (arith, ltb-true q j f) in
          let m : i ≡ from + to - 1 - q = omega (arith, inv.sum) in
          ap (λ (z : ℕ). col n z s') g
          ∙ high-col n i p s s' e less fits len
          ∙ inv.rest i (omega arith) (omega arith)
          ∙ ap (λ (z : ℕ). col n z s₀) m

  pub reverse-end : (s : List Float) (i j : ℕ) → Reversing n from to s₀ s i j → j ≤ i + 1 → Reversed n from to s₀ s
  reverse-end s i j inv h = record { inside = λ q a b. go q a b (ltb q i) (ltb q j) refl refl; below = inv.below; above = inv.above }
    where
      go : (q : ℕ) → from ≤ q → q < to → (b c : Bool) → ltb q i ≡ b → ltb q j ≡ c → col n q s ≡ col n (from + to - 1 - q) s₀
      go q a b true c f g = inv.done q a (ltb-true q i f)
      go q a b false false f g = inv.done-high q (ltb-false q j g) b
      go q a b false true f g =
          let l = ltb-false q i f in
          let m = ltb-true q j g in
          let own : q ≡ from + to - 1 - q = omega (arith, inv.sum) in
          inv.rest q l m ∙ ap (λ (z : ℕ). col n z s₀) own
