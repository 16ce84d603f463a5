-- Spelling a number, the last digit first: the loop's invariant, and its laws.
use mathlib.Core.Path.{◌≡◌, refl, sym, ap, ◌∙◌}
use mathlib.Core.List.{[], ◌∷◌, ◌++◌, append-nil}
use Prim.Native.Nat.{ℕ, zero, suc, ◌+◌, ◌*◌, ◌/◌, ◌%◌, ◌-◌, ◌≤◌, ◌<◌}
use native.Mathlib.Nat.{mod-eq_of_lt}
use native.Mathlib.Omega.{arith}
use lib.ListN.{length, take, drop, get_or, set, length-set, length-drop, take-append-drop, drop_of_length-le}
use lib.Seq.{drop-cons, drop_at, set_at, length-take-le, append_snoc, take_all}
use Rattle.rules.specs.Text.Bytes.{Bytes}
use Rattle.rules.specs.Text.Numerals.{digits}
use Rattle.laws_text.specs.Numerals.{digits-one, digits_more}
use Rattle.numbers.specs.Spelt.{Spelt}

unfoldable pub tens : ℕ → ℕ
tens zero = 1
tens (suc k) = 10 * tens k

-- the buffer has the last digits of n from place k on, and m is what is left of it: something, unless none is written yet
pub record Spelling (n m k : ℕ) (buf : Bytes) : Type 0 where
  pub within : k ≤ 20
  pub size : length buf ≡ 20
  pub below : m < tens k
  pub some : k < 20 → 1 ≤ m
  pub right : digits m ++ drop k buf ≡ digits n

pub spelling-start : (n : ℕ) (buf : Bytes) → n < 18446744073709551616 → length buf ≡ 20 → Spelling n n 20 buf
spelling-start n buf h l =
    let e : tens 20 ≡ 100000000000000000000 = unfold tens in refl in
    let k : length buf ≤ 20 = omega (arith, l) in
    let z : drop 20 buf ≡ [] = drop_of_length-le buf k in
    record { within = omega arith; size = l; below = omega (arith, e, h); some = λ h. absurd (omega (arith, h)); right = ap (λ (x : Bytes). digits n ++ x) z ∙ append-nil (digits n) }

-- what is written at a place is what the rest begins with
drop-set : (l : Bytes) (k v : ℕ) → k < length l → drop k (set l k v) ≡ v ∷ drop (suc k) l
drop-set l k v h =
    let e : l ≡ take k l ++ (get_or l k 0 ∷ drop (suc k) l) = sym (take-append-drop k l) ∙ ap (λ (x : Bytes). take k l ++ x) (drop-cons l k 0 h) in
    let n : length (take k l) ≡ k = length-take-le k l (omega arith) in
    ap (λ (x : Bytes). drop k (set x k v)) e ∙ (ap (drop k) (set_at (take k l) (get_or l k 0) (drop (suc k) l) v k n) ∙ drop_at (take k l) (v ∷ drop (suc k) l) k n)

-- one more digit stands before the others
digit-at : (n m j : ℕ) (buf : Bytes) → Spelling n m (suc j) buf → drop j (set buf j (48 + m % 10)) ≡ (48 + m % 10) ∷ drop (suc j) buf
digit-at n m j buf s = drop-set buf j (48 + m % 10) (omega (arith, s.within, s.size))

again-at : (n m j : ℕ) (buf : Bytes) → Spelling n m (suc j) buf → 1 ≤ m / 10 → Spelling n (m / 10) j (set buf j (48 + m % 10))
again-at n m j buf s h =
    let t : tens (suc j) ≡ 10 * tens j = unfold tens in refl in
    let g : 10 ≤ m = omega (arith, h) in
    record {
      within = omega (arith, s.within);
      size = length-set {A = ℕ} buf j (48 + m % 10) ∙ s.size;
      below = omega (arith, s.below, t);
      some = λ _. h;
      right =
          ap (λ (x : Bytes). digits (m / 10) ++ x) (digit-at n m j buf s)
          ∙ (sym (append_snoc (digits (m / 10)) (48 + m % 10) (drop (suc j) buf))
          ∙ (ap (λ (x : Bytes). x ++ drop (suc j) buf) (sym (digits_more m g)) ∙ s.right));
    }

end-at : (n m j : ℕ) (buf : Bytes) → Spelling n m (suc j) buf → m < 10 → Spelt n (set buf j (48 + m % 10)) j
end-at n m j buf s h =
    let e : m % 10 ≡ m = mod-eq_of_lt h in
    record {
      within = omega (arith, s.within);
      size = length-set {A = ℕ} buf j (48 + m % 10) ∙ s.size;
      right =
          digit-at n m j buf s
          ∙ (ap (λ (x : ℕ). (48 + x) ∷ drop (suc j) buf) e ∙ (ap (λ (x : Bytes). x ++ drop (suc j) buf) (sym (digits-one m h)) ∙ s.right));
    }

module _ {n m k : ℕ} {buf : Bytes} (s : Spelling n m k buf) where
  module _ {v : ℕ} (l : 0 < k) (e : v ≡ 48 + m % 10) where
    pub spelling-again : (m / 10 ≡ 0 → ⊥) → Spelling n (m / 10) (k - 1) (set buf (k - 1) v)
    spelling-again h = rw e (go k l s)
      where
        go : (j : ℕ) → 0 < j → Spelling n m j buf → Spelling n (m / 10) (j - 1) (set buf (j - 1) (48 + m % 10))
        go zero l t = absurd (omega (arith, l))
        go (suc j) l t = let z : suc j - 1 ≡ j = omega arith in rw z (again-at n m j buf t (omega (arith, h)))

    pub spelling-end : m / 10 ≡ 0 → Spelt n (set buf (k - 1) v) (k - 1)
    spelling-end h = rw e (go k l s)
      where
        go : (j : ℕ) → 0 < j → Spelling n m j buf → Spelt n (set buf (j - 1) (48 + m % 10)) (j - 1)
        go zero l t = absurd (omega (arith, l))
        go (suc j) l t = let z : suc j - 1 ≡ j = omega arith in rw z (end-at n m j buf t (omega (arith, h)))

  -- twenty places are enough
  pub spelling-none : k ≤ 0 → ⊥
  spelling-none h =
      let t : tens 0 ≡ 1 = unfold tens in refl in
      let z : k ≡ 0 = omega (arith, h) in
      let b : m < tens 0 = rw z at s.below in
      omega (arith, b, t, s.some (omega (arith, h)))

-- so the caller finds the digits at the end of the buffer
pub spelt-front : {n k : ℕ} {buf : Bytes} → Spelt n buf k → take (20 - k) (drop k buf) ≡ digits n
spelt-front {n} {k} {buf} s =
    let l : length (drop k buf) ≤ 20 - k = omega (arith, length-drop k buf, s.size) in
    take_all (20 - k) (drop k buf) l ∙ s.right
