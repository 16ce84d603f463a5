-- Entering a part into a table: what stands in it then, and that it is within the text.
use mathlib.Core.Path.{◌≡◌, refl, sym, ap, ◌∙◌}
use mathlib.Core.List.{List, [], ◌∷◌, ◌++◌, append_assoc}
use Prim.Native.Nat.{ℕ, zero, suc, ◌+◌, ◌-◌, ◌≤◌, ◌<◌}
use native.Mathlib.Omega.{arith}
use lib.ListN.{length, take, drop, set, length-set, length-drop}
use lib.Seq.{length-take-le, take-take, take-set-lt}
use Rattle.std.specs.List.{insert, copy_within}
use Rattle.std.proofs.lemmas.List.{take_more_set, set-append_left, drop-take}
use Rattle.std.proofs.lemmas.List.Edits.{take-paste}
use Rattle.rules.specs.Text.Bytes.{Bytes}
use Rattle.parameters.specs.declared.table.Part.{Part}
use Rattle.parameters.specs.Parts.{Parts, held, Within, AllWithin, Good}
use Rattle.parameters.proofs.Places.{held-length}

-- ---- within the text

within-append : (s : Bytes) (l k : List Part) → AllWithin s l → AllWithin s k → AllWithin s (l ++ k)
unfolding AllWithin
within-append s [] k a b = b
within-append s (x ∷ l) k a b = (a.0, within-append s l k a.1 b)

within-take : (s : Bytes) (l : List Part) (i : ℕ) → AllWithin s l → AllWithin s (take i l)
unfolding AllWithin
within-take s l zero a = tt
within-take s [] (suc i) a = tt
within-take s (x ∷ l) (suc i) a = (a.0, within-take s l i a.1)

within-drop : (s : Bytes) (l : List Part) (i : ℕ) → AllWithin s l → AllWithin s (drop i l)
unfolding AllWithin
within-drop s l zero a = a
within-drop s [] (suc i) a = tt
within-drop s (x ∷ l) (suc i) a = within-drop s l i a.1

within-set : (s : Bytes) (l : List Part) (i : ℕ) (p : Part) → Within s p → AllWithin s l → AllWithin s (set l i p)
unfolding AllWithin
within-set s [] i p w a = a
within-set s (x ∷ l) zero p w a = (w, a.1)
within-set s (x ∷ l) (suc i) p w a = (a.0, within-set s l i p w a.1)

-- ---- in the place of another

-- a part that is put behind those in use changes none of them
take-set : (n : ℕ) (l : List Part) (i : ℕ) (p : Part) → take n (set l i p) ≡ set (take n l) i p
take-set zero l i p = refl
take-set (suc n) [] i p = refl
take-set (suc n) (x ∷ l) zero p = refl
take-set (suc n) (x ∷ l) (suc i) p = ap (λ (k : List Part). x ∷ k) (take-set n l i p)

module _ {s : Bytes} {t : Parts} {p : Part} (g : Good s t) (w : Within s p) (i : ℕ) where
  pub put-good : Good s (record { parts = set t.parts i p; n = t.n })
  put-good = record {
    fits = g.fits;
    size = length-set t.parts i p ∙ g.size;
    within = rw (take-set t.n t.parts i p) (within-set s (held t) i p w g.within);
  }

  pub put-held : take t.n (set t.parts i p) ≡ set (held t) i p
  put-held = take-set t.n t.parts i p

-- ---- as a new one, in front of what is from its place on

moved : (l : List Part) (n i : ℕ) (p : Part) → i ≤ n → n < length l → take (n + 1) (set (copy_within l i n (i + 1)) i p) ≡ insert (take n l) i p
moved l n i p h k =
    let x = take (n - i) (drop i l) in
    let e : n + 1 ≡ i + 1 + (n - i) = omega arith in
    let m : n ≡ i + (n - i) = omega arith in
    let a : take (n + 1) (set (copy_within l i n (i + 1)) i p) ≡ set (take (n + 1) (copy_within l i n (i + 1))) i p =
    take-set-lt (n + 1) (copy_within l i n (i + 1)) i p (omega arith) in
    let b : take (n + 1) (copy_within l i n (i + 1)) ≡ take (i + 1) l ++ x =
    ap (λ (j : ℕ). take j (copy_within l i n (i + 1))) e ∙ take-paste l (i + 1) (drop i l) (n - i) (omega arith) (omega (arith, length-drop i l)) in
    let c : set (take (i + 1) l ++ x) i p ≡ set (take (i + 1) l) i p ++ x = set-append_left (take (i + 1) l) x i p (omega (arith, length-take-le (i + 1) l (omega arith))) in
    let d : set (take (i + 1) l) i p ≡ take i l ++ p ∷ [] = sym (take-set-lt (i + 1) l i p (omega arith)) ∙ take_more_set l i p (omega arith) in
    let f : drop i (take n l) ≡ x = ap (λ (j : ℕ). drop i (take j l)) m ∙ drop-take i (n - i) l in
    a
    ∙ ap (λ (r : List Part). set r i p) b
    ∙ c
    ∙ ap (λ (r : List Part). r ++ x) d
    ∙ append_assoc (take i l) (p ∷ []) x
    ∙ sym (ap (λ (r : List Part). r ++ p ∷ drop i (take n l)) (take-take i n l h) ∙ ap (λ (r : List Part). take i l ++ p ∷ r) f)

module _ {s : Bytes} {t : Parts} {p : Part} {i : ℕ} (g : Good s t) (w : Within s p) (h : i ≤ length (held t)) (k : ¬ (t.n ≡ 32)) {u : List Part} (e : u ≡ copy_within t.parts i t.n (i + 1)) where
  pub insert-held : take (t.n + 1) (set u i p) ≡ insert (held t) i p
  insert-held = rw e (moved t.parts t.n i p (omega (arith, held-length g)) (omega (arith, g.fits, g.size, k)))

  pub insert-good : length u ≡ length t.parts → Good s (record { parts = set u i p; n = t.n + 1 })
  unfolding AllWithin
  insert-good l = record {
    fits = omega (arith, g.fits, k);
    size = length-set u i p ∙ l ∙ g.size;
    within = rw insert-held (within-append s (take i (held t)) (p ∷ drop i (held t)) (within-take s (held t) i g.within) (w, within-drop s (held t) i g.within));
  }
