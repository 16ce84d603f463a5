-- The place where a part goes: the invariant of its loop, and its laws; and the table with it in.
use mathlib.Core.Path.{◌≡◌, refl, sym, ap, ◌∙◌}
use mathlib.Core.List.{List, [], ◌∷◌, ◌++◌}
use Prim.Native.Nat.{ℕ, zero, suc, ◌+◌, ◌≤◌, ◌<◌}
use native.Mathlib.Numerals.{add-one}
use native.Mathlib.Omega.{arith}
use lib.ListN.{length, take, drop, get_or, drop_of_length-le}
use lib.Seq.{length-take-le, take-suc, set_split, drop-cons, append_snoc}
use Rattle.std.specs.Prelude.{Ok, Err}
use Rattle.std.specs.declared.cmp.Ordering.TheVariants.{Less, Equal, Greater}
use Rattle.rules.specs.Text.Bytes.{Bytes}
use Rattle.rules.specs.Text.Parameters.{entered_by}
use Rattle.parameters.specs.declared.table.Part.{Part}
use Rattle.parameters.specs.Parts.{Parts, key_of, held, Within, AllWithin, Good, parts_with, Found}
use Rattle.parameters.proofs.Order.{Ordered}

-- ---- within the text

pub within-at : (s : Bytes) (l : List Part) (i : ℕ) (d : Part) → AllWithin s l → i < length l → Within s (get_or l i d)
unfolding AllWithin
within-at s [] i d a h = absurd (omega arith)
within-at s (x ∷ l) zero d a h = a.0
within-at s (x ∷ l) (suc i) d a h = within-at s l i d a.1 (omega arith)

pub held-length : {s : Bytes} {t : Parts} → Good s t → length (held t) ≡ t.n
held-length {s} {t} g = length-take-le t.n t.parts (omega (arith, g.fits, g.size))

-- each part of the table is
pub held-within : {s : Bytes} {t : Parts} {l : List Part} → Good s t → l ≡ held t → (i : ℕ) (d : Part) → i < length l → Within s (get_or l i d)
held-within {s} {t} {l} g e i d h = within-at s l i d (rw e g.within) h

pub items-few : {s : Bytes} {t : Parts} {l : List Part} → Good s t → l ≡ held t → length l ≤ 32
items-few g e = rw e (omega (arith, held-length g, g.fits))

-- ---- the place

-- the first i parts come before p
pub record Seeks (s : Bytes) (l : List Part) (p : Part) (i : ℕ) : Type 0 where
  pub within : i ≤ length l
  pub skips : parts_with s p l ≡ take i l ++ parts_with s p (drop i l)

pub seeks-none : (s : Bytes) (l : List Part) (p : Part) → Seeks s l p 0
seeks-none s l p = record { within = omega arith; skips = refl }

module _ {s : Bytes} {l : List Part} {p : Part} {i : ℕ} (m : Seeks s l p i) where
  module _ (d : Part) (h : i < length l) where
    next : drop i l ≡ get_or l i d ∷ drop (i + 1) l
    next = rw (add-one i) (drop-cons l i d h)

    pub seeks-past : Ordered (key_of s p) (key_of s (get_or l i d)) Greater → Seeks s l p (i + 1)
    unfolding entered_by
    seeks-past o = record {
      within = omega arith;
      skips =
          let past : parts_with s p (get_or l i d ∷ drop (i + 1) l) ≡ get_or l i d ∷ parts_with s p (drop (i + 1) l) = rw (o.0, o.1) in
          let a : take (i + 1) l ≡ take i l ++ (get_or l i d ∷ []) = rw (add-one i) (take-suc l i d h) in
          m.skips
          ∙ ap (λ (r : List Part). take i l ++ parts_with s p r) next
          ∙ ap (λ (r : List Part). take i l ++ r) past
          ∙ sym (ap (λ (r : List Part). r ++ parts_with s p (drop (i + 1) l)) a ∙ append_snoc (take i l) (get_or l i d) (parts_with s p (drop (i + 1) l)));
    }

    pub seeks-there : Ordered (key_of s p) (key_of s (get_or l i d)) Equal → Found s l p (Ok i)
    unfolding entered_by
    seeks-there o =
        let there : parts_with s p (get_or l i d ∷ drop (i + 1) l) ≡ p ∷ drop (i + 1) l = rw o in (
          h,
          m.skips ∙ ap (λ (r : List Part). take i l ++ parts_with s p r) next ∙ ap (λ (r : List Part). take i l ++ r) there ∙ sym (rw (add-one i) (set_split l i p h)),
        )

    pub seeks-before : Ordered (key_of s p) (key_of s (get_or l i d)) Less → Found s l p (Err i)
    unfolding entered_by
    seeks-before o =
        let before : parts_with s p (get_or l i d ∷ drop (i + 1) l) ≡ p ∷ drop i l = rw (o.0, o.1) (ap (λ (r : List Part). p ∷ r) (sym next)) in (
          m.within,
          m.skips
              ∙ ap (λ (r : List Part). take i l ++ parts_with s p r) next
              ∙ ap (λ (r : List Part). take i l ++ r) before,
        )

  pub seeks-end : {n : ℕ} → length l ≤ i → length l ≡ n → Found s l p (Err n)
  unfolding entered_by
  seeks-end {n} h e =
      let k : i ≡ n = omega (arith, m.within) in
      let end : parts_with s p (drop i l) ≡ p ∷ drop i l = rw (drop_of_length-le l h) in
      let found : Found s l p (Err i) = (m.within, m.skips ∙ ap (λ (r : List Part). take i l ++ r) end) in
      rw k at found
