-- What the machine writes of a text is at most as long as the text weighs (laws_text/Sizes): what is held back, and a space that is owed, are paid for by the
-- bytes that they came from.
use Rattle.std.specs.Prelude.{◌≡◌, ℕ, ◌+◌, ◌-◌, ◌≤◌, ◌<◌, Bool, cond, ◌&&◌, ◌||◌, not, [], ◌∷◌, ◌++◌, length, ltb}
use Rattle.std.proofs.Math.Path.{refl}
use Rattle.std.proofs.Math.Bool.{true, false}
use Rattle.std.proofs.lemmas.Bool.{false≢true}
use Rattle.std.proofs.Common.{arith, eqb-true, ltb-true, ne_eqb}
use Rattle.std.proofs.Math.ListN.{length-append}
use Rattle.std.proofs.Math.Dec.{eqb}
use Rattle.rules.specs.Text.Bytes.{Bytes, white}
use Rattle.laws_lists.specs.Tests.{and_left, and_right}
use Rattle.laws_text.specs.Sizes.{weight_of, weight, weighs}
use Rattle.laws_normal.specs.Whole.{shut₇, bars₆, due, inverse, forward, word, digits₉}
use Rattle.laws_normal.specs.Machine.{State, skips, spaces, kept_of, fresh, freshly, joins, joining, next_mode, next_gap, next, out, from, begin}
use Rattle.laws_normal.specs.OneGo.{highs}

-- a space that may have to be written: behind white space, or where one is due
unfoldable owed : ℕ → ℕ → ℕ
owed mode gap = cond (eqb mode 2 || not (eqb gap 0)) 1 0

abbrev kept : ℕ → ℕ
kept mode = length (kept_of mode)

-- a byte by itself weighs what is written of it, what of it is held back and the space that is due behind it
fresh-weight : (x : ℕ) → length (freshly x) + (kept (fresh x) + owed (fresh x) 0) ≤ weight_of x
unfolding fresh freshly word due weight_of owed kept_of
fresh-weight x = go (eqb x 226) (eqb x 62) (eqb x 60) (shut₇ x)
  where
    go : (a b c d : Bool)
        → length (cond a [] (cond b inverse (cond c forward (x ∷ [])))) + (kept (cond a 3 (cond (b || c) 2 (cond d 1 0))) + owed (cond a 3 (cond (b || c) 2 (cond d 1 0))) 0) ≤ cond (b || c) 10 1
    go true true c d = omega arith
    go true false true d = omega arith
    go true false false d = omega arith
    go false true c d = omega arith
    go false false true d = omega arith
    go false false false true = omega arith
    go false false false false = omega arith

pub fresh-most : (x : ℕ) → length (freshly x) ≤ 9
unfolding freshly word
fresh-most x = go (eqb x 226) (eqb x 62) (eqb x 60)
  where
    go : (a b c : Bool) → length (cond a [] (cond b inverse (cond c forward (x ∷ [])))) ≤ 9
    go true b c = omega arith
    go false true c = omega arith
    go false false true = omega arith
    go false false false = omega arith

-- where a space is written, one was owed
spaces-owed : (mode gap x : ℕ) → spaces mode gap x ≡ true → owed mode gap ≡ 1
unfolding spaces owed
spaces-owed mode gap x = go (eqb mode 2) (eqb mode 1 || bars₆ x) (eqb gap 0)
  where
    go : (a b c : Bool) → a || (not b && not c) ≡ true → ◌≡◌ {A = ℕ} (cond (a || not c) 1 0) 1
    go true b c e = refl
    go false b false e = refl
    go false true true e = absurd (false≢true e)
    go false false true e = absurd (false≢true e)

pub kept-most : (mode : ℕ) → length (kept_of mode) ≤ 3
unfolding kept_of
kept-most mode = go (eqb mode 3) (eqb mode 4) (ltb 79 mode)
  where
    go : (a b c : Bool) → length (cond a (226 ∷ []) (cond b (226 ∷ 130 ∷ []) (cond c (226 ∷ 130 ∷ mode ∷ []) []))) ≤ 3
    go true b c = omega arith
    go false true c = omega arith
    go false false true = omega arith
    go false false false = omega arith

high-kept : (mode : ℕ) → ltb 79 mode ≡ true → kept mode ≡ 3
unfolding kept_of
high-kept mode e =
    let h = ltb-true 79 mode e in
    rw (ne_eqb mode 3 (λ n. low 3 n h (omega arith)), ne_eqb mode 4 (λ n. low 4 n h (omega arith)), e)
  where
    low : (n : ℕ) → mode ≡ n → 79 < mode → n ≤ 79 → ⊥
    low n e h l = omega (arith, e, h, l)

digit-owed : (x : ℕ) → digits₉ x ≡ true → owed x 0 ≡ 0
unfolding owed
digit-owed x e = rw (highs x e).not₂

-- a byte right behind the one before it
module _ (mode x : ℕ) where
  abbrev Fits : Type 0
  Fits = length (joining mode x) + (kept (joins mode x) + owed (joins mode x) 0) ≤ kept mode + weight_of x

  fits_last : eqb mode 3 && eqb x 130 ≡ false → eqb mode 4 && digits₉ x ≡ false → (c : Bool) → ltb 79 mode && eqb x 61 ≡ c → Fits
  fits_last e f true g =
      let h = high-kept mode (and_left (ltb 79 mode) (eqb x 61) g) in
      let q : x ≡ 61 = eqb-true x 61 (and_right (ltb 79 mode) (eqb x 61) g) in
      let j : joining mode x ≡ 95 ∷ (mode - 80) ∷ 61 ∷ [] = unfold joining in rw (e, f, g) in
      let k : joins mode x ≡ fresh x = unfold joins in rw (e, f) in
      rw (j, k) (omega (arith, h, equals-kept q, (weighs x).0))
    where
      equals-kept : x ≡ 61 → kept (fresh x) + owed (fresh x) 0 ≡ 0
      equals-kept q = rw q (unfold fresh due kept_of owed in refl)
  fits_last e f false g =
      let j : joining mode x ≡ kept_of mode ++ freshly x = unfold joining in rw (e, f, g) in
      let k : joins mode x ≡ fresh x = unfold joins in rw (e, f) in
      rw (j, k) (omega (arith, length-append (kept_of mode) (freshly x), fresh-weight x))

  fits-second : eqb mode 3 && eqb x 130 ≡ false → (b : Bool) → eqb mode 4 && digits₉ x ≡ b → Fits
  fits-second e true f =
      let d = and_right (eqb mode 4) (digits₉ x) f in
      let j : joining mode x ≡ [] = unfold joining in rw (e, f) in
      let k : joins mode x ≡ x = unfold joins in rw (e, f) in
      rw (j, k) (omega (arith, two (eqb-true mode 4 (and_left (eqb mode 4) (digits₉ x) f)), digit-owed x d, kept-most x, (weighs x).0))
    where
      two : mode ≡ 4 → kept mode ≡ 2
      two m = rw m (unfold kept_of in refl)
  fits-second e false f = fits_last e f (ltb 79 mode && eqb x 61) refl

  fits-first : (a : Bool) → eqb mode 3 && eqb x 130 ≡ a → Fits
  fits-first true e =
      let j : joining mode x ≡ [] = unfold joining in rw e in
      let k : joins mode x ≡ 4 = unfold joins in rw e in
      rw (j, k) (omega (arith, one (eqb-true mode 3 (and_left (eqb mode 3) (eqb x 130) e)), four, (weighs x).0))
    where
      one : mode ≡ 3 → kept mode ≡ 1
      one m = rw m (unfold kept_of in refl)

      four : kept 4 + owed 4 0 ≡ 2
      four = unfold kept_of owed in refl
  fits-first false e = fits-second e (eqb mode 4 && digits₉ x) refl

  joins-weight : Fits
  joins-weight = fits-first (eqb mode 3 && eqb x 130) refl

owed-most : (mode gap : ℕ) → owed mode gap ≤ 1
unfolding owed
owed-most mode gap = go (eqb mode 2 || not (eqb gap 0))
  where
    go : (b : Bool) → ◌≤◌ (cond b 1 0) 1
    go true = omega arith
    go false = omega arith

-- a byte in any state: what is written, and what is held back and owed behind it
module _ (mode gap x : ℕ) where
  abbrev Pays : Type 0
  Pays = length (out mode gap x) + (kept (next_mode mode gap x) + owed (next_mode mode gap x) (next_gap gap x)) ≤ kept mode + (owed mode gap + weight_of x)

  pays-word : skips gap x ≡ false → white x ≡ false → (b : Bool) → spaces mode gap x ≡ b → Pays
  unfolding out next_mode next_gap
  pays-word e f true g = rw (e, f, g, length-append (kept_of mode) (32 ∷ freshly x)) (omega (arith, spaces-owed mode gap x g, fresh-weight x))
  pays-word e f false g = rw (e, f, g) (omega (arith, joins-weight mode x))

  pays-white : skips gap x ≡ false → white x ≡ true → Pays
  unfolding out next_mode next_gap
  pays-white e f = rw (e, f) (omega (arith, owed-most mode (cond (eqb x 10) 2 1), (weighs x).0))

  pays-skip : skips gap x ≡ true → Pays
  unfolding out next_mode next_gap
  pays-skip e = rw e (omega (arith, owed-most mode 1, (weighs x).0))

  pays : Pays
  pays = go (skips gap x) refl (white x) refl
    where
      go : (a : Bool) → skips gap x ≡ a → (b : Bool) → white x ≡ b → Pays
      go true e b f = pays-skip e
      go false e true f = pays-white e f
      go false e false f = pays-word e f (spaces mode gap x) refl

from-weight : (s : State) (t : Bytes) → length (from s t) ≤ kept s.mode + (owed s.mode s.gap + weight t)
unfolding from weight next
from-weight s [] = omega arith
from-weight s (x ∷ t) = omega (arith, length-append (out s.mode s.gap x) (from (next s x) t), pays s.mode s.gap x, from-weight (next s x) t)

-- from its beginning on
pub begin-weight : (t : Bytes) → length (from begin t) ≤ weight t
unfolding begin kept_of owed
begin-weight t = omega (arith, from-weight begin t)
