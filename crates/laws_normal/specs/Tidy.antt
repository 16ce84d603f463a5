-- The first squeeze and the first fourteen replacements are one scan, `tidy`.
use Rattle.std.specs.Prelude.{◌≡◌, Bool, ◌&&◌, ◌||◌, not, eqb, leb}
use Rattle.std.proofs.Math.Path.{refl, ap}
use Rattle.std.proofs.Common.{sym, ◌∙◌, eqb-true}
use Prim.Native.Nat.{ℕ, zero}
use Rattle.std.proofs.Math.Bool.{true, false, cond}
use Rattle.std.proofs.lemmas.Bool.{false≢true}
use mathlib.Core.List.{[], ◌∷◌, ◌++◌, append_assoc}
use Rattle.rules.specs.Text.Lists.{kept, non_empty}
use Rattle.rules.specs.Text.Bytes.{Bytes, Words, white, starts, replace_from, cut, words, after_each, joined_by, joined}
use Rattle.laws_text.specs.Passes.{in_word, grow, words-cons}
use Rattle.laws_normal.specs.Scans.{byte, never, or, lead, dropped, held, tidy, alone}

-- ---- bytes

pub white-space : (x : ℕ) → white x ≡ false → eqb x 32 ≡ false
unfolding white
white-space x e = go (eqb x 32) e
  where
    go : (b : Bool) → (b || (leb 9 x && leb x 13)) ≡ false → b ≡ false
    go true f = f
    go false f = refl

-- ---- a replacement of two bytes by one of them

pub dropped-not : (test : ℕ → Bool) (q x : ℕ) (t : Bytes) → dropped test q false (x ∷ t) ≡ x ∷ dropped test q (test x) t
unfolding dropped
dropped-not test q x t = go (eqb x q)
  where
    go : (b : Bool) → cond (b && false) (dropped test q false t) (x ∷ dropped test q (test x) t) ≡ x ∷ dropped test q (test x) t
    go true = refl
    go false = refl

-- p q becomes p
pub replace-first : (p q : ℕ) (t : Bytes) → replace_from zero (p ∷ q ∷ []) (p ∷ []) t ≡ dropped (byte p) q false t
unfolding replace_from starts dropped
replace-first p q [] = refl
replace-first p q (x ∷ []) = go (eqb x p) ∙ sym (dropped-not (byte p) q x [])
  where
    go : (b : Bool) → cond (b && false) (p ∷ []) (x ∷ []) ≡ x ∷ []
    go true = refl
    go false = refl
replace-first p q (x ∷ y ∷ t) =
    go (eqb x p) refl (eqb y q) refl (replace-first p q t) (replace-first p q (y ∷ t) ∙ dropped-not (byte p) q y t) ∙ sym (dropped-not (byte p) q x (y ∷ t))
  where
    go : (b : Bool) → eqb x p ≡ b → (c : Bool) → eqb y q ≡ c
        → replace_from zero (p ∷ q ∷ []) (p ∷ []) t ≡ dropped (byte p) q false t
        → replace_from zero (p ∷ q ∷ []) (p ∷ []) (y ∷ t) ≡ y ∷ dropped (byte p) q (eqb y p) t
        → cond (b && (c && true)) (p ∷ replace_from zero (p ∷ q ∷ []) (p ∷ []) t) (x ∷ replace_from zero (p ∷ q ∷ []) (p ∷ []) (y ∷ t))
        ≡ x ∷ cond (c && b) (dropped (byte p) q false t) (y ∷ dropped (byte p) q (eqb y p) t)
    go true e true f i j = rw (i, eqb-true x p e)
    go true e false f i j = ap (λ (u : Bytes). x ∷ u) j
    go false e true f i j = ap (λ (u : Bytes). x ∷ u) j
    go false e false f i j = ap (λ (u : Bytes). x ∷ u) j

-- a space and s become s
pub replace-second : (s : ℕ) → eqb s 32 ≡ false → (t : Bytes)
    → (replace_from zero (32 ∷ s ∷ []) (s ∷ []) t ≡ held (byte s) false t) × (replace_from zero (32 ∷ s ∷ []) (s ∷ []) (32 ∷ t) ≡ held (byte s) true t)
unfolding replace_from starts held lead
replace-second s n [] = (refl, refl)
replace-second s n (x ∷ t) = go (eqb x 32) refl (eqb x s) refl (replace-second s n t)
  where
    old : Bytes
    old = 32 ∷ s ∷ []

    clash : eqb x 32 ≡ true → eqb x s ≡ true → ⊥
    clash e f = let p = eqb-true x 32 e in let q = eqb-true x s f in false≢true (sym (rw (sym q ∙ p) at n))

    go : (b : Bool) → eqb x 32 ≡ b → (c : Bool) → eqb x s ≡ c
        → (replace_from zero old (s ∷ []) t ≡ held (byte s) false t) × (replace_from zero old (s ∷ []) (32 ∷ t) ≡ held (byte s) true t)
        → (replace_from zero old (s ∷ []) (x ∷ t) ≡ cond b (held (byte s) true t) (x ∷ held (byte s) false t))
        × (cond (c && true) (s ∷ replace_from zero old (s ∷ []) t) (32 ∷ replace_from zero old (s ∷ []) (x ∷ t))
        ≡ cond b (32 ∷ held (byte s) true t) (lead (true && not c) (x ∷ held (byte s) false t)))
    go true e true f i = absurd (clash e f)
    go true e false f i = (rw (eqb-true x 32 e) i.1, rw (eqb-true x 32 e) (ap (λ (u : Bytes). 32 ∷ u) i.1))
    go false e true f i = (rw e (ap (λ (u : Bytes). x ∷ u) i.0), rw (eqb-true x s f, i.0))
    go false e false f i = (rw e (ap (λ (u : Bytes). x ∷ u) i.0), rw e (ap (λ (u : Bytes). 32 ∷ x ∷ u) i.0))

-- ---- one space between words

-- each word after a space
abbrev spaced : Words → Bytes
spaced ws = after_each (32 ∷ []) ws

-- what follows within a word
within : Bytes → Bytes
within t = cond (in_word t) (joined (words t)) (spaced (words t))

grow-grow : (x y : ℕ) (b : Bool) (ws : Words) → joined (grow x true (grow y b ws)) ≡ x ∷ joined (grow y b ws)
unfolding joined joined_by grow
grow-grow x y true [] = refl
grow-grow x y true (w ∷ ws) = refl
grow-grow x y false ws = refl

-- x before y, which is white or not, before a text with the words ws
grow-before : (x y : ℕ) (white? b : Bool) (ws : Words)
    → let vs = cond white? ws (grow y b ws) in
    joined (grow x (not white?) vs) ≡ x ∷ cond (not white?) (joined vs) (spaced vs)
unfolding joined joined_by grow
grow-before x y true b ws = refl
grow-before x y false b ws = grow-grow x y b ws

joined-grow : (x : ℕ) (t : Bytes) → joined (grow x (in_word t) (words t)) ≡ x ∷ within t
unfolding in_word within
joined-grow x [] = unfold joined joined_by after_each grow words kept non_empty cut in refl
joined-grow x (y ∷ t) = rw (words-cons y t) (grow-before x y (white y) (in_word t) (words t))

spaced-grow : (x : ℕ) (b : Bool) (ws : Words) → spaced (grow x b ws) ≡ 32 ∷ joined (grow x b ws)
unfolding after_each grow joined joined_by
spaced-grow x true [] = refl
spaced-grow x true (w ∷ ws) = refl
spaced-grow x false ws = refl

within-is : (x : ℕ) (t : Bytes) (b : Bool) → white x ≡ b → within (x ∷ t) ≡ cond b (spaced (words t)) (x ∷ within t)
unfolding within in_word
within-is x t true e = rw (words-cons x t, e)
within-is x t false e = rw (words-cons x t, e) (unfold within in joined-grow x t)

spaced-is : (x : ℕ) (t : Bytes) (b : Bool) → white x ≡ b → spaced (words (x ∷ t)) ≡ cond b (spaced (words t)) (32 ∷ x ∷ within t)
spaced-is x t true e = rw (words-cons x t, e)
spaced-is x t false e = rw (words-cons x t, e, spaced-grow) (ap (λ (l : Bytes). 32 ∷ l) (joined-grow x t))

joined_is : (x : ℕ) (t : Bytes) (b : Bool) → white x ≡ b → joined (words (x ∷ t)) ≡ cond b (joined (words t)) (x ∷ within t)
joined_is x t true e = rw (words-cons x t, e)
joined_is x t false e = rw (words-cons x t, e) (joined-grow x t)

within_end : within [] ≡ []
unfolding within in_word words kept non_empty cut joined joined_by after_each
within_end = refl

joined_end : joined (words []) ≡ []
unfolding words kept non_empty cut joined joined_by
joined_end = refl

spaced-end : spaced (words []) ≡ []
unfolding words kept non_empty cut after_each
spaced-end = refl

abbrev plainly : ℕ → Bool → Bytes → Bytes
plainly last gap t = tidy (byte 32) never alone last gap t

-- where a squeeze stands: before the first word, within one, or after one
pub data Place : Type 0 where
  start inside after : Place

-- what a squeeze still writes
unfoldable pub squeeze : Place → Bytes → Bytes
squeeze start t = joined (words t)
squeeze inside t = cond (in_word t) (joined (words t)) (spaced (words t))
squeeze after t = spaced (words t)

unfoldable pub space_due : Place → Bool
space_due start = false
space_due inside = false
space_due after = true

unfoldable pub past_white : Place → Place
past_white start = start
past_white inside = after
past_white after = after

pub squeeze-end : (p : Place) → squeeze p [] ≡ []
unfolding squeeze within
squeeze-end start = joined_end
squeeze-end inside = within_end
squeeze-end after = spaced-end

pub squeeze-white : (p : Place) (x : ℕ) (t : Bytes) → white x ≡ true → squeeze p (x ∷ t) ≡ squeeze (past_white p) t
unfolding squeeze within past_white
squeeze-white start x t e = joined_is x t true e
squeeze-white inside x t e = within-is x t true e
squeeze-white after x t e = spaced-is x t true e

pub squeeze-byte : (p : Place) (x : ℕ) (t : Bytes) → white x ≡ false → squeeze p (x ∷ t) ≡ lead (space_due p) (x ∷ squeeze inside t)
unfolding squeeze within space_due lead
squeeze-byte start x t e = joined_is x t false e
squeeze-byte inside x t e = within-is x t false e
squeeze-byte after x t e = spaced-is x t false e

squeezing : (t : Bytes)
    → ((gap : Bool) → joined (words t) ≡ plainly 32 gap t)
    × ((last : ℕ) → eqb last 32 ≡ false → within t ≡ plainly last false t)
    × ((last : ℕ) → eqb last 32 ≡ false → spaced (words t) ≡ plainly last true t)
unfolding tidy lead
squeezing [] = (λ gap. joined_end, λ last n. within_end, λ last n. spaced-end)
squeezing (x ∷ t) = go (white x) refl (squeezing t)
  where
    go : (b : Bool) → white x ≡ b
        → (((gap : Bool) → joined (words t) ≡ plainly 32 gap t)
        × ((last : ℕ) → eqb last 32 ≡ false → within t ≡ plainly last false t)
        × ((last : ℕ) → eqb last 32 ≡ false → spaced (words t) ≡ plainly last true t))
        → (((gap : Bool) → joined (words (x ∷ t)) ≡ plainly 32 gap (x ∷ t))
        × ((last : ℕ) → eqb last 32 ≡ false → within (x ∷ t) ≡ plainly last false (x ∷ t))
        × ((last : ℕ) → eqb last 32 ≡ false → spaced (words (x ∷ t)) ≡ plainly last true (x ∷ t)))
    go true e i = (
      λ gap. joined_is x t true e ∙ rw e (i.0 true),
      λ last n. within-is x t true e ∙ rw e (i.2 last n),
      λ last n. spaced-is x t true e ∙ rw e (i.2 last n),
    )
    go false e i =
        let m = i.1 x (white-space x e) in (
          λ gap. joined_is x t false e ∙ rw e (ap (λ (u : Bytes). x ∷ u) m),
          λ last n. within-is x t false e ∙ rw (e, n) (ap (λ (u : Bytes). x ∷ u) m),
          λ last n. spaced-is x t false e ∙ rw (e, n) (ap (λ (u : Bytes). 32 ∷ x ∷ u) m),
        )

pub squeezed-tidy : (t : Bytes) → joined (words t) ≡ tidy (byte 32) never alone 32 false t
squeezed-tidy t = (squeezing t).0 false

-- ---- the replacements that take a space away

-- `s ` becomes `s`
module _ (test shut bars : ℕ → Bool) (emit : ℕ → Bytes)
    (passes : (x : ℕ) → white x ≡ false → (r : Bytes) (b : Bool) → dropped test 32 b (emit x ++ r) ≡ emit x ++ dropped test 32 (test x) r) where
  drop-lead : (u v : Bytes) → ((b : Bool) → dropped test 32 b u ≡ v) → (a b c g : Bool)
      → dropped test 32 a (lead (not (b || c) && g) u) ≡ lead (not ((a || b) || c) && g) v
  unfolding dropped lead
  drop-lead u v h true true c g = h true
  drop-lead u v h true false true g = h true
  drop-lead u v h true false false true = h false
  drop-lead u v h true false false false = h true
  drop-lead u v h false true c g = h false
  drop-lead u v h false false true g = h false
  drop-lead u v h false false false true = ap (λ (u : Bytes). 32 ∷ u) (h (test 32))
  drop-lead u v h false false false false = h false

  pub tidy-dropped : (last : ℕ) (gap : Bool) (t : Bytes)
      → dropped test 32 (test last) (tidy shut bars emit last gap t) ≡ tidy (or test shut) bars emit last gap t
  unfolding tidy
  tidy-dropped last gap [] = unfold dropped in refl
  tidy-dropped last gap (x ∷ t) = go (white x) refl (tidy-dropped last true t) (tidy-dropped x false t)
    where
      go : (w : Bool) → white x ≡ w
          → dropped test 32 (test last) (tidy shut bars emit last true t) ≡ tidy (or test shut) bars emit last true t
          → dropped test 32 (test x) (tidy shut bars emit x false t) ≡ tidy (or test shut) bars emit x false t
          → dropped test 32 (test last) (cond w (tidy shut bars emit last true t) (lead (not (shut last || bars x) && gap) (emit x ++ tidy shut bars emit x false t)))
          ≡ cond w (tidy (or test shut) bars emit last true t) (lead (not ((test last || shut last) || bars x) && gap) (emit x ++ tidy (or test shut) bars emit x false t))
      go true e i j = i
      go false e i j =
          rw (← j) (drop-lead (emit x ++ tidy shut bars emit x false t) (emit x ++ dropped test 32 (test x) (tidy shut bars emit x false t)) (passes x e (tidy shut bars emit x false t)) (test last) (shut last) (bars x) gap)

pub alone-passes : (test : ℕ → Bool) (x : ℕ) → white x ≡ false → (r : Bytes) (b : Bool) → dropped test 32 b (alone x ++ r) ≡ alone x ++ dropped test 32 (test x) r
unfolding dropped
alone-passes test x e r b = rw (white-space x e)

module _ (test shut bars : ℕ → Bool) where
  -- ` s` becomes `s`
  hold-lead : (x : ℕ) (r : Bytes) → eqb x 32 ≡ false → (a b c g : Bool) → test x ≡ a
      → held test false (lead (not (b || c) && g) (x ∷ r)) ≡ lead (not (b || (a || c)) && g) (x ∷ held test false r)
  unfolding held lead
  hold-lead x r n a true c g e = rw n
  hold-lead x r n true false true g e = rw n
  hold-lead x r n true false false true e = rw (n, e)
  hold-lead x r n true false false false e = rw n
  hold-lead x r n false false true g e = rw n
  hold-lead x r n false false false true e = rw (n, e)
  hold-lead x r n false false false false e = rw n

  pub tidy-held : (last : ℕ) (gap : Bool) (t : Bytes) → held test false (tidy shut bars alone last gap t) ≡ tidy shut (or test bars) alone last gap t
  unfolding tidy
  tidy-held last gap [] = unfold held lead in refl
  tidy-held last gap (x ∷ t) = go (white x) refl (tidy-held last true t) (tidy-held x false t)
    where
      go : (w : Bool) → white x ≡ w
          → held test false (tidy shut bars alone last true t) ≡ tidy shut (or test bars) alone last true t
          → held test false (tidy shut bars alone x false t) ≡ tidy shut (or test bars) alone x false t
          → held test false (cond w (tidy shut bars alone last true t) (lead (not (shut last || bars x) && gap) (x ∷ tidy shut bars alone x false t)))
          ≡ cond w (tidy shut (or test bars) alone last true t) (lead (not (shut last || (test x || bars x)) && gap) (x ∷ tidy shut (or test bars) alone x false t))
      go true e i j = i
      go false e i j = rw (← j) (hold-lead x (tidy shut bars alone x false t) (white-space x e) (test x) (shut last) (bars x) gap refl)

-- ---- the replacements of one byte

module _ (c : ℕ) (new : Bytes) where
  spread : Bytes → Bytes
  spread t = replace_from zero (c ∷ []) new t

  spread-append : (a b : Bytes) → spread (a ++ b) ≡ spread a ++ spread b
  unfolding spread replace_from starts
  spread-append [] b = refl
  spread-append (x ∷ a) b = go (eqb x c) (spread-append a b)
    where
      go : (e : Bool) → replace_from zero (c ∷ []) new (a ++ b) ≡ replace_from zero (c ∷ []) new a ++ replace_from zero (c ∷ []) new b
          → cond (e && true) (new ++ replace_from zero (c ∷ []) new (a ++ b)) (x ∷ replace_from zero (c ∷ []) new (a ++ b))
          ≡ cond (e && true) (new ++ replace_from zero (c ∷ []) new a) (x ∷ replace_from zero (c ∷ []) new a) ++ replace_from zero (c ∷ []) new b
      go true i = rw i (sym (append_assoc new _ _))
      go false i = ap (λ (u : Bytes). x ∷ u) i

  spread-lead : eqb 32 c ≡ false → (b : Bool) (t : Bytes) → spread (lead b t) ≡ lead b (spread t)
  unfolding lead spread replace_from starts
  spread-lead n true t = rw n
  spread-lead n false t = refl

  pub tidy-spread : eqb 32 c ≡ false → (shut bars : ℕ → Bool) (emit : ℕ → Bytes) (last : ℕ) (gap : Bool) (t : Bytes)
      → replace_from zero (c ∷ []) new (tidy shut bars emit last gap t) ≡ tidy shut bars (λ (x : ℕ). replace_from zero (c ∷ []) new (emit x)) last gap t
  unfolding tidy spread
  tidy-spread n shut bars emit last gap [] = unfold replace_from in refl
  tidy-spread n shut bars emit last gap (x ∷ t) = go (white x) (tidy-spread n shut bars emit last true t) (tidy-spread n shut bars emit x false t)
    where
      emit₁ : ℕ → Bytes
      emit₁ x = replace_from zero (c ∷ []) new (emit x)

      go : (w : Bool)
          → spread (tidy shut bars emit last true t) ≡ tidy shut bars emit₁ last true t
          → spread (tidy shut bars emit x false t) ≡ tidy shut bars emit₁ x false t
          → spread (cond w (tidy shut bars emit last true t) (lead (not (shut last || bars x) && gap) (emit x ++ tidy shut bars emit x false t)))
          ≡ cond w (tidy shut bars emit₁ last true t) (lead (not (shut last || bars x) && gap) (emit₁ x ++ tidy shut bars emit₁ x false t))
      go true i j = i
      go false i j = rw (← j) (spread-lead n (not (shut last || bars x) && gap) (emit x ++ tidy shut bars emit x false t) ∙ ap (lead (not (shut last || bars x) && gap)) (spread-append (emit x) (tidy shut bars emit x false t)))
