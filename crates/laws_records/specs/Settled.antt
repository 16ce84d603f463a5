-- Calm texts are settled: trimming, squeezing and stripping comments leave them, and they are in the domain. Cutting what was
-- joined gives the parts again.
use Rattle.std.specs.Prelude.{◌≡◌, ℕ, Bool, ◌&&◌, ◌||◌}
use Rattle.std.proofs.Math.Path.{refl, ap}
use Rattle.std.proofs.Common.{sym, ◌∙◌, true≢false}
use Rattle.std.proofs.Math.Bool.{true, false, not}
use Rattle.std.proofs.lemmas.Bool.{false≢true}
use mathlib.Core.List.{List, [], ◌∷◌, ◌++◌, flat_map, append-nil}
use borrow.Author.Tests.{eqb-true, not-true}
use Rattle.std.proofs.Math.Dec.{eqb, ltb}
use Rattle.rules.specs.Text.Ascii.{ascii, is}
use Rattle.rules.specs.Text.Lists.{any_of, all_of, kept, non_empty}
use Rattle.rules.specs.Text.Bytes.{Bytes, Words, white, in_domain, trim_start, trim_end, trimmed, before, behind, onto, cut, words, after_each, joined_by, joined}
use Rattle.rules.specs.Text.Normal.{squeezed, continued}
use Rattle.rules.specs.Text.Comments.{newlines, uncommented, lined, stripped}
use Rattle.laws_lists.specs.Tests.{and_left, and_right, or_left, or_right, below, never}
use Rattle.laws_text.specs.Passes.{in_word, grow, words-cons, domain-ascii}
use Rattle.laws_records.specs.Calm.{known, firm, middle, follows, so, known_so, firm-so, firm-known, follows-known, end_of, quiet, quiet-first, quiet-rest, calm, shut, replace-calm}

-- ---- the ends

pub calm-head : (x : ℕ) (t : Bytes) → calm (x ∷ t) ≡ true → firm x ≡ true
unfolding calm
calm-head x t h = and_left (firm x) _ h

pub calm-quiet : (x : ℕ) (t : Bytes) → calm (x ∷ t) ≡ true → quiet x t ≡ true
unfolding calm
calm-quiet x t h = and_left (quiet x t) _ (and_right (firm x) _ h)

pub calm-end : (x : ℕ) (t : Bytes) → calm (x ∷ t) ≡ true → firm (end_of x t) ≡ true
unfolding calm
calm-end x t h = and_right (quiet x t) _ (and_right (firm x) _ h)

-- a test that no firm byte passes trims nothing
module _ (test : ℕ → Bool) where
  not-all : (x : ℕ) (t : Bytes) → test (end_of x t) ≡ false → all_of test (x ∷ t) ≡ false
  unfolding all_of end_of
  not-all x [] h = rw h
  not-all x (y ∷ t) h = rw (not-all y t h) (go (test x))
    where
      go : (b : Bool) → b && false ≡ false
      go true = refl
      go false = refl

  trim-end : (x : ℕ) (t : Bytes) → test (end_of x t) ≡ false → trim_end test (x ∷ t) ≡ x ∷ t
  unfolding trim_end
  trim-end x [] h = rw (not-all x [] h)
  trim-end x (y ∷ t) h = rw (not-all x (y ∷ t) h) (ap (λ (u : Bytes). x ∷ u) (trim-end y t (unfold end_of in h)))

  pub trim-calm : below 127 (λ b. so (firm b) (not (test b))) ≡ true → (t : Bytes) → calm t ≡ true → trimmed test t ≡ t
  unfolding trimmed trim_start
  trim-calm f [] h = absurd (false≢true (unfold calm in h))
  trim-calm f (x ∷ t) h =
      let a = not-true (test x) (firm-so (λ b. not (test b)) f x (calm-head x t h)) in
      let b = not-true (test (end_of x t)) (firm-so (λ b. not (test b)) f (end_of x t) (calm-end x t h)) in
      rw a (trim-end x t b)

  -- one that no known byte passes is passed by none
  none-quiet : below 127 (λ b. so (known b) (not (test b))) ≡ true → (p : ℕ) (t : Bytes) → quiet p t ≡ true → any_of test t ≡ false
  unfolding any_of
  none-quiet f p [] h = refl
  none-quiet f p (x ∷ t) h =
      let a = not-true (test x) (known_so (λ b. not (test b)) f x (follows-known p x (quiet-first p x t h))) in
      rw a (none-quiet f x t (quiet-rest p x t h))

  pub none-calm : below 127 (λ b. so (known b) (not (test b))) ≡ true → (t : Bytes) → calm t ≡ true → any_of test t ≡ false
  none-calm f [] h = absurd (false≢true (unfold calm in h))
  none-calm f (x ∷ t) h =
      let a = not-true (test x) (known_so (λ b. not (test b)) f x (firm-known x (calm-head x t h))) in
      unfold any_of in rw a (none-quiet f x t (calm-quiet x t h))

  -- ---- cutting

  pub cut-none : (t : Bytes) → any_of test t ≡ false → cut test t ≡ t ∷ []
  unfolding any_of cut onto
  cut-none [] h = refl
  cut-none (x ∷ t) h = rw (or_left (test x) (any_of test t) h, cut-none t (or_right (test x) (any_of test t) h))

  cut_at : (w : Bytes) (b : ℕ) (r : Bytes) → any_of test w ≡ false → test b ≡ true → cut test (w ++ (b ∷ r)) ≡ w ∷ cut test r
  unfolding any_of cut onto
  cut_at [] b r h e = rw e
  cut_at (x ∷ w) b r h e = rw (or_left (test x) (any_of test w) h, cut_at w b r (or_right (test x) (any_of test w) h) e)

  -- no byte of the text passes it
  unfoldable pub lacks : Bytes → Bool
  lacks w = not (any_of test w)

  pub lacking : (w : Bytes) → lacks w ≡ true → any_of test w ≡ false
  unfolding lacks
  lacking w h = not-true (any_of test w) h

  pub cut-joined : (b : ℕ) → test b ≡ true → (w : Bytes) (ws : List Bytes) → all_of lacks (w ∷ ws) ≡ true → cut test (joined_by (b ∷ []) (w ∷ ws)) ≡ w ∷ ws
  unfolding all_of joined_by after_each
  cut-joined b e w ws h = go w ws h
    where
      go : (w : Bytes) (ws : List Bytes) → all_of lacks (w ∷ ws) ≡ true → cut test (w ++ after_each (b ∷ []) ws) ≡ w ∷ ws
      go w [] h = rw (append-nil w) (cut-none w (lacking w (and_left (lacks w) _ h)))
      go w (v ∷ ws) h =
          cut_at w b (v ++ after_each (b ∷ []) ws) (lacking w (and_left (lacks w) _ h)) e ∙ ap (λ (ps : List Bytes). w ∷ ps) (go v ws (and_right (lacks w) _ h))

  pub before-none : (t : Bytes) → any_of test t ≡ false → before test t ≡ t
  unfolding any_of before
  before-none [] h = refl
  before-none (x ∷ t) h = rw (or_left (test x) (any_of test t) h) (ap (λ (u : Bytes). x ∷ u) (before-none t (or_right (test x) (any_of test t) h)))

  pub behind-none : (t : Bytes) → any_of test t ≡ false → behind test t ≡ []
  unfolding any_of behind
  behind-none [] h = refl
  behind-none (x ∷ t) h = rw (or_left (test x) (any_of test t) h) (behind-none t (or_right (test x) (any_of test t) h))

pub kept-all : {A : Type 0} (test : A → Bool) (l : List A) → all_of test l ≡ true → kept test l ≡ l
unfolding all_of kept
kept-all test [] h = refl
kept-all {A} test (x ∷ l) h = rw (and_left (test x) (all_of test l) h) (ap (λ (m : List A). x ∷ m) (kept-all test l (and_right (test x) (all_of test l) h)))

-- ---- squeezing

grow-more : (x : ℕ) (ws : Words) → joined (grow x true ws) ≡ x ∷ joined ws
unfolding joined joined_by after_each grow
grow-more x [] = refl
grow-more x (w ∷ ws) = refl

grow-new : (x z : ℕ) (v : Bytes) (ws : Words) → joined ws ≡ z ∷ v → joined (grow x false ws) ≡ x ∷ 32 ∷ z ∷ v
unfolding joined joined_by grow
grow-new x z v [] h = absurd (never (cc h))
grow-new x z v (w ∷ ws) h = unfold after_each in ap (λ (u : Bytes). x ∷ 32 ∷ u) h

-- the only white space is a space, and no second one follows
white-space : (x : ℕ) → known x ≡ true → white x ≡ true → eqb x 32 ≡ true
white-space x k w =
    go (white x) (eqb x 32) w (unfold below so known white any_of ascii in known_so (λ b. not (white b) || eqb b 32) refl x k)
  where
    go : (a b : Bool) → a ≡ true → not a || b ≡ true → b ≡ true
    go true b e h = h
    go false b e h = absurd (false≢true e)

after-space : (z : ℕ) → follows 32 z ≡ true → eqb z 32 ≡ false
unfolding follows middle
after-space z h = go (middle z) (eqb z 32) (and_right (known z) _ h)
  where
    go : (a b : Bool) → not ((middle 32 && b) || (true && (a || b))) ≡ true → b ≡ false
    go true b h = absurd (false≢true h)
    go false true h = absurd (false≢true h)
    go false false h = refl

dark-space : (z : ℕ) → known z ≡ true → eqb z 32 ≡ false → white z ≡ false
dark-space z k n = go (white z) refl
  where
    go : (b : Bool) → white z ≡ b → b ≡ false
    go true e = absurd (true≢false (sym (white-space z k e) ∙ n))
    go false e = refl

-- what squeezing a text after a byte gives, where the byte and the text's last are no white space
abbrev Squeezes : ℕ → Bytes → Type 0
Squeezes x t = white x ≡ false → quiet x t ≡ true → white (end_of x t) ≡ false → joined (words (x ∷ t)) ≡ x ∷ t

squeeze-more : (x y : ℕ) (t : Bytes) → Squeezes y t → white y ≡ false → Squeezes x (y ∷ t)
unfolding in_word end_of
squeeze-more x y t ih f w q e = rw (words-cons x (y ∷ t), w, f) (grow-more x (words (y ∷ t)) ∙ ap (λ (u : Bytes). x ∷ u) (ih f (quiet-rest x y t q) e))

squeeze-new : (x y z : ℕ) (v : Bytes) → Squeezes z v → white y ≡ true → Squeezes x (y ∷ z ∷ v)
unfolding in_word end_of
squeeze-new x y z v ih f w q e =
    let r = quiet-rest x y (z ∷ v) q in
    let s : y ≡ 32 = eqb-true y 32 (white-space y (follows-known x y (quiet-first x y (z ∷ v) q)) f) in
    let g : follows 32 z ≡ true = rw s at (quiet-first y z v r) in
    let n : white z ≡ false = dark-space z (follows-known 32 z g) (after-space z g) in
    let own : joined (words (x ∷ y ∷ z ∷ v)) ≡ x ∷ 32 ∷ z ∷ v =
    rw (words-cons x (y ∷ z ∷ v), w, f, words-cons y (z ∷ v), f) (grow-new x z v (words (z ∷ v)) (ih n (quiet-rest y z v r) e)) in
    rw (← s) at own

squeeze-on : (x : ℕ) (t : Bytes) → Squeezes x t
squeeze-on x [] w q e = rw (words-cons x [], w) (unfold words kept non_empty cut in_word grow joined joined_by after_each in refl)
squeeze-on x (y ∷ []) w q e = squeeze-more x y [] (squeeze-on y []) (unfold end_of in e) w q e
squeeze-on x (y ∷ z ∷ v) w q e = go (white y) refl (squeeze-on y (z ∷ v)) (squeeze-on z v)
  where
    go : (b : Bool) → white y ≡ b → Squeezes y (z ∷ v) → Squeezes z v → joined (words (x ∷ y ∷ z ∷ v)) ≡ x ∷ y ∷ z ∷ v
    go true f a b = squeeze-new x y z v b f w q e
    go false f a b = squeeze-more x y (z ∷ v) a f w q e

pub squeezed-calm : (t : Bytes) → calm t ≡ true → squeezed t ≡ t
unfolding squeezed
squeezed-calm [] h = absurd (false≢true (unfold calm in h))
squeezed-calm (x ∷ t) h = squeeze-on x t (dark x (calm-head x t h)) (calm-quiet x t h) (dark (end_of x t) (calm-end x t h))
  where
    dark : (b : ℕ) → firm b ≡ true → white b ≡ false
    dark b k = not-true (white b) (unfold below so firm known white any_of ascii in firm-so (λ b. not (white b)) refl b k)

-- ---- comments

pub newlines-calm : (t : Bytes) → calm t ≡ true → newlines t ≡ t
unfolding newlines
newlines-calm t h =
    let a = replace-calm (ascii "\r\n") (ascii "\n") t (unfold shut known any_of ascii in refl) h in
    rw a (replace-calm (ascii "\r") (ascii "\n") t (unfold shut known any_of ascii in refl) h)

pub continued-calm : (t : Bytes) → calm t ≡ true → continued t ≡ t
unfolding continued
continued-calm t h = replace-calm (ascii "\n:") (ascii "\n") t (unfold shut known any_of ascii in refl) h

pub stripped-calm : (t : Bytes) → calm t ≡ true → stripped t ≡ 32 ∷ t
unfolding stripped lined uncommented
stripped-calm t h =
    rw (
      trim-calm white (unfold below so firm known white any_of ascii in refl) t h,
      newlines-calm t h,
      continued-calm t h,
      cut-none (is "\n") t (none-calm (is "\n") (unfold below so known any_of ascii in refl) t h),
    )
    (unfold flat_map in rw (before-none (is "#") t (none-calm (is "#") (unfold below so known any_of ascii in refl) t h), append-nil t))

-- ---- the domain

domain-quiet : (p : ℕ) (t : Bytes) → quiet p t ≡ true → in_domain t ≡ true
domain-quiet p [] h = unfold in_domain in refl
domain-quiet p (x ∷ t) h =
    domain-ascii x t (unfold below so known any_of ascii in known_so (λ b. ltb b 128) refl x (follows-known p x (quiet-first p x t h))) ∙ domain-quiet x t (quiet-rest p x t h)

pub domain-calm : (t : Bytes) → calm t ≡ true → in_domain t ≡ true
domain-calm [] h = unfold in_domain in refl
domain-calm (x ∷ t) h =
    domain-ascii x t (unfold below so known any_of ascii in known_so (λ b. ltb b 128) refl x (firm-known x (calm-head x t h))) ∙ domain-quiet x t (calm-quiet x t h)
