-- The words of a text with one space between: what is left to write, the words as std's iterators give them, and the loop's invariant.
use mathlib.Core.Path.{◌≡◌, refl, ap, ◌∙◌}
use mathlib.Core.Bool.{Bool, true, false, cond, not, false≢true}
use mathlib.Core.List.{List, [], ◌∷◌}
use Rattle.std.specs.List.{slice_split, onto_first, filter}
use Rattle.std.proofs.lemmas.List.Recursion.{same_from_clauses}
use Prim.Native.Nat.{ℕ, zero, suc, ◌+◌, ◌≤◌, ◌<◌}
use native.Mathlib.Nat.{not-suc-le-zero}
use native.Mathlib.Numerals.{add-one}
use native.Mathlib.Omega.{arith}
use borrow.Author.Tests.{ne_eqb, lt-ltb, ltb-true}
use lib.Dec.{eqb, ltb}
use lib.ListN.{length, drop, get_or, set, drop_of_length-le}
use Rattle.rules.specs.Text.Lists.{kept, non_empty}
use Rattle.rules.specs.Text.Bytes.{Bytes, Words, white, cut, onto, words, after_each, joined_by, joined}
use Rattle.laws_text.specs.Passes.{in_word, grow, words-cons}
use Rattle.text.specs.Wrote.{Wrote}
use Rattle.text.proofs.Wrote.{Sofar, sofar-start, sofar-byte, sofar-end, drop-next}

-- each word after a space
abbrev spaced : Words → Bytes
spaced ws = after_each (32 ∷ []) ws

-- what is left to write of a text: 1 within a word, 2 after one, else before the first
pub left : ℕ → Bytes → Bytes
left zero t = joined (words t)
left (suc zero) t = cond (in_word t) (joined (words t)) (spaced (words t))
left (suc (suc zero)) t = spaced (words t)
left (suc (suc (suc k))) t = joined (words t)

pub left_end : (k : ℕ) → left k [] ≡ []
unfolding left words kept non_empty cut in_word joined joined_by after_each
left_end zero = refl
left_end (suc zero) = refl
left_end (suc (suc zero)) = refl
left_end (suc (suc (suc k))) = refl

grow-grow : (x y : ℕ) (b : Bool) (ws : Words) → joined (grow x true (grow y b ws)) ≡ x ∷ joined (grow y b ws)
unfolding joined joined_by grow
grow-grow x y true [] = refl
grow-grow x y true (w ∷ ws) = refl
grow-grow x y false ws = refl

-- x before y, which is white or not, before a text with the words ws
grow-before : (x y : ℕ) (white? b : Bool) (ws : Words)
    → let vs = cond white? ws (grow y b ws) in
    joined (grow x (not white?) vs) ≡ x ∷ cond (not white?) (joined vs) (spaced vs)
unfolding joined joined_by grow
grow-before x y true b ws = refl
grow-before x y false b ws = grow-grow x y b ws

joined-grow : (x : ℕ) (t : Bytes) → joined (grow x (in_word t) (words t)) ≡ x ∷ left 1 t
unfolding in_word left
joined-grow x [] = unfold joined joined_by after_each grow words kept non_empty cut in refl
joined-grow x (y ∷ t) = rw (words-cons y t) (grow-before x y (white y) (in_word t) (words t))

spaced-grow : (x : ℕ) (b : Bool) (ws : Words) → spaced (grow x b ws) ≡ 32 ∷ joined (grow x b ws)
unfolding after_each grow joined joined_by
spaced-grow x true [] = refl
spaced-grow x true (w ∷ ws) = refl
spaced-grow x false ws = refl

module _ (x : ℕ) (t : Bytes) where
  left-white : (k : ℕ) → (k ≡ 1 → ⊥) → white x ≡ true → left k (x ∷ t) ≡ left k t
  unfolding left
  left-white zero n e = rw (words-cons x t, e)
  left-white (suc zero) n e = absurd (n refl)
  left-white (suc (suc zero)) n e = rw (words-cons x t, e)
  left-white (suc (suc (suc k))) n e = rw (words-cons x t, e)

  pub left_after : white x ≡ true → left 1 (x ∷ t) ≡ left 2 t
  unfolding left in_word
  left_after e = rw (words-cons x t, e)

  pub left_word : (k : ℕ) → (k ≡ 2 → ⊥) → white x ≡ false → left k (x ∷ t) ≡ x ∷ left 1 t
  unfolding left in_word
  left_word zero n e = rw (words-cons x t, e) (joined-grow x t)
  left_word (suc zero) n e = rw (words-cons x t, e) (joined-grow x t)
  left_word (suc (suc zero)) n e = absurd (n refl)
  left_word (suc (suc (suc k))) n e = rw (words-cons x t, e) (joined-grow x t)

  pub left-space : white x ≡ false → left 2 (x ∷ t) ≡ 32 ∷ x ∷ left 1 t
  unfolding left
  left-space e = rw (words-cons x t, e, spaced-grow) (ap (λ (l : Bytes). 32 ∷ l) (joined-grow x t))

-- before the first word, all words are left
pub left-start : (t : Bytes) → left 0 t ≡ joined (words t)
unfolding left
left-start t = refl

-- ---- the words as std's `split` and `filter` give them

-- the pieces that std's `split` gives are those of `cut`, and those that are not empty are the words
pub cut-is : (test : ℕ → Bool) (t : Bytes) → slice_split test t ≡ cut test t
unfolding cut onto
cut-is test [] = refl
cut-is test (x ∷ t) = rw (cut-is test t) (ap (λ (ps : List Bytes). cond (test x) ([] ∷ cut test t) ps) (go (cut test t)))
  where
    go : (ps : List Bytes) → onto_first x ps ≡ onto x ps
    go [] = refl
    go (p ∷ ps) = refl

-- what the code asks of a piece
abbrev pub has_byte : Bytes → Bool
has_byte piece = not (eqb (length piece) 0)

has_byte-is : (piece : Bytes) → has_byte piece ≡ non_empty piece
unfolding non_empty
has_byte-is [] = refl
has_byte-is (x ∷ piece) = rw (ne_eqb (length (x ∷ piece)) 0 (λ e. omega arith))

kept-is : (ps : List Bytes) → filter has_byte ps ≡ kept non_empty ps
unfolding kept
kept-is = same_from_clauses (filter has_byte) (kept non_empty) (λ p ps. cond (non_empty p) (p ∷ ps) ps) refl (λ p ps. rw (has_byte-is p)) (λ _ _. refl)

pub words-is : (t : Bytes) → filter has_byte (slice_split white t) ≡ words t
unfolding words
words-is t = kept-is (slice_split white t) ∙ ap (kept non_empty) (cut-is white t)

-- ---- `squeeze_into`: what is left of `src` from i on is still to be written

-- where the place o and the space that is owed leave off: before the first word, behind one, or within one
pub stage : ℕ → Bool → ℕ
stage zero owed = 0
stage (suc o) true = 2
stage (suc o) false = 1

pub record Squeezing (src dst₀ : Bytes) (i o : ℕ) (owed : Bool) (dst : Bytes) : Type 0 where
  pub behind : owed ≡ true → 0 < o
  pub sofar : Sofar (joined (words src)) (left (stage o owed) (drop i src)) dst₀ o dst

pub squeezing-none : {src dst₀ : Bytes} → length (joined (words src)) ≤ length dst₀ → Squeezing src dst₀ 0 0 false dst₀
unfolding left stage
squeezing-none h = record { behind = λ e. absurd (false≢true e); sofar = sofar-start _ _ h }

passes : (x : ℕ) (t : Bytes) (o : ℕ) (owed : Bool) → white x ≡ true → left (stage o owed) (x ∷ t) ≡ left (stage o (ltb 0 o)) t
unfolding stage
passes x t zero owed e = left-white x t 0 (λ h. omega (arith, h)) e
passes x t (suc o) true e = rw (lt-ltb 0 (suc o) (omega arith)) (left-white x t 2 (λ h. omega (arith, h)) e)
passes x t (suc o) false e = rw (lt-ltb 0 (suc o) (omega arith)) (left_after x t e)

stage-owed : (o : ℕ) → 0 < o → stage o true ≡ 2
unfolding stage
stage-owed zero h = absurd (not-suc-le-zero h)
stage-owed (suc o) h = refl

stage-free : (o : ℕ) → stage o false ≡ 2 → ⊥
unfolding stage
stage-free zero h = omega (arith, h)
stage-free (suc o) h = omega (arith, h)

stage-word : (o : ℕ) → stage (o + 1) false ≡ 1
unfolding stage
stage-word o = rw (add-one o) refl

module _ {src dst₀ : Bytes} {i o : ℕ} {owed : Bool} {dst : Bytes} (m : Squeezing src dst₀ i o owed dst) where
  pub squeezing-end : length src ≤ i → Wrote (joined (words src)) dst₀ o dst
  squeezing-end h = sofar-end (rw (drop_of_length-le src h, left_end (stage o owed)) at m.sofar)

  module _ (h : i < length src) where
    pub squeezing-white : white (get_or src i 0) ≡ true → Squeezing src dst₀ (i + 1) o (ltb 0 o) dst
    squeezing-white e = record {
      behind = λ f. ltb-true 0 o f;
      sofar = rw (← passes (get_or src i 0) (drop (i + 1) src) o owed e, ← drop-next src i h) m.sofar;
    }

    -- the byte at i is none of white space: where no space is owed it is next, and else behind a space
    pub squeezing-byte : white (get_or src i 0) ≡ false → owed ≡ false
        → Sofar (joined (words src)) (get_or src i 0 ∷ left 1 (drop (i + 1) src)) dst₀ o dst
    squeezing-byte e n = rw (← left_word (get_or src i 0) (drop (i + 1) src) (stage o false) (stage-free o) e, ← drop-next src i h) (rw n at m.sofar)

    pub squeezing-space : white (get_or src i 0) ≡ false → owed ≡ true
        → Sofar (joined (words src)) (32 ∷ get_or src i 0 ∷ left 1 (drop (i + 1) src)) dst₀ o dst
    squeezing-space e n =
        rw (← left-space (get_or src i 0) (drop (i + 1) src) e, ← drop-next src i h, ← stage-owed o (m.behind n)) (rw n at m.sofar)

-- it is written
pub squeezing-more : (src : Bytes) (i : ℕ) {dst₀ : Bytes} {o x : ℕ} {owed : Bool} {dst : Bytes} → owed ≡ false
    → Sofar (joined (words src)) (x ∷ left 1 (drop (i + 1) src)) dst₀ o dst → Squeezing src dst₀ (i + 1) (o + 1) owed (set dst o x)
squeezing-more src i {o = o} n s = rw n (record { behind = λ e. omega arith; sofar = rw (stage-word o) (sofar-byte s) })
