-- A word is read by its letters and its ending: the first four bytes name its axes, and what is behind them its angle.
use Rattle.std.specs.Prelude.{Option, None, Some}
use mathlib.Core.Path.{◌≡◌, refl, sym, ap, ◌∙◌}
use Prim.Native.Nat.{ℕ, ◌≤◌, ◌<◌}
use mathlib.Core.Bool.{true, false, ◌&&◌}
use mathlib.Core.List.{List, [], ◌∷◌, map}
use native.Mathlib.Omega.{arith}
use borrow.Author.Tests.{lt-ltb, le-ltb}
use lib.Dec.{eqb}
use lib.IntN.{ℤ}
use lib.ListN.{length, take, drop, get_or, length-map}
use lib.Seq.{length-take-le}
use Rattle.rules.specs.Text.Ascii.{ascii}
use Rattle.rules.specs.Text.Bytes.{Bytes, same}
use Rattle.rules.specs.Text.Decimal.{signed}
use Rattle.rules.specs.Operators.Arguments.{is_order}
use Rattle.rules.specs.Operators.Adapt.{place_in, axis, ending, Word, word_of, word}
use Rattle.laws_lists.specs.Tests.{never}
use Rattle.adapt.specs.Words.{plain_word}

-- ---- an axis

module _ (b : ℕ) {n : ℕ} (e : n ≡ place_in 1 b (ascii "enuf")) where
  pub axis-plain : {r : ℤ} → 0 < n → r ≡ signed false n → r ≡ axis b
  unfolding signed axis
  axis-plain h f = f ∙ sym (rw (← e, lt-ltb 0 n h))

  pub axis-turned : {k : ℕ} {r : ℤ} → n ≤ 0 → k ≡ place_in 1 b (ascii "wsdp") → r ≡ signed true k → r ≡ axis b
  unfolding axis
  axis-turned h g f = f ∙ sym (rw (← e, ← g, le-ltb 0 n h))

-- ---- four of them

four_bytes : (t : Bytes) → 4 ≤ length t → take 4 t ≡ get_or t 0 0 ∷ get_or t 1 0 ∷ get_or t 2 0 ∷ get_or t 3 0 ∷ []
four_bytes [] h = absurd (never (omega arith))
four_bytes (a ∷ []) h = absurd (never (omega arith))
four_bytes (a ∷ b ∷ []) h = absurd (never (omega arith))
four_bytes (a ∷ b ∷ c ∷ []) h = absurd (never (omega arith))
four_bytes (a ∷ b ∷ c ∷ d ∷ t) h = refl

pub axes-so : (t : Bytes) {a b c d : ℤ} → 4 ≤ length t → a ≡ axis (get_or t 0 0) → b ≡ axis (get_or t 1 0) → c ≡ axis (get_or t 2 0) → d ≡ axis (get_or t 3 0)
    → a ∷ b ∷ c ∷ d ∷ [] ≡ map axis (take 4 t)
axes-so t h p q r s = sym (rw (four_bytes t h, ← p, ← q, ← r, ← s))

-- ---- a word

unordered-word : (l : List ℤ) (o : Option ℕ) → (eqb (length l) 4 && is_order l) ≡ false → word_of l o ≡ None
unfolding word_of
unordered-word l None e = refl
unordered-word l (Some k) e = rw e

short-axes : (t : Bytes) → length t < 4 → eqb (length (map axis (take 4 t))) 4 ≡ false
short-axes [] h = refl
short-axes (a ∷ []) h = refl
short-axes (a ∷ b ∷ []) h = refl
short-axes (a ∷ b ∷ c ∷ []) h = refl
short-axes (a ∷ b ∷ c ∷ d ∷ t) h = absurd (never (omega arith))

module _ (t : Bytes) where
  pub word-short : length t < 4 → None ≡ plain_word t
  word-short h = sym (unordered-word (map axis (take 4 t)) (ending (drop 4 t)) (rw (short-axes t h)))

  module _ (h : 4 ≤ length t) {axes : List ℤ} (are : axes ≡ map axis (take 4 t)) where
    pub four-axes : length axes ≡ 4
    four-axes = ap length are ∙ length-map (take 4 t) axis ∙ length-take-le 4 t h

    pub word-unordered : is_order axes ≡ false → None ≡ plain_word t
    word-unordered o = sym (rw (← are) (unordered-word axes (ending (drop 4 t)) (rw (four-axes, o))))

    -- by what its ending is read as
    module _ (o : is_order axes ≡ true) {r : Option ℕ} {rest : Bytes} (behind : rest ≡ drop 4 t) (e : r ≡ ending rest) where
      ending-is : ending (drop 4 t) ≡ r
      ending-is = ap ending (sym behind) ∙ sym e

      pub word-unended : r ≡ None → None ≡ plain_word t
      unfolding word_of
      word-unended f = sym (rw (ending-is, f))

      pub word-so : {angle : ℕ} → r ≡ Some angle → Some (record { axes = axes; angle = angle }) ≡ plain_word t
      unfolding word_of
      word-so {angle} f = sym (rw (ending-is, f, ← are, four-axes, o))

-- `pass` is `enuf`
module _ (t : Bytes) {r : Option Word} where
  pub word-pass : same t (ascii "pass") ≡ true → r ≡ plain_word (ascii "enuf") → r ≡ word t
  unfolding word
  word-pass e m = rw e m

  pub word-other : same t (ascii "pass") ≡ false → r ≡ plain_word t → r ≡ word t
  unfolding word
  word-other e m = rw e m
