-- The arrows of a text, its `>` and `<`: each of them grows to ten bytes in the normal form, and no other byte grows. So a text with few arrows has a
-- normal form that is little longer than it.
use Rattle.std.specs.Prelude.{◌≡◌, ℕ, ◌+◌, ◌*◌, ◌≤◌, Bool, cond, ◌||◌, length}
use Rattle.std.proofs.Math.Path.{refl, sym, ap}
use Rattle.std.proofs.Common.{◌∙◌, arith, eqb-true}
use Rattle.std.proofs.Math.Bool.{true, false}
use mathlib.Core.List.{[], ◌∷◌}
use Rattle.rules.specs.Text.Ascii.{is}
use Rattle.rules.specs.Text.Lists.{all_of}
use Rattle.rules.specs.Text.Bytes.{Bytes, white, trim_start, trim_end, trimmed}
use Rattle.rules.specs.Text.Normal.{normal}
use Rattle.laws_lists.specs.Tests.{and_left, and_right}
use Rattle.laws_text.specs.Sizes.{weight_of, weight, length-weight, normal-weight, start-shorter}

-- is the byte an arrow?
unfoldable pub arrow : ℕ → Bool
arrow b = is ">" b || is "<" b

-- how many of a text's bytes are arrows
unfoldable pub arrows : Bytes → ℕ
arrows [] = 0
arrows (x ∷ t) = cond (arrow x) 1 0 + arrows t

-- by the first byte
pub arrows-one : (x : ℕ) (t : Bytes) → arrow x ≡ true → arrows (x ∷ t) ≡ 1 + arrows t
unfolding arrows
arrows-one x t e = rw e

pub arrows-none : (x : ℕ) (t : Bytes) → arrow x ≡ false → arrows (x ∷ t) ≡ arrows t
unfolding arrows
arrows-none x t e = rw e (omega arith)

-- ---- trimming takes no arrow away, where no arrow passes its test

module _ (test : ℕ → Bool) (inverse : test 62 ≡ false) (forward : test 60 ≡ false) where
  spares : (x : ℕ) → test x ≡ true → arrow x ≡ false
  unfolding arrow
  spares x e = go (is ">" x) refl (is "<" x) refl
    where
      go : (a : Bool) → is ">" x ≡ a → (b : Bool) → is "<" x ≡ b → a || b ≡ false
      go true f b g = sym e ∙ ap test (eqb-true x 62 f) ∙ inverse
      go false f true g = sym e ∙ ap test (eqb-true x 60 g) ∙ forward
      go false f false g = refl

  pub none-arrows : (t : Bytes) → all_of test t ≡ true → arrows t ≡ 0
  unfolding all_of
  none-arrows [] e = unfold arrows in refl
  none-arrows (x ∷ t) e = arrows-none x t (spares x (and_left (test x) (all_of test t) e)) ∙ none-arrows t (and_right (test x) (all_of test t) e)

  start-arrows : (t : Bytes) → arrows (trim_start test t) ≡ arrows t
  unfolding trim_start
  start-arrows [] = refl
  start-arrows (x ∷ t) = go (test x) refl (start-arrows t)
    where
      go : (b : Bool) → test x ≡ b → arrows (trim_start test t) ≡ arrows t → arrows (cond b (trim_start test t) (x ∷ t)) ≡ arrows (x ∷ t)
      go true e h = h ∙ sym (arrows-none x t (spares x e))
      go false e h = refl

  end-arrows : (t : Bytes) → arrows (trim_end test t) ≡ arrows t
  unfolding trim_end arrows
  end-arrows [] = refl
  end-arrows (x ∷ t) = go (all_of test (x ∷ t)) refl (end-arrows t)
    where
      go : (b : Bool) → all_of test (x ∷ t) ≡ b → arrows (trim_end test t) ≡ arrows t → arrows (cond b [] (x ∷ trim_end test t)) ≡ arrows (x ∷ t)
      go true e h = sym (none-arrows (x ∷ t) e)
      go false e h = rw h

  pub trimmed-arrows : (t : Bytes) → arrows (trimmed test t) ≡ arrows t
  unfolding trimmed
  trimmed-arrows t = end-arrows (trim_start test t) ∙ start-arrows t

-- ---- how long a normal form is

-- an arrow weighs nine more than another byte
pub arrows-weight : (t : Bytes) → weight t ≡ length t + 9 * arrows t
unfolding weight weight_of arrows arrow
arrows-weight [] = refl
arrows-weight (x ∷ t) = go (is ">" x || is "<" x) (arrows-weight t)
  where
    go : (b : Bool) → weight t ≡ length t + 9 * arrows t → cond b 10 1 + weight t ≡ length (x ∷ t) + 9 * (cond b 1 0 + arrows t)
    go true h = omega (arith, h)
    go false h = omega (arith, h)

white-front : (t : Bytes) → arrows (trim_start white t) ≡ arrows t
unfolding white
white-front t = start-arrows white refl refl t

pub normal-arrows : (t : Bytes) → length (normal t) ≤ length t + 9 * arrows t
normal-arrows t =
    let s = trim_start white t in
    omega (arith, length-weight (normal t), normal-weight t, arrows-weight s, white-front t, start-shorter white t)
