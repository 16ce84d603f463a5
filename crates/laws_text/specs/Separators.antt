-- A normal form has no separator but `|`: neither `>` nor `<` is left. A byte that one of the replacements takes away, and that none of the
-- later ones brings, is gone.
use Rattle.std.specs.Prelude.{◌≡◌, Bool, cond, ◌&&◌, not, length, eqb}
use Rattle.std.proofs.Math.Path.{refl}
use Prim.Native.Nat.{ℕ, zero, suc, ◌-◌}
use Rattle.std.proofs.Math.Bool.{true, false}
use Rattle.std.proofs.lemmas.Bool.{false≢true, not-true}
use mathlib.Core.List.{List, [], ◌∷◌, ◌++◌}
use Rattle.rules.specs.Text.Ascii.{ascii, is}
use Rattle.rules.specs.Text.Lists.{any_of, kept, non_empty}
use Rattle.rules.specs.Text.Bytes.{Bytes, Words, white, same, starts, replace_from, replace, trimmed, cut, words, after_each, joined_by, joined}
use Rattle.rules.specs.Text.Normal.{Replacement, run, becomes, subscript_becomes, replacements, squeezed, continued, normal}
use Rattle.laws_lists.specs.Tests.{or_left, or_right, and_left, and_right, same-is}
use Rattle.laws_text.specs.Passes.{in_word, grow, words-cons}

module _ (test : ℕ → Bool) where
  any_append : (a b : Bytes) → any_of test a ≡ false → any_of test b ≡ false → any_of test (a ++ b) ≡ false
  unfolding any_of
  any_append [] b e f = f
  any_append (x ∷ a) b e f = rw (or_left (test x) (any_of test a) e) (any_append a b (or_right (test x) (any_of test a) e) f)

  -- a replacement brings none that its new text does not have
  replace_from-none : (k : ℕ) (old new t : Bytes) → any_of test new ≡ false → any_of test t ≡ false → any_of test (replace_from k old new t) ≡ false
  unfolding any_of replace_from
  replace_from-none zero old new [] n e = refl
  replace_from-none (suc k) old new [] n e = refl
  replace_from-none (suc k) old new (x ∷ t) n e = replace_from-none k old new t n (or_right (test x) (any_of test t) e)
  replace_from-none zero old new (x ∷ t) n e =
      go (starts old (x ∷ t)) (replace_from-none (length old - 1) old new t n (or_right (test x) (any_of test t) e)) (replace_from-none zero old new t n (or_right (test x) (any_of test t) e))
    where
      go : (b : Bool) → any_of test (replace_from (length old - 1) old new t) ≡ false → any_of test (replace_from zero old new t) ≡ false
          → any_of test (cond b (new ++ replace_from (length old - 1) old new t) (x ∷ replace_from zero old new t)) ≡ false
      go true f g = any_append new (replace_from (length old - 1) old new t) n f
      go false f g = rw (or_left (test x) (any_of test t) e) g

  -- nor does joining words, unless a space is one
  grow-none : (x : ℕ) (b : Bool) (ws : Words) → test 32 ≡ false → test x ≡ false → any_of test (joined ws) ≡ false → any_of test (joined (grow x b ws)) ≡ false
  unfolding any_of joined joined_by after_each grow
  grow-none x true [] s e f = rw e
  grow-none x true (w ∷ ws) s e f = rw e f
  grow-none x false [] s e f = rw e
  grow-none x false (w ∷ ws) s e f = rw (e, s) f

  words-none : (t : Bytes) → test 32 ≡ false → any_of test t ≡ false → any_of test (joined (words t)) ≡ false
  unfolding any_of
  words-none [] s e = unfold words kept cut non_empty joined joined_by in refl
  words-none (x ∷ t) s e = rw (words-cons x t) (go (white x) (words-none t s (or_right (test x) (any_of test t) e)))
    where
      go : (b : Bool) → any_of test (joined (words t)) ≡ false → any_of test (joined (cond b (words t) (grow x (in_word t) (words t)))) ≡ false
      go true f = f
      go false f = grow-none x (in_word t) (words t) s (or_left (test x) (any_of test t) e) f

  -- none of the new texts has one
  none : List Replacement → Bool
  none [] = true
  none (r ∷ rs) = not (any_of test r.new) && none rs

  run_none : (rs : List Replacement) (t : Bytes) → none rs ≡ true → any_of test t ≡ false → any_of test (run rs t) ≡ false
  unfolding run none replace
  run_none [] t n e = e
  run_none (r ∷ rs) t n e =
      run_none rs (replace r.old r.new t) (and_right (not (any_of test r.new)) (none rs) n)
      (replace_from-none zero r.old r.new t (not-true (any_of test r.new) (and_left (not (any_of test r.new)) (none rs) n)) e)

-- ---- a byte that is replaced is gone

abbrev byte : ℕ → ℕ → Bool
byte c b = eqb b c

replaced : (c : ℕ) (new t : Bytes) → any_of (byte c) new ≡ false → any_of (byte c) (replace_from zero (c ∷ []) new t) ≡ false
unfolding any_of replace_from starts
replaced c new [] n = refl
replaced c new (x ∷ t) n = go (eqb x c) refl (replaced c new t n)
  where
    go : (b : Bool) → eqb x c ≡ b → any_of (byte c) (replace_from zero (c ∷ []) new t) ≡ false
        → any_of (byte c) (cond (b && true) (new ++ replace_from zero (c ∷ []) new t) (x ∷ replace_from zero (c ∷ []) new t)) ≡ false
    go true e f = any_append (byte c) new (replace_from zero (c ∷ []) new t) n f
    go false e f = rw e f

-- one of the replacements removes the byte, and no later one brings it back
clears : ℕ → List Replacement → Bool
clears c [] = false
clears c (r ∷ rs) = cond (same r.old (c ∷ [])) (none (byte c) (r ∷ rs)) (clears c rs)

run-clears : (c : ℕ) (rs : List Replacement) (t : Bytes) → clears c rs ≡ true → any_of (byte c) (run rs t) ≡ false
unfolding run clears none replace
run-clears c [] t e = absurd (false≢true e)
run-clears c (r ∷ rs) t e = go (same r.old (c ∷ [])) refl e (run-clears c rs (replace r.old r.new t))
  where
    go : (b : Bool) → same r.old (c ∷ []) ≡ b → cond b (none (byte c) (r ∷ rs)) (clears c rs) ≡ true
        → (clears c rs ≡ true → any_of (byte c) (run rs (replace r.old r.new t)) ≡ false)
        → any_of (byte c) (run rs (replace r.old r.new t)) ≡ false
    go true o n f =
        let w = not-true (any_of (byte c) r.new) (and_left (not (any_of (byte c) r.new)) (none (byte c) rs) n) in
        run_none (byte c) rs (replace r.old r.new t) (and_right (not (any_of (byte c) r.new)) (none (byte c) rs) n) (rw (same-is r.old (c ∷ []) o) (replaced c r.new t w))
    go false o n f = f n

more-goes : clears 62 replacements ≡ true
unfolding ascii any_of same none clears becomes subscript_becomes replacements
more-goes = refl

less-goes : clears 60 replacements ≡ true
unfolding ascii any_of same none clears becomes subscript_becomes replacements
less-goes = refl

pub no_more : (t : Bytes) → any_of (is ">") (normal t) ≡ false
unfolding normal squeezed
no_more t = let u = squeezed (continued (trimmed (is ":") (trimmed white t))) in words-none (is ">") (run replacements u) refl (run-clears 62 replacements u more-goes)

pub no_less : (t : Bytes) → any_of (is "<") (normal t) ≡ false
unfolding normal squeezed
no_less t = let u = squeezed (continued (trimmed (is ":") (trimmed white t))) in words-none (is "<") (run replacements u) refl (run-clears 60 replacements u less-goes)
