-- A step of a normal form weighs no more than its bytes: neither `>` nor `<` is in it. So its own normal form has room where
-- it has.
use mathlib.Core.Path.{◌≡◌, refl, ap}
use Prim.Native.Nat.{ℕ, zero, suc, ◌+◌, ◌-◌, ◌≤◌, min}
use mathlib.Core.Bool.{Bool, true, false, cond}
use mathlib.Core.List.{List, [], ◌∷◌, ◌++◌, flat_map}
use native.Mathlib.Nat.{le_trans, le-min, min-le_left, min-le_right}
use native.Mathlib.Omega.{arith}
use lib.ListN.{length, take, drop, length-append, length-drop}
use Rattle.rules.specs.Text.Ascii.{is}
use Rattle.rules.specs.Text.Lists.{any_of, kept, non_empty}
use Rattle.rules.specs.Text.Bytes.{Bytes, Words, white, trim_start, cut, words, after_each, joined_by, joined}
use Rattle.rules.specs.Text.Normal.{normal}
use Rattle.rules.specs.Text.Split.{modifier, leading, following, turned, steps_of, step_text, line}
use Rattle.rules.specs.Text.Reader.{next, part, step_then}
use Rattle.rules.specs.declared.Cursor.{Cursor}
use Rattle.laws_lists.specs.Lists.{Every}
use Rattle.laws_lists.specs.Tests.{or_left, or_right}
use Rattle.laws_text.specs.Passes.{in_word, grow, words-cons}
use Rattle.laws_text.specs.Separators.{no_more, no_less}
use Rattle.laws_text.specs.Sizes.{weight_of, weight, length-weight, normal-weight}
use Rattle.laws_text.specs.Walk.{walk_step}
use Rattle.split.specs.Lines.{lines_of}
use Rattle.split.proofs.Lengths.{lines-length}
use Rattle.prepare.specs.StepReply.{Bare, Roomy}

pub normal-bare : (t : Bytes) → Bare (normal t)
normal-bare t = record { no_more = no_more t; no_less = no_less t }

-- ---- a byte that is not in a text is in none of its parts

module _ (test : ℕ → Bool) where
  any-drop : (n : ℕ) (t : Bytes) → any_of test t ≡ false → any_of test (drop n t) ≡ false
  unfolding any_of
  any-drop zero t e = e
  any-drop (suc n) [] e = e
  any-drop (suc n) (x ∷ t) e = any-drop n t (or_right (test x) (any_of test t) e)

  any-take : (n : ℕ) (t : Bytes) → any_of test t ≡ false → any_of test (take n t) ≡ false
  unfolding any_of
  any-take zero t e = refl
  any-take (suc n) [] e = e
  any-take (suc n) (x ∷ t) e = rw (or_left (test x) (any_of test t) e) (any-take n t (or_right (test x) (any_of test t) e))

  any_append : (a b : Bytes) → any_of test a ≡ false → any_of test b ≡ false → any_of test (a ++ b) ≡ false
  unfolding any_of
  any_append [] b e f = f
  any_append (x ∷ a) b e f = rw (or_left (test x) (any_of test a) e) (any_append a b (or_right (test x) (any_of test a) e) f)

  -- nor in its words, whatever their order
  abbrev Free : Words → Type 0
  Free ws = Every (λ (w : Bytes). any_of test w ≡ false) ws

  grow-free : (x : ℕ) (b : Bool) (ws : Words) → test x ≡ false → Free ws → Free (grow x b ws)
  unfolding Every any_of grow
  grow-free x true [] e f = (rw e, tt)
  grow-free x true (w ∷ ws) e f = (rw e f.0, f.1)
  grow-free x false ws e f = (rw e, f)

  words-free : (t : Bytes) → any_of test t ≡ false → Free (words t)
  unfolding any_of
  words-free [] e = unfold words kept cut non_empty Every in tt
  words-free (x ∷ t) e = rw (words-cons x t) (go (white x) (words-free t (or_right (test x) (any_of test t) e)))
    where
      go : (b : Bool) → Free (words t) → Free (cond b (words t) (grow x (in_word t) (words t)))
      go true f = f
      go false f = grow-free x (in_word t) (words t) (or_left (test x) (any_of test t) e) f

  append-free : (ws us : Words) → Free ws → Free us → Free (ws ++ us)
  unfolding Every
  append-free [] us f g = g
  append-free (w ∷ ws) us f g = (f.0, append-free ws us f.1 g)

  following-free : (ws : Words) → Free ws → Free (following ws)
  unfolding Every following
  following-free [] f = tt
  following-free (w ∷ ws) f = go (modifier w) (following-free ws f.1)
    where
      go : (b : Bool) → Free (following ws) → Free (cond b (following ws) (w ∷ ws))
      go true g = g
      go false g = f

  leading-free : (ws : Words) → Free ws → Free (leading ws)
  unfolding Every leading
  leading-free [] f = tt
  leading-free (w ∷ ws) f = go (modifier w) (leading-free ws f.1)
    where
      go : (b : Bool) → Free (leading ws) → Free (cond b (w ∷ leading ws) [])
      go true g = (f.0, g)
      go false g = tt

  module _ (s : test 32 ≡ false) where
    after_free : (ws : Words) → Free ws → any_of test (after_each (32 ∷ []) ws) ≡ false
    unfolding Every any_of after_each
    after_free [] f = refl
    after_free (w ∷ ws) f = rw s (any_append w (after_each (32 ∷ []) ws) f.0 (after_free ws f.1))

    joined_free : (ws : Words) → Free ws → any_of test (joined ws) ≡ false
    unfolding Every any_of joined joined_by
    joined_free [] f = refl
    joined_free (w ∷ ws) f = any_append w (after_each (32 ∷ []) ws) f.0 (after_free ws f.1)

    step-free : (from to : ℕ) (t : Bytes) → any_of test t ≡ false → any_of test (step_text (words (part from to t))) ≡ false
    unfolding step_text turned
    step-free from to t e =
        let f = words-free (part from to t) (any-take (to - from) (drop from t) (any-drop from t e)) in
        let ws = words (part from to t) in
        joined_free (following ws ++ leading ws) (append-free (following ws) (leading ws) (following-free ws f) (leading-free ws f))

-- ---- weights

bare-weight : (t : Bytes) → any_of (is ">") t ≡ false → any_of (is "<") t ≡ false → weight t ≡ length t
unfolding weight weight_of any_of
bare-weight [] e f = refl
bare-weight (x ∷ t) e f =
    rw (or_left (is ">" x) (any_of (is ">") t) e, or_left (is "<" x) (any_of (is "<") t) f)
    (omega (arith, bare-weight t (or_right (is ">" x) (any_of (is ">") t) e) (or_right (is "<" x) (any_of (is "<") t) f)))

pub step-weight : {t : Bytes} (from to : ℕ) → Bare t → weight (step_text (words (part from to t))) ≤ length (step_text (words (part from to t)))
step-weight {t} from to b =
    let u = step_text (words (part from to t)) in
    omega (arith, bare-weight u (step-free (is ">") refl from to t b.no_more) (step-free (is "<") refl from to t b.no_less))

-- white space at its front weighs something
front-weight : (t : Bytes) → weight (trim_start white t) ≤ weight t
unfolding weight trim_start
front-weight [] = omega arith
front-weight (x ∷ t) = go (white x) (front-weight t)
  where
    go : (b : Bool) → weight (trim_start white t) ≤ weight t → weight (cond b (trim_start white t) (x ∷ t)) ≤ weight_of x + weight t
    go true h = omega arith
    go false h = omega arith

pub normal-fits : (t : Bytes) → length (normal t) ≤ weight t
normal-fits t = omega (arith, length-weight (normal t), normal-weight t, front-weight t)

-- ---- a step's line is at most a byte longer than the text that it is a step of

pub line-length : (t : Bytes) (at from to : ℕ) (then : Cursor) → next t at ≡ step_then from to then → length (line (step_text (words (part from to t)))) ≤ suc (length t)
line-length t at from to then f =
    let here = words (part from to t) in
    let others = steps_of (drop then.at t) in
    let l : length (lines_of (steps_of (drop at t))) ≡ length (lines_of (here ∷ others)) = ap (λ ss. length (lines_of ss)) (walk_step t at from to then f) in
    omega (arith, l, lines-length (drop at t), length-drop at t, first-line here others)
  where
    first-line : (ws : Words) (ss : List Words) → length (line (step_text ws)) ≤ length (lines_of (ws ∷ ss))
    first-line ws ss = unfold flat_map in omega (arith, length-append (line (step_text ws)) (lines_of ss))

-- ---- room for a shorter text

pub roomy-for : {n a b : ℕ} (m : ℕ) {a' b' : ℕ} → m ≤ n → a' ≡ a → b' ≡ b → Roomy n a b → Roomy m a' b'
roomy-for {n} m h e f r =
    let k : min m 4096 ≤ min n 4096 = le-min (le_trans (min-le_left m 4096) h) (min-le_right m 4096) in
    record { first = omega (arith, k, r.first); second = omega (arith, k, r.second) }
