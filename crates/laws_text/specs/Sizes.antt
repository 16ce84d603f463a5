-- How long a normal form can be: at most ten times its text, and so is every text on the way, since no pass adds to a text's weight, in which
-- `>` and `<` count tenfold. And how many steps can be cut from it.
use Rattle.std.specs.Prelude.{◌≡◌, refl, Bool, ◌&&◌, ◌||◌, not, drop, eqb, leb, ltb}
use Rattle.std.proofs.Common.{sym, ap, eqb-true, ltb-true, leb-true}
use Prim.Native.Nat.{ℕ, zero, suc, ◌+◌, ◌-◌, ◌*◌, ◌≤◌, ◌<◌}
use Rattle.std.proofs.Math.Bool.{true, false, cond}
use Rattle.std.proofs.lemmas.Bool.{false≢true}
use mathlib.Core.List.{List, [], ◌∷◌, ◌++◌, map, flat_map}
use native.Mathlib.Omega.{arith}
use Rattle.std.proofs.Math.ListN.{length}
use Rattle.std.proofs.lemmas.List.{length-map}
use Rattle.rules.specs.Text.Ascii.{ascii, is}
use Rattle.rules.specs.Text.Lists.{all_of, kept, place_of, non_empty}
use Rattle.rules.specs.Text.Bytes.{Bytes, Words, white, starts, replace_from, replace, trim_start, trim_end, trimmed, before, onto, cut, words, after_each, joined_by, joined}
use Rattle.rules.specs.Text.Normal.{Replacement, run, becomes, subscript_becomes, replacements, squeezed, continued, normal}
use Rattle.rules.specs.Text.Comments.{newlines, uncommented, lined, stripped}
use Rattle.rules.specs.Text.Split.{steps_of, steps}
use Rattle.rules.specs.Proj.Words.{unplussed, is_step, cut_at_step, without_noise, proj_steps}
use Rattle.laws_lists.specs.Tests.{and_left, and_right}
use Rattle.laws_text.specs.Passes.{in_word, grow, words-cons}

-- `>` and `<` count for the ten bytes that they become
unfoldable pub weight_of : ℕ → ℕ
weight_of b = cond (is ">" b || is "<" b) 10 1

unfoldable pub weight : Bytes → ℕ
weight [] = 0
weight (x ∷ t) = weight_of x + weight t

pub weighs : (x : ℕ) → (1 ≤ weight_of x) × (weight_of x ≤ 10)
unfolding weight_of
weighs x = go (is ">" x || is "<" x)
  where
    go : (b : Bool) → (1 ≤ cond b 10 1) × (cond b 10 1 ≤ 10)
    go true = (omega arith, omega arith)
    go false = (omega arith, omega arith)

pub length-weight : (t : Bytes) → length t ≤ weight t
unfolding weight
length-weight [] = omega arith
length-weight (x ∷ t) = omega (arith, length-weight t, (weighs x).0)

pub weight-length : (t : Bytes) → weight t ≤ 10 * length t
unfolding weight
weight-length [] = omega arith
weight-length (x ∷ t) = omega (arith, weight-length t, (weighs x).1)

weight-append : (a b : Bytes) → weight (a ++ b) ≡ weight a + weight b
unfolding weight
weight-append [] b = omega arith
weight-append (x ∷ a) b = omega (arith, weight-append a b)

-- ---- trimming makes no text longer

pub start-shorter : (test : ℕ → Bool) (t : Bytes) → length (trim_start test t) ≤ length t
unfolding trim_start
start-shorter test [] = omega arith
start-shorter test (x ∷ t) = go (test x) (start-shorter test t)
  where
    go : (b : Bool) → length (trim_start test t) ≤ length t → length (cond b (trim_start test t) (x ∷ t)) ≤ length (x ∷ t)
    go true h = omega (arith, h)
    go false h = omega arith

-- ---- a replacement

weight-starts : (old t : Bytes) → starts old t ≡ true → weight t ≡ weight old + weight (drop (length old) t)
unfolding weight starts
weight-starts [] t e = omega arith
weight-starts (p ∷ old) [] e = absurd (false≢true e)
weight-starts (p ∷ old) (x ∷ t) e =
    let q : x ≡ p = eqb-true x p (and_left (eqb x p) (starts old t) e) in
    let w : weight_of x ≡ weight_of p = ap weight_of q in
    omega (arith, weight-starts old t (and_right (eqb x p) (starts old t) e))

replace_from-weight : (k : ℕ) (old new t : Bytes) → 0 < length old → weight new ≤ weight old → weight (replace_from k old new t) ≤ weight (drop k t)
unfolding weight replace_from
replace_from-weight zero old new [] h w = omega arith
replace_from-weight (suc k) old new [] h w = omega arith
replace_from-weight (suc k) old new (x ∷ t) h w = replace_from-weight k old new t h w
replace_from-weight zero old new (x ∷ t) h w = go (starts old (x ∷ t)) refl (replace_from-weight (length old - 1) old new t h w) (replace_from-weight zero old new t h w)
  where
    go : (b : Bool) → starts old (x ∷ t) ≡ b → weight (replace_from (length old - 1) old new t) ≤ weight (drop (length old - 1) t) → weight (replace_from zero old new t) ≤ weight t
        → weight (cond b (new ++ replace_from (length old - 1) old new t) (x ∷ replace_from zero old new t)) ≤ weight_of x + weight t
    go true e f g =
        let s : suc (length old - 1) ≡ length old = omega arith in
        let d : drop (length old - 1) t ≡ drop (length old) (x ∷ t) = ap (λ (n : ℕ). drop n (x ∷ t)) s in
        let v : weight (drop (length old - 1) t) ≡ weight (drop (length old) (x ∷ t)) = ap weight d in
        let a : weight_of x + weight t ≡ weight old + weight (drop (length old) (x ∷ t)) = weight-starts old (x ∷ t) e in
        rw (weight-append new (replace_from (length old - 1) old new t)) (omega arith)
    go false e f g = omega arith

pub replace-weight : (old new t : Bytes) → 0 < length old → weight new ≤ weight old → weight (replace old new t) ≤ weight t
unfolding replace
replace-weight old new t h w = replace_from-weight zero old new t h w

-- ---- the source's list

-- no `old` is empty or lighter than its `new`
unfoldable pub light : Replacement → Bool
light r = ltb 0 (length r.old) && leb (weight r.new) (weight r.old)

pub replacements-light : all_of light replacements ≡ true
unfolding ascii all_of light weight weight_of becomes subscript_becomes replacements
replacements-light = refl

pub run-weight : (rs : List Replacement) (t : Bytes) → all_of light rs ≡ true → weight (run rs t) ≤ weight t
unfolding run all_of light
run-weight [] t e = omega arith
run-weight (r ∷ rs) t e =
    let l = and_left (light r) (all_of light rs) e in
    let h = ltb-true 0 (length r.old) (and_left (ltb 0 (length r.old)) (leb (weight r.new) (weight r.old)) l) in
    let w = leb-true (weight r.new) (weight r.old) (and_right (ltb 0 (length r.old)) (leb (weight r.new) (weight r.old)) l) in
    omega (arith, replace-weight r.old r.new t h w, run-weight rs (replace r.old r.new t) (and_right (light r) (all_of light rs) e))

-- ---- trimming

trim_start-weight : (test : ℕ → Bool) (t : Bytes) → weight (trim_start test t) ≤ weight t
unfolding weight trim_start
trim_start-weight test [] = omega arith
trim_start-weight test (x ∷ t) = go (test x) (trim_start-weight test t)
  where
    go : (b : Bool) → weight (trim_start test t) ≤ weight t → weight (cond b (trim_start test t) (x ∷ t)) ≤ weight_of x + weight t
    go true h = omega arith
    go false h = omega arith

trim_end-weight : (test : ℕ → Bool) (t : Bytes) → weight (trim_end test t) ≤ weight t
unfolding weight trim_end
trim_end-weight test [] = omega arith
trim_end-weight test (x ∷ t) = go (all_of test (x ∷ t)) (trim_end-weight test t)
  where
    go : (b : Bool) → weight (trim_end test t) ≤ weight t → weight (cond b [] (x ∷ trim_end test t)) ≤ weight_of x + weight t
    go true h = omega arith
    go false h = omega arith

pub trimmed-weight : (test : ℕ → Bool) (t : Bytes) → weight (trimmed test t) ≤ weight t
unfolding trimmed
trimmed-weight test t = omega (arith, trim_end-weight test (trim_start test t), trim_start-weight test t)

-- ---- one space between words

grown : (x : ℕ) (b : Bool) (ws : Words) (n : ℕ) → weight (joined ws) ≤ n → (b ≡ false → non_empty ws ≡ true → suc (weight (joined ws)) ≤ n)
    → weight (joined (grow x b ws)) ≤ weight_of x + n
unfolding weight weight_of joined joined_by after_each grow non_empty
grown x true [] n h k = omega arith
grown x true (w ∷ ws) n h k = omega arith
grown x false [] n h k = omega arith
grown x false (w ∷ ws) n h k = let l = k refl refl in omega arith

-- the second part: white space in front of words is to spare
squeezing : (t : Bytes) → (weight (joined (words t)) ≤ weight t) × (in_word t ≡ false → non_empty (words t) ≡ true → suc (weight (joined (words t))) ≤ weight t)
unfolding weight in_word
squeezing [] = unfold words kept cut joined joined_by non_empty in (omega arith, λ e f. absurd (false≢true f))
squeezing (x ∷ t) = rw (words-cons x t) (go (white x) (squeezing t))
  where
    go : (b : Bool) → (weight (joined (words t)) ≤ weight t) × (in_word t ≡ false → non_empty (words t) ≡ true → suc (weight (joined (words t))) ≤ weight t)
        → (weight (joined (cond b (words t) (grow x (in_word t) (words t)))) ≤ weight_of x + weight t)
        × (not b ≡ false → non_empty (cond b (words t) (grow x (in_word t) (words t))) ≡ true → suc (weight (joined (cond b (words t) (grow x (in_word t) (words t))))) ≤ weight_of x + weight t)
    go true i = (omega (arith, i.0), λ e f. omega (arith, i.0, (weighs x).0))
    go false i = (grown x (in_word t) (words t) (weight t) i.0 i.1, λ e f. absurd (false≢true (sym e)))

pub squeezed-weight : (t : Bytes) → weight (squeezed t) ≤ weight t
unfolding squeezed
squeezed-weight t = (squeezing t).0

-- ---- the normal form

pub newline-weight : (t : Bytes) → weight (continued t) ≤ weight t
unfolding continued ascii weight weight_of
newline-weight t = replace-weight (ascii "\n:") (ascii "\n") t (omega arith) (omega arith)

-- white space at its front counts for nothing
pub normal-weight : (t : Bytes) → weight (normal t) ≤ weight (trim_start white t)
unfolding normal trimmed
normal-weight t =
    let s = trim_start white t in
    let a = trim_end white s in
    let b = trimmed (is ":") a in
    let c = continued b in
    let d = squeezed c in
    let e = run replacements d in
    omega (arith, trim_end-weight white s, trimmed-weight (is ":") a, newline-weight b, squeezed-weight c, run-weight replacements d replacements-light, squeezed-weight e)

-- of 4,096 bytes, at most 40,960
pub normal-length : (t : Bytes) → length (normal t) ≤ 10 * length t
normal-length t = omega (arith, length-weight (normal t), normal-weight t, trim_start-weight white t, weight-length t)

-- ---- the same of a text whose comments are stripped

space : weight_of 32 ≡ 1
unfolding weight_of
space = refl

cut_off : (b : Bool) (x : ℕ) (u : Bytes) → weight (cond b [] (x ∷ u)) ≤ weight_of x + weight u
unfolding weight
cut_off true x u = omega arith
cut_off false x u = omega arith

onto-weight : (x : ℕ) (ps : List Bytes) (n : ℕ) → weight (flat_map uncommented ps) ≤ suc n → weight (flat_map uncommented (onto x ps)) ≤ suc (weight_of x + n)
unfolding weight flat_map uncommented onto before
onto-weight x [] n h = omega (arith, space, cut_off (is "#" x) x [], weight-append (cond (is "#" x) [] (x ∷ [])) [])
onto-weight x (p ∷ ps) n h =
    let u = before (is "#") p in
    let k : weight_of 32 + weight (u ++ flat_map uncommented ps) ≤ suc n = h in
    omega (arith, space, cut_off (is "#" x) x u, weight-append (cond (is "#" x) [] (x ∷ u)) (flat_map uncommented ps), weight-append u (flat_map uncommented ps))

lines-weight : (t : Bytes) → weight (flat_map uncommented (cut (is "\n") t)) ≤ suc (weight t)
unfolding weight flat_map uncommented before cut
lines-weight [] = omega (arith, space)
lines-weight (x ∷ t) = go (is "\n" x) (lines-weight t)
  where
    go : (b : Bool) → weight (flat_map uncommented (cut (is "\n") t)) ≤ suc (weight t)
        → weight (flat_map uncommented (cond b ([] ∷ cut (is "\n") t) (onto x (cut (is "\n") t)))) ≤ suc (weight_of x + weight t)
    go true h = omega (arith, space, (weighs x).0)
    go false h = onto-weight x (cut (is "\n") t) (weight t) h

-- the space in front of the first line is trimmed
lines-front : (ps : List Bytes) → weight (trim_start white (flat_map uncommented ps)) ≤ weight (flat_map uncommented ps) - 1
unfolding weight flat_map uncommented trim_start white
lines-front [] = omega arith
lines-front (p ∷ ps) = let u = before (is "#") p ++ flat_map uncommented ps in omega (arith, space, trim_start-weight white u)

lined-front : (t : Bytes) → weight (trim_start white (lined t)) ≤ weight t
unfolding lined
lined-front t = omega (arith, lines-front (cut (is "\n") t), lines-weight t)

lined-weight : (t : Bytes) → weight (normal (lined t)) ≤ weight t
lined-weight t = omega (arith, normal-weight (lined t), lined-front t)

-- the lines themselves, with the space in front of the first
pub lined-longer : (t : Bytes) → weight (lined t) ≤ suc (weight t)
unfolding lined
lined-longer t = lines-weight t

pub lined-trimmed : (t : Bytes) → weight (trimmed white (lined t)) ≤ weight t
unfolding trimmed
lined-trimmed t = omega (arith, trim_end-weight white (trim_start white (lined t)), lined-front t)

pub newlines-weight : (t : Bytes) → weight (newlines t) ≤ weight t
unfolding newlines ascii weight weight_of
newlines-weight t =
    let u = replace (ascii "\r\n") (ascii "\n") t in
    omega (arith, replace-weight (ascii "\r\n") (ascii "\n") t (omega arith) (omega arith), replace-weight (ascii "\r") (ascii "\n") u (omega arith) (omega arith))

-- what is normalised in splitting
pub stripped-weight : (t : Bytes) → weight (trimmed white (stripped t)) ≤ weight t
unfolding stripped
stripped-weight t =
    let a = trimmed white t in
    let b = newlines a in
    let c = continued b in
    omega (arith, lined-trimmed c, newline-weight b, newlines-weight a, trimmed-weight white t)

-- what is cut into steps
pub steps-length : (t : Bytes) → length (normal (stripped t)) ≤ 10 * length t
unfolding stripped
steps-length t =
    let a = trimmed white t in
    let b = newlines a in
    let c = continued b in
    omega (arith, length-weight (normal (lined c)), lined-weight c, newline-weight b, newlines-weight a, trimmed-weight white t, weight-length t)

pub unplussed-weight : (t : Bytes) → weight (unplussed t) ≤ weight t
unfolding unplussed ascii weight weight_of
unplussed-weight t =
    let a = replace (ascii " +") (ascii " ") t in
    let b = replace (ascii "\n+") (ascii " ") a in
    let c = trimmed white b in
    omega (
      arith,
      replace-weight (ascii " +") (ascii " ") t (omega arith) (omega arith),
      replace-weight (ascii "\n+") (ascii " ") a (omega arith) (omega arith),
      trimmed-weight white b,
      trim_start-weight (is "+") c,
    )

-- what is cut into PROJ steps
pub proj-length : (t : Bytes) → length (normal (lined (unplussed (newlines t)))) ≤ 10 * length t
proj-length t =
    let a = newlines t in
    let b = unplussed a in
    omega (arith, length-weight (normal (lined b)), lined-weight b, unplussed-weight a, newlines-weight t, weight-length t)

-- ---- how many words and steps there are

module _ {A : Type 0} where
  kept-few : (test : A → Bool) (l : List A) → length (kept test l) ≤ length l
  unfolding kept
  kept-few test [] = omega arith
  kept-few test (x ∷ l) = go (test x) (kept-few test l)
    where
      go : (b : Bool) → length (kept test l) ≤ length l → length (cond b (x ∷ kept test l) (kept test l)) ≤ suc (length l)
      go true h = omega arith
      go false h = omega arith

  -- the place of the first that passes a test is one of the list's
  pub place-within : (test : A → Bool) (l : List A) → place_of test l ≤ length l
  unfolding place_of
  place-within test [] = omega arith
  place-within test (x ∷ l) = go (test x) (place-within test l)
    where
      go : (b : Bool) → place_of test l ≤ length l → cond b 1 (suc (place_of test l)) ≤ suc (length l)
      go true h = omega arith
      go false h = omega arith

  -- a piece more, or x put onto the first
  piece-few : (b : Bool) (x : A) (ps qs : List (List A)) (n : ℕ) → length ps ≤ suc n → length qs ≤ suc n → length (cond b ([] ∷ ps) (onto x qs)) ≤ suc (suc n)
  unfolding onto
  piece-few true x ps qs n h k = omega arith
  piece-few false x ps [] n h k = omega arith
  piece-few false x ps (q ∷ qs) n h k = omega arith

cut-few : (test : ℕ → Bool) (t : Bytes) → length (cut test t) ≤ suc (length t)
unfolding cut
cut-few test [] = omega arith
cut-few test (x ∷ t) = piece-few (test x) x (cut test t) (cut test t) (length t) (cut-few test t) (cut-few test t)

at-step-few : (right_after : Bool) (ws : Words) → length (cut_at_step right_after ws) ≤ suc (length ws)
unfolding cut_at_step
at-step-few b [] = omega arith
at-step-few true (w ∷ ws) = piece-few false w (cut_at_step true ws) (cut_at_step false ws) (length ws) (at-step-few true ws) (at-step-few false ws)
at-step-few false (w ∷ ws) = piece-few (is_step w) w (cut_at_step true ws) (cut_at_step false ws) (length ws) (at-step-few true ws) (at-step-few false ws)

grow-few : (x : ℕ) (b : Bool) (ws : Words) → length (grow x b ws) ≤ suc (length ws)
unfolding grow
grow-few x true [] = omega arith
grow-few x true (w ∷ ws) = omega arith
grow-few x false ws = omega arith

pub words-few : (t : Bytes) → length (words t) ≤ length t
words-few [] = unfold words kept non_empty cut in omega arith
words-few (x ∷ t) = rw (words-cons x t) (go (white x) (words-few t))
  where
    go : (b : Bool) → length (words t) ≤ length t → length (cond b (words t) (grow x (in_word t) (words t))) ≤ suc (length t)
    go true h = omega arith
    go false h = omega (arith, grow-few x (in_word t) (words t))

-- of a text, and of a PROJ text
pub steps-few : (t : Bytes) → length (steps t) ≤ suc (10 * length t)
unfolding steps steps_of
steps-few t =
    let n = normal (stripped t) in
    let ps = cut (is "|") n in
    omega (arith, kept-few non_empty (map words ps), length-map ps words, cut-few (is "|") n, steps-length t)

pub proj-few : (t : Bytes) → length (proj_steps t) ≤ suc (10 * length t)
unfolding proj_steps
proj-few t =
    let n = normal (lined (unplussed (newlines t))) in
    let ps = cut_at_step false (words n) in
    omega (arith, kept-few non_empty (map without_noise ps), length-map ps without_noise, at-step-few false (words n), words-few n, proj-length t)

-- ---- buffers

-- a text of so many bytes, ten times as long, has room in a buffer of a known length
pub tenfold : (t : Bytes) (most : ℕ) {x y : ℕ} → length t ≤ most → 10 * most ≤ x → x ≡ y → 10 * length t ≤ y
tenfold t most h l e = omega arith

pub tenfold-less : (t : Bytes) (most : ℕ) {x y : ℕ} → length t ≤ most → 10 * most < x → x ≡ y → 10 * length t < y
tenfold-less t most h l e = omega arith

-- and so has what weighs no more than it
pub tenfold-weight : (t : Bytes) {x : ℕ} → 10 * length t ≤ x → weight t ≤ x
tenfold-weight t h = omega (arith, weight-length t)

pub tenfold-weight-less : (t : Bytes) {x : ℕ} → 10 * length t < x → weight t < x
tenfold-weight-less t h = omega (arith, weight-length t)
