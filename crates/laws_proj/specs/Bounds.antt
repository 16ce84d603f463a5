-- How long a step of the answer can be: roughly, but so that every number fits.
use Rattle.std.specs.Prelude.{◌≡◌, Bool, cond, not, ◌&&◌, [], ◌∷◌, ◌++◌, map, suc, ◌+◌, ◌*◌, ◌≤◌, drop}
use Rattle.std.proofs.Math.Path.{refl, sym}
use Rattle.std.proofs.Common.{ap, length-append}
use Rattle.std.proofs.Math.Bool.{true, false}
use Rattle.std.specs.Bool.{xor}
use native.Mathlib.Omega.{arith}
use Rattle.std.proofs.Math.ListN.{length, length-drop}
use Rattle.rules.specs.Text.Ascii.{ascii}
use Rattle.rules.specs.Text.Lists.{any_of, kept, non_empty}
use Rattle.rules.specs.Text.Bytes.{Bytes, Words, same, starts, words, joined}
use Rattle.rules.specs.Proj.Words.{is_proj, first_proj, in_its_place, exchanged, has_key, last_of, without_last, composed, ellipsoid, scale, tidied}
use Rattle.rules.specs.Proj.Translate.{is_inv, not_inv, at_position1, Pipeline, with_globals, exchanged_mark, without_inv, step_of}
use Rattle.laws_lists.specs.Tests.{same-is}
use Rattle.laws_text.specs.Words.{size, size-append, joined-size, words_size}
use Rattle.laws_proj.specs.Flowing.{flow, more}
use Rattle.laws_proj.specs.Step.{Global, step-text}

-- ---- tidying

size-place : (v : Bytes) (ws : Words) → size (in_its_place v ws) + length (first_proj ws) ≤ size ws + length v
unfolding size in_its_place first_proj
size-place v [] = omega arith
size-place v (w ∷ ws) = go (is_proj w) (size-place v ws)
  where
    go : (b : Bool) → size (in_its_place v ws) + length (first_proj ws) ≤ size ws + length v
        → size (cond b (v ∷ ws) (w ∷ in_its_place v ws)) + length (cond b w (first_proj ws)) ≤ suc (length w + size ws) + length v
    go true h = unfold size in omega arith
    go false h = unfold size in omega arith

size-exchanged : (ws : Words) → size (exchanged ws) ≤ size ws
unfolding exchanged
size-exchanged [] = omega arith
size-exchanged (w ∷ ws) = go (is_proj w) (any_of is_proj ws)
  where
    go : (b d : Bool) → size (cond b (drop 5 w ∷ ws) (cond d (drop 5 (first_proj ws) ∷ in_its_place w ws) (w ∷ ws))) ≤ size (w ∷ ws)
    go true d = unfold size in omega (arith, length-drop 5 w)
    go false true = unfold size in omega (arith, length-drop 5 (first_proj ws), size-place w ws)
    go false false = omega arith

size-without : (key : Bytes) (ws : Words) → size (without_last key ws) ≤ size ws
unfolding size without_last
size-without key [] = omega arith
size-without key (w ∷ ws) = go (has_key key ws) (size-without key ws)
  where
    go : (b : Bool) → size (without_last key ws) ≤ size ws → size (cond b (w ∷ without_last key ws) ws) ≤ suc (length w + size ws)
    go true h = unfold size in omega arith
    go false h = omega arith

size-last : (key : Bytes) (ws : Words) → length (last_of key ws) ≤ size ws
unfolding size last_of
size-last key [] = omega arith
size-last key (w ∷ ws) = go (has_key key ws) (size-last key ws)
  where
    go : (b : Bool) → length (last_of key ws) ≤ size ws → length (cond b (last_of key ws) w) ≤ suc (length w + size ws)
    go true h = omega arith
    go false h = omega arith

size-ellps : (a r : Bytes) → size ((ascii "ellps=" ++ (drop 2 a ++ (ascii "," ++ drop 3 r))) ∷ []) ≤ length a + length r + 8
unfolding size ascii
size-ellps a r = omega (arith, length-append (drop 2 a) (44 ∷ drop 3 r), length-drop 2 a, length-drop 3 r)

size-ellipsoid : (ws : Words) → size (ellipsoid ws) ≤ 3 * size ws + 8
unfolding ellipsoid composed
size-ellipsoid ws = go (not (has_key (ascii "ellps=") ws) && (has_key (ascii "a=") ws && has_key (ascii "rf=") ws))
  where
    go : (b : Bool) → size (cond b (composed ws) ws) ≤ 3 * size ws + 8
    go true =
        let others = without_last (ascii "a=") ws in
        let word = ascii "ellps=" ++ (drop 2 (last_of (ascii "a=") ws) ++ (ascii "," ++ drop 3 (last_of (ascii "rf=") ws))) in
        let whole = size-append (without_last (ascii "rf=") others) (word ∷ []) in
        let values = size-ellps (last_of (ascii "a=") ws) (last_of (ascii "rf=") ws) in
        omega (arith, whole, values, size-last (ascii "a=") ws, size-last (ascii "rf=") ws, size-without (ascii "rf=") others, size-without (ascii "a=") ws)
    go false = omega arith

size_scale : (ws : Words) → size (scale ws) ≤ size ws + 4
unfolding size scale
size_scale [] = omega arith
size_scale (w ∷ ws) = go (starts (ascii "k=") w) (size_scale ws)
  where
    go : (b : Bool) → size (scale ws) ≤ size ws + 4 → size (cond b ((ascii "k_0=" ++ drop 2 w) ∷ ws) (w ∷ scale ws)) ≤ suc (length w + size ws) + 4
    go true h = unfold size ascii in omega (arith, length-drop 2 w)
    go false h = unfold size in omega arith

size-tidied : (ws : Words) → size (tidied ws) ≤ 3 * size ws + 12
unfolding tidied
size-tidied ws = omega (arith, size_scale (ellipsoid (exchanged ws)), size-ellipsoid (exchanged ws), size-exchanged ws)

-- ---- elements

size-position : (v : Bytes) (ws : Words) → size (at_position1 v ws) ≡ suc (length v) + size ws
unfolding size at_position1
size-position v [] = omega arith
size-position v (w ∷ ws) = omega arith

size-globals : (p : Pipeline) (ws : Words) → size (with_globals p ws) ≤ size ws + suc (length p.globals)
unfolding with_globals
size-globals p ws = go (non_empty p.globals)
  where
    go : (b : Bool) → size (cond b (at_position1 p.globals ws) ws) ≤ size ws + suc (length p.globals)
    go true = omega (arith, size-position p.globals ws)
    go false = omega arith

size-kept : (test : Bytes → Bool) (ws : Words) → size (kept test ws) ≤ size ws
unfolding size kept
size-kept test [] = omega arith
size-kept test (w ∷ ws) = go (test w) (size-kept test ws)
  where
    go : (b : Bool) → size (kept test ws) ≤ size ws → size (cond b (w ∷ kept test ws) (kept test ws)) ≤ suc (length w + size ws)
    go true h = unfold size in omega arith
    go false h = omega arith

-- a mark is exchanged for one of the same length
mark-length : (w : Bytes) → length (exchanged_mark w) ≡ length w
unfolding exchanged_mark
mark-length w = go (same w (ascii "omit_fwd")) refl (same w (ascii "omit_inv")) refl
  where
    go : (a : Bool) → same w (ascii "omit_fwd") ≡ a → (b : Bool) → same w (ascii "omit_inv") ≡ b → length (cond a (ascii "omit_inv") (cond b (ascii "omit_fwd") w)) ≡ length w
    go true e b f = unfold ascii in sym (ap length (same-is w (ascii "omit_fwd") e))
    go false e true f = unfold ascii in sym (ap length (same-is w (ascii "omit_inv") f))
    go false e false f = refl

size-marks : (ws : Words) → size (map exchanged_mark ws) ≡ size ws
unfolding size
size-marks [] = refl
size-marks (w ∷ ws) = omega (arith, mark-length w, size-marks ws)

size-flow : (owed : Bool) (ws : Words) → size (flow owed ws) ≤ size ws + 4
unfolding flow without_inv
size-flow owed ws = go owed
  where
    go : (b : Bool) → size (cond b (at_position1 (ascii "inv") (map exchanged_mark (kept not_inv ws))) (map exchanged_mark (kept not_inv ws))) ≤ size ws + 4
    go true = unfold ascii in omega (arith, size-position (ascii "inv") (map exchanged_mark (kept not_inv ws)), size-marks (kept not_inv ws), size-kept not_inv ws)
    go false = omega (arith, size-marks (kept not_inv ws), size-kept not_inv ws)

more-size : (ws : Words) → length (more false ws) ≤ size ws
unfolding more
more-size ws = omega (arith, joined-size (kept non_empty ws), size-kept non_empty ws)

-- a step's text
pub step-length : (p : Pipeline) (t : Bytes) → Global p → length (step_of p (words t)) ≤ 3 * length t + length p.globals + 20
step-length p t g =
    let owed = xor (any_of is_inv (exchanged (words t))) p.inverted in
    let us = with_globals p (tidied (words t)) in
    omega (arith, ap length (step-text p t g), more-size (flow owed us), size-flow owed us, size-globals p (tidied (words t)), size-tidied (words t), words_size t)

-- ---- a pipeline's globals

-- the words of a step that is the pipeline's, but the first and `inv`
unfoldable pub globals_of : Words → Bytes
globals_of ws = joined (kept not_inv (drop 1 (exchanged ws)))

size-drop : (ws : Words) → size (drop 1 ws) ≤ size ws
unfolding size
size-drop [] = omega arith
size-drop (w ∷ ws) = omega arith

-- they are no longer than the step
pub globals-length : (t : Bytes) → length (globals_of (words t)) ≤ length t
unfolding globals_of
globals-length t =
    omega (arith, joined-size (kept not_inv (drop 1 (exchanged (words t)))), size-kept not_inv (drop 1 (exchanged (words t))), size-drop (exchanged (words t)), size-exchanged (words t), words_size t)
