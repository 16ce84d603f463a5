-- White space at the ends: of elements that have none there, only an empty first one leaves any to be trimmed.
use Rattle.std.specs.Prelude.{◌≡◌, Bool, cond, not, ◌&&◌, ◌||◌, [], ◌∷◌, ◌++◌, map, ℕ}
use Rattle.std.proofs.Math.Path.{refl, ap}
use Rattle.std.proofs.Common.{sym, ◌∙◌, append-nil}
use Rattle.std.proofs.Math.Bool.{true, false}
use Rattle.std.proofs.lemmas.Bool.{false≢true, not-true}
use Rattle.rules.specs.Text.Ascii.{ascii}
use Rattle.rules.specs.Text.Lists.{all_of, kept, non_empty}
use Rattle.rules.specs.Text.Bytes.{Bytes, Words, white, same, trim_start, trim_end, trimmed, after_each, joined_by, joined}
use Rattle.rules.specs.Proj.Translate.{at_position1, exchanged_mark, without_inv, not_inv, Pipeline, with_globals}
use Rattle.laws_lists.specs.Tests.{and_left, and_right}
use Rattle.laws_text.specs.Passes.{in_word, keep, trim_end-cons}
use Rattle.laws_proj.specs.Tests.{both, all-kept}
use Rattle.laws_proj.specs.Flowing.{flow, more}

-- does the text end with a byte that is no white space?
unfoldable pub last_fine : Bytes → Bool
last_fine [] = false
last_fine (x ∷ []) = not (white x)
last_fine (x ∷ y ∷ t) = last_fine (y ∷ t)

-- no white space at either end, and not empty
unfoldable pub solid : Bytes → Bool
solid w = in_word w && last_fine w

-- or empty
unfoldable pub mild : Bytes → Bool
mild w = not (non_empty w) || solid w

-- elements of which only the first may be empty
unfoldable pub fine : Words → Bool
fine [] = true
fine (x ∷ xs) = mild x && all_of solid xs

-- ---- trimming

pub start-same : (t : Bytes) → in_word t ≡ true → trim_start white t ≡ t
unfolding in_word trim_start
start-same [] e = refl
start-same (x ∷ t) e = rw (not-true (white x) e)

pub keep-more : (x y : ℕ) (t : Bytes) {u : Bytes} → u ≡ y ∷ t → keep white x u ≡ x ∷ y ∷ t
unfolding keep
keep-more x y t e = rw e

pub end_same : (t : Bytes) → last_fine t ≡ true → trim_end white t ≡ t
unfolding last_fine
end_same [] e = absurd (false≢true e)
end_same (x ∷ []) e = trim_end-cons white x [] ∙ unfold trim_end keep in rw (not-true (white x) e)
end_same (x ∷ y ∷ t) e = trim_end-cons white x (y ∷ t) ∙ keep-more x y t (end_same (y ∷ t) e)

pub solid-same : (t : Bytes) → solid t ≡ true → trimmed white t ≡ t
unfolding solid trimmed
solid-same t e = ap (trim_end white) (start-same t (and_left (in_word t) (last_fine t) e)) ∙ end_same t (and_right (in_word t) (last_fine t) e)

pub fine-append : (a b : Bytes) → last_fine b ≡ true → last_fine (a ++ b) ≡ true
unfolding last_fine
fine-append [] b e = e
fine-append (x ∷ []) [] e = absurd (false≢true e)
fine-append (x ∷ []) (y ∷ b) e = e
fine-append (x ∷ z ∷ a) b e = fine-append (z ∷ a) b e

pub front-append : (a b : Bytes) → in_word a ≡ true → in_word (a ++ b) ≡ true
unfolding in_word
front-append [] b e = absurd (false≢true e)
front-append (x ∷ a) b e = e

after-fine : (w : Bytes) (ws : Words) → last_fine w ≡ true → all_of solid ws ≡ true → last_fine (w ++ after_each (32 ∷ []) ws) ≡ true
unfolding all_of after_each
after-fine w [] e f = rw (append-nil w) e
after-fine w (v ∷ ws) e f =
    let s = and_left (solid v) (all_of solid ws) f in
    fine-append w (32 ∷ (v ++ after_each (32 ∷ []) ws))
    (fine-append (32 ∷ []) (v ++ after_each (32 ∷ []) ws) (after-fine v ws (unfold solid in and_right (in_word v) (last_fine v) s) (and_right (solid v) (all_of solid ws) f)))

pub joined-solid : (w : Bytes) (ws : Words) → all_of solid (w ∷ ws) ≡ true → solid (joined (w ∷ ws)) ≡ true
unfolding all_of solid joined joined_by
joined-solid w ws e =
    let s = and_left (solid w) (all_of solid ws) e in
    both (front-append w (after_each (32 ∷ []) ws) (and_left (in_word w) (last_fine w) s)) (after-fine w ws (and_right (in_word w) (last_fine w) s) (and_right (solid w) (all_of solid ws) e))

solid-some : (w : Bytes) → solid w ≡ true → non_empty w ≡ true
unfolding solid in_word non_empty
solid-some [] e = absurd (false≢true e)
solid-some (x ∷ w) e = refl

kept-solid : (ws : Words) → all_of solid ws ≡ true → kept non_empty ws ≡ ws
unfolding all_of kept
kept-solid [] e = refl
kept-solid (w ∷ ws) e = rw (solid-some w (and_left (solid w) (all_of solid ws) e)) (ap (λ (us : Words). w ∷ us) (kept-solid ws (and_right (solid w) (all_of solid ws) e)))

-- an empty first element
trim-after : (ws : Words) → all_of solid ws ≡ true → trimmed white (after_each (32 ∷ []) ws) ≡ joined ws
unfolding trimmed
trim-after [] e = unfold trim_start trim_end after_each joined joined_by in refl
trim-after (w ∷ ws) e = ap (trim_end white) first ∙ unfold solid in end_same (joined (w ∷ ws)) (and_right (in_word (joined (w ∷ ws))) (last_fine (joined (w ∷ ws))) s)
  where
    s : solid (joined (w ∷ ws)) ≡ true
    s = joined-solid w ws e

    first : trim_start white (after_each (32 ∷ []) (w ∷ ws)) ≡ joined (w ∷ ws)
    first = unfold trim_start white after_each joined joined_by solid in start-same (joined (w ∷ ws)) (and_left (in_word (joined (w ∷ ws))) (last_fine (joined (w ∷ ws))) s)

pub trim-joined : (ws : Words) → fine ws ≡ true → trimmed white (joined ws) ≡ more false ws
unfolding fine more joined joined_by
trim-joined [] e = unfold trimmed trim_start trim_end kept joined joined_by in refl
trim-joined ([] ∷ ws) e = trim-after ws s ∙ sym (unfold kept non_empty in ap joined (kept-solid ws s))
  where
    s : all_of solid ws ≡ true
    s = and_right (mild []) (all_of solid ws) e
trim-joined ((x ∷ w) ∷ ws) e = solid-same (joined ((x ∷ w) ∷ ws)) (joined-solid (x ∷ w) ws s) ∙ sym (ap joined (kept-solid ((x ∷ w) ∷ ws) s))
  where
    s : all_of solid ((x ∷ w) ∷ ws) ≡ true
    s = unfold all_of mild non_empty in e

-- ---- elements

pub solid-mild : (w : Bytes) → solid w ≡ true → mild w ≡ true
unfolding mild
solid-mild w e = rw (solid-some w e) e

pub mild-solid : (w : Bytes) → mild w ≡ true → non_empty w ≡ true → solid w ≡ true
unfolding mild
mild-solid w e f = sym (rw f) ∙ e

pub solid-fine : (ws : Words) → all_of solid ws ≡ true → fine ws ≡ true
unfolding fine all_of
solid-fine [] e = refl
solid-fine (w ∷ ws) e = both (solid-mild w (and_left (solid w) (all_of solid ws) e)) (and_right (solid w) (all_of solid ws) e)

-- the text of elements
kept_fine : (ws : Words) → fine ws ≡ true → all_of solid (kept non_empty ws) ≡ true
unfolding fine all_of kept
kept_fine [] e = refl
kept_fine (w ∷ ws) e = go (non_empty w) refl
  where
    rest : all_of solid (kept non_empty ws) ≡ true
    rest = all-kept solid non_empty ws (and_right (mild w) (all_of solid ws) e)

    go : (b : Bool) → non_empty w ≡ b → all_of solid (cond b (w ∷ kept non_empty ws) (kept non_empty ws)) ≡ true
    go true f = unfold all_of in both (mild-solid w (and_left (mild w) (all_of solid ws) e) f) rest
    go false f = rest

pub more-mild : (ws : Words) → fine ws ≡ true → mild (more false ws) ≡ true
unfolding more
more-mild ws e = go (kept non_empty ws) (kept_fine ws e)
  where
    go : (us : Words) → all_of solid us ≡ true → mild (joined us) ≡ true
    go [] f = unfold joined joined_by mild non_empty in refl
    go (u ∷ us) f = solid-mild (joined (u ∷ us)) (joined-solid u us f)

-- what is done to elements leaves them so
fine-kept : (test : Bytes → Bool) (ws : Words) → fine ws ≡ true → fine (kept test ws) ≡ true
unfolding kept
fine-kept test [] e = e
fine-kept test (w ∷ ws) e = go (test w) (unfold fine in e)
  where
    rest : (mild w && all_of solid ws) ≡ true → all_of solid (kept test ws) ≡ true
    rest f = all-kept solid test ws (and_right (mild w) (all_of solid ws) f)

    go : (b : Bool) → (mild w && all_of solid ws) ≡ true → fine (cond b (w ∷ kept test ws) (kept test ws)) ≡ true
    go true f = unfold fine in both (and_left (mild w) (all_of solid ws) f) (rest f)
    go false f = solid-fine (kept test ws) (rest f)

mark-solid : (w : Bytes) → solid w ≡ true → solid (exchanged_mark w) ≡ true
unfolding exchanged_mark
mark-solid w e = go (same w (ascii "omit_fwd")) (same w (ascii "omit_inv"))
  where
    go : (a b : Bool) → solid (cond a (ascii "omit_inv") (cond b (ascii "omit_fwd") w)) ≡ true
    go true b = unfold solid ascii in_word last_fine white in refl
    go false true = unfold solid ascii in_word last_fine white in refl
    go false false = e

mark-mild : (w : Bytes) → mild w ≡ true → mild (exchanged_mark w) ≡ true
unfolding exchanged_mark
mark-mild w e = go (same w (ascii "omit_fwd")) (same w (ascii "omit_inv"))
  where
    go : (a b : Bool) → mild (cond a (ascii "omit_inv") (cond b (ascii "omit_fwd") w)) ≡ true
    go true b = unfold mild non_empty solid ascii in_word last_fine white in refl
    go false true = unfold mild non_empty solid ascii in_word last_fine white in refl
    go false false = e

marks-solid : (ws : Words) → all_of solid ws ≡ true → all_of solid (map exchanged_mark ws) ≡ true
unfolding all_of
marks-solid [] e = refl
marks-solid (w ∷ ws) e = both (mark-solid w (and_left (solid w) (all_of solid ws) e)) (marks-solid ws (and_right (solid w) (all_of solid ws) e))

fine-marks : (ws : Words) → fine ws ≡ true → fine (map exchanged_mark ws) ≡ true
unfolding fine
fine-marks [] e = refl
fine-marks (w ∷ ws) e = both (mark-mild w (and_left (mild w) (all_of solid ws) e)) (marks-solid ws (and_right (mild w) (all_of solid ws) e))

fine-position : (v : Bytes) (ws : Words) → solid v ≡ true → fine ws ≡ true → fine (at_position1 v ws) ≡ true
unfolding fine at_position1 all_of
fine-position v [] s e = both (solid-mild v s) refl
fine-position v (w ∷ ws) s e = both (and_left (mild w) (all_of solid ws) e) (both s (and_right (mild w) (all_of solid ws) e))

pub fine-flow : (owed : Bool) (ws : Words) → fine ws ≡ true → fine (flow owed ws) ≡ true
unfolding flow without_inv
fine-flow owed ws e = go owed
  where
    rest : fine (map exchanged_mark (kept not_inv ws)) ≡ true
    rest = fine-marks (kept not_inv ws) (fine-kept not_inv ws e)

    go : (b : Bool) → fine (cond b (at_position1 (ascii "inv") (map exchanged_mark (kept not_inv ws))) (map exchanged_mark (kept not_inv ws))) ≡ true
    go true = fine-position (ascii "inv") (map exchanged_mark (kept not_inv ws)) (unfold solid ascii in_word last_fine white in refl) rest
    go false = rest

pub fine-globals : (p : Pipeline) (ws : Words) → mild p.globals ≡ true → fine ws ≡ true → fine (with_globals p ws) ≡ true
unfolding with_globals
fine-globals p ws m e = go (non_empty p.globals) refl
  where
    go : (b : Bool) → non_empty p.globals ≡ b → fine (cond b (at_position1 p.globals ws) ws) ≡ true
    go true f = fine-position p.globals ws (mild-solid p.globals m f) e
    go false f = e
