-- Words without white space: all that is made of them in tidying a step is such.
use Rattle.std.specs.Prelude.{◌≡◌, Bool, cond, not, ◌&&◌, [], ◌∷◌, ◌++◌, ℕ}
use Rattle.std.proofs.Math.Path.{refl}
use Rattle.std.proofs.Common.{◌∙◌}
use Rattle.std.proofs.Math.Bool.{true, false}
use Rattle.std.proofs.lemmas.Bool.{false≢true}
use Rattle.std.proofs.Math.ListN.{drop}
use Rattle.rules.specs.Text.Ascii.{ascii}
use Rattle.rules.specs.Text.Lists.{any_of, all_of, non_empty}
use Rattle.rules.specs.Text.Bytes.{Bytes, Words, white, starts}
use Rattle.rules.specs.Proj.Words.{is_proj, first_proj, in_its_place, exchanged, has_key, last_of, without_last, composed, ellipsoid, scale, tidied}
use Rattle.laws_lists.specs.Tests.{and_left, and_right}
use Rattle.laws_text.specs.Passes.{in_word}
use Rattle.laws_text.specs.Plain.{dark, blankless, plain, plain-blankless}
use Rattle.laws_proj.specs.Tests.{both, all_append, all_drop, all-each}
use Rattle.laws_proj.specs.Solid.{last_fine, solid, mild, fine, solid-mild}

-- words of which only the first may be empty
unfoldable pub even : Words → Bool
even [] = true
even (x ∷ xs) = blankless x && all_of plain xs

pub plain-even : (ws : Words) → all_of plain ws ≡ true → even ws ≡ true
unfolding all_of even
plain-even [] e = refl
plain-even (w ∷ ws) e = both (plain-blankless w (and_left (plain w) (all_of plain ws) e)) (and_right (plain w) (all_of plain ws) e)

-- ---- they are solid

dark-last : (x : ℕ) (t : Bytes) → all_of dark (x ∷ t) ≡ true → last_fine (x ∷ t) ≡ true
unfolding all_of last_fine
dark-last x [] e = and_left (not (white x)) true e
dark-last x (y ∷ t) e = dark-last y t (and_right (not (white x)) (all_of dark (y ∷ t)) e)

plain-solid : (w : Bytes) → plain w ≡ true → solid w ≡ true
unfolding plain blankless non_empty solid in_word
plain-solid [] e = absurd (false≢true e)
plain-solid (x ∷ w) e =
    let d : not (white x) ≡ true = unfold all_of in and_left (not (white x)) (all_of dark w) e in
    both d (dark-last x w e)

blankless-mild : (w : Bytes) → blankless w ≡ true → mild w ≡ true
blankless-mild [] e = unfold mild non_empty in refl
blankless-mild (x ∷ w) e = solid-mild (x ∷ w) (plain-solid (x ∷ w) (unfold plain non_empty in e))

pub even-fine : (ws : Words) → even ws ≡ true → fine ws ≡ true
unfolding even fine
even-fine [] e = refl
even-fine (w ∷ ws) e = both (blankless-mild w (and_left (blankless w) (all_of plain ws) e)) (all-each plain solid plain-solid ws (and_right (blankless w) (all_of plain ws) e))

pub plain-solids : (ws : Words) → all_of plain ws ≡ true → all_of solid ws ≡ true
plain-solids ws e = all-each plain solid plain-solid ws e

-- ---- `proj=` in front

blankless-drop : (n : ℕ) (w : Bytes) → blankless w ≡ true → blankless (drop n w) ≡ true
unfolding blankless
blankless-drop n w e = all_drop dark n w e

first-dark : (ws : Words) → all_of plain ws ≡ true → blankless (first_proj ws) ≡ true
unfolding all_of first_proj
first-dark [] e = unfold blankless all_of in refl
first-dark (w ∷ ws) e = go (is_proj w) (first-dark ws (and_right (plain w) (all_of plain ws) e))
  where
    go : (b : Bool) → blankless (first_proj ws) ≡ true → blankless (cond b w (first_proj ws)) ≡ true
    go true h = plain-blankless w (and_left (plain w) (all_of plain ws) e)
    go false h = h

place-plain : (v : Bytes) (ws : Words) → plain v ≡ true → all_of plain ws ≡ true → all_of plain (in_its_place v ws) ≡ true
unfolding all_of in_its_place
place-plain v [] p e = refl
place-plain v (w ∷ ws) p e = go (is_proj w) (place-plain v ws p (and_right (plain w) (all_of plain ws) e))
  where
    go : (b : Bool) → all_of plain (in_its_place v ws) ≡ true → all_of plain (cond b (v ∷ ws) (w ∷ in_its_place v ws)) ≡ true
    go true h = unfold all_of in both p (and_right (plain w) (all_of plain ws) e)
    go false h = unfold all_of in both (and_left (plain w) (all_of plain ws) e) h

pub exchanged-even : (ws : Words) → all_of plain ws ≡ true → even (exchanged ws) ≡ true
unfolding exchanged
exchanged-even [] e = unfold even in refl
exchanged-even (w ∷ ws) e = go (is_proj w) (any_of is_proj ws)
  where
    p : plain w ≡ true
    p = unfold all_of in and_left (plain w) (all_of plain ws) e

    ps : all_of plain ws ≡ true
    ps = unfold all_of in and_right (plain w) (all_of plain ws) e

    go : (b d : Bool) → even (cond b (drop 5 w ∷ ws) (cond d (drop 5 (first_proj ws) ∷ in_its_place w ws) (w ∷ ws))) ≡ true
    go true d = unfold even in both (blankless-drop 5 w (plain-blankless w p)) ps
    go false true = unfold even in both (blankless-drop 5 (first_proj ws) (first-dark ws ps)) (place-plain w ws p ps)
    go false false = plain-even (w ∷ ws) e

-- after the first, none is empty
pub tail-plain : (ws : Words) → even ws ≡ true → all_of plain (drop 1 ws) ≡ true
unfolding even
tail-plain [] e = unfold all_of in refl
tail-plain (w ∷ ws) e = and_right (blankless w) (all_of plain ws) e

-- ---- the ellipsoid and the scale

even-dark : (ws : Words) → even ws ≡ true → all_of blankless ws ≡ true
unfolding even all_of
even-dark [] e = refl
even-dark (w ∷ ws) e = both (and_left (blankless w) (all_of plain ws) e) (all-each plain blankless plain-blankless ws (and_right (blankless w) (all_of plain ws) e))

last-dark : (key : Bytes) (ws : Words) → all_of blankless ws ≡ true → blankless (last_of key ws) ≡ true
unfolding all_of last_of
last-dark key [] e = unfold blankless all_of in refl
last-dark key (w ∷ ws) e = go (has_key key ws) (last-dark key ws (and_right (blankless w) (all_of blankless ws) e))
  where
    go : (b : Bool) → blankless (last_of key ws) ≡ true → blankless (cond b (last_of key ws) w) ≡ true
    go true h = h
    go false h = and_left (blankless w) (all_of blankless ws) e

without-plain : (key : Bytes) (ws : Words) → all_of plain ws ≡ true → all_of plain (without_last key ws) ≡ true
unfolding all_of without_last
without-plain key [] e = refl
without-plain key (w ∷ ws) e = go (has_key key ws) (without-plain key ws (and_right (plain w) (all_of plain ws) e))
  where
    go : (b : Bool) → all_of plain (without_last key ws) ≡ true → all_of plain (cond b (w ∷ without_last key ws) ws) ≡ true
    go true h = unfold all_of in both (and_left (plain w) (all_of plain ws) e) h
    go false h = and_right (plain w) (all_of plain ws) e

without-even : (key : Bytes) (ws : Words) → even ws ≡ true → even (without_last key ws) ≡ true
unfolding without_last
without-even key [] e = e
without-even key (w ∷ ws) e = go (has_key key ws) (unfold even in e)
  where
    go : (b : Bool) → (blankless w && all_of plain ws) ≡ true → even (cond b (w ∷ without_last key ws) ws) ≡ true
    go true f = unfold even in both (and_left (blankless w) (all_of plain ws) f) (without-plain key ws (and_right (blankless w) (all_of plain ws) f))
    go false f = plain-even ws (and_right (blankless w) (all_of plain ws) f)

even-append : (ws : Words) (v : Bytes) → even ws ≡ true → plain v ≡ true → even (ws ++ (v ∷ [])) ≡ true
unfolding even all_of
even-append [] v e p = both (plain-blankless v p) refl
even-append (w ∷ ws) v e p =
    both (and_left (blankless w) (all_of plain ws) e) (all_append plain ws (v ∷ []) ∙ both (and_right (blankless w) (all_of plain ws) e) (both p refl))

blankless-append : (a b : Bytes) → blankless a ≡ true → blankless b ≡ true → blankless (a ++ b) ≡ true
unfolding blankless
blankless-append a b e f = all_append dark a b ∙ both e f

pub ellipsoid-even : (ws : Words) → even ws ≡ true → even (ellipsoid ws) ≡ true
unfolding ellipsoid composed
ellipsoid-even ws e = go (not (has_key (ascii "ellps=") ws) && (has_key (ascii "a=") ws && has_key (ascii "rf=") ws))
  where
    composed-plain : plain (ascii "ellps=" ++ (drop 2 (last_of (ascii "a=") ws) ++ (ascii "," ++ drop 3 (last_of (ascii "rf=") ws)))) ≡ true
    composed-plain =
        unfold plain ascii non_empty in
        blankless-append (ascii "ellps=") (drop 2 (last_of (ascii "a=") ws) ++ (ascii "," ++ drop 3 (last_of (ascii "rf=") ws))) (unfold blankless all_of white in refl)
        (blankless-append (drop 2 (last_of (ascii "a=") ws)) (ascii "," ++ drop 3 (last_of (ascii "rf=") ws)) (blankless-drop 2 (last_of (ascii "a=") ws) (last-dark (ascii "a=") ws (even-dark ws e)))
        (blankless-append (ascii ",") (drop 3 (last_of (ascii "rf=") ws)) (unfold blankless all_of white in refl)
        (blankless-drop 3 (last_of (ascii "rf=") ws) (last-dark (ascii "rf=") ws (even-dark ws e)))))

    go : (b : Bool) → even (cond b (composed ws) ws) ≡ true
    go true =
        even-append (without_last (ascii "rf=") (without_last (ascii "a=") ws)) _
        (without-even (ascii "rf=") (without_last (ascii "a=") ws) (without-even (ascii "a=") ws e)) composed-plain
    go false = e

scaled-plain : (w : Bytes) → blankless w ≡ true → plain (ascii "k_0=" ++ drop 2 w) ≡ true
unfolding plain ascii non_empty
scaled-plain w e = blankless-append (ascii "k_0=") (drop 2 w) (unfold blankless all_of white in refl) (blankless-drop 2 w e)

scale-plain : (ws : Words) → all_of plain ws ≡ true → all_of plain (scale ws) ≡ true
unfolding all_of scale
scale-plain [] e = refl
scale-plain (w ∷ ws) e = go (starts (ascii "k=") w) (scale-plain ws (and_right (plain w) (all_of plain ws) e))
  where
    p : plain w ≡ true
    p = and_left (plain w) (all_of plain ws) e

    go : (b : Bool) → all_of plain (scale ws) ≡ true → all_of plain (cond b ((ascii "k_0=" ++ drop 2 w) ∷ ws) (w ∷ scale ws)) ≡ true
    go true h = unfold all_of in both (scaled-plain w (plain-blankless w p)) (and_right (plain w) (all_of plain ws) e)
    go false h = unfold all_of in both p h

scale-even : (ws : Words) → even ws ≡ true → even (scale ws) ≡ true
unfolding scale
scale-even [] e = e
scale-even (w ∷ ws) e = go (starts (ascii "k=") w) (unfold even in e)
  where
    go : (b : Bool) → (blankless w && all_of plain ws) ≡ true → even (cond b ((ascii "k_0=" ++ drop 2 w) ∷ ws) (w ∷ scale ws)) ≡ true
    go true f = unfold even in both (plain-blankless (ascii "k_0=" ++ drop 2 w) (scaled-plain w (and_left (blankless w) (all_of plain ws) f))) (and_right (blankless w) (all_of plain ws) f)
    go false f = unfold even in both (and_left (blankless w) (all_of plain ws) f) (scale-plain ws (and_right (blankless w) (all_of plain ws) f))

pub tidied-even : (ws : Words) → all_of plain ws ≡ true → even (tidied ws) ≡ true
unfolding tidied
tidied-even ws e = scale-even (ellipsoid (exchanged ws)) (ellipsoid-even (exchanged ws) (exchanged-even ws e))
