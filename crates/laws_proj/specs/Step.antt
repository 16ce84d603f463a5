-- A step of the answer: its text is that of its elements, one by one.
use Rattle.std.specs.Prelude.{◌≡◌, Bool, cond, not, ◌&&◌, ◌||◌, [], ◌∷◌, ◌++◌, drop, ltb}
use Rattle.std.proofs.Math.Path.{refl, ap}
use Rattle.std.proofs.Common.{sym, ◌∙◌, append-nil}
use Rattle.std.proofs.Math.Bool.{true, false, xor, or-false, or-true}
use Rattle.std.proofs.lemmas.Bool.{false≢true, not-true}
use Rattle.rules.specs.Text.Ascii.{ascii}
use Rattle.rules.specs.Text.Lists.{any_of, all_of, kept, non_empty}
use Rattle.rules.specs.Text.Bytes.{Bytes, Words, white, same, starts, words, trimmed, after_each, joined_by, joined}
use Rattle.rules.specs.Proj.Words.{exchanged, has_key, last_of, without_last, composed, ellipsoid, scale, tidied}
use Rattle.rules.specs.Proj.Translate.{is_inv, not_inv, at_position1, Pipeline, with_globals, marked, step_of}
use Rattle.laws_lists.specs.Tests.{and_left, same-is}
use Rattle.laws_proj.specs.Tests.{any_append, all-kept, kept-all}
use Rattle.laws_proj.specs.Tidying.{without-any, without-key, has-count, a-no-rf}
use Rattle.laws_proj.specs.Flowing.{flow, more}
use Rattle.laws_proj.specs.Solid.{solid, mild, fine, fine-flow, fine-globals, trim-joined, more-mild, joined-solid, solid-mild}
use Rattle.laws_text.specs.Plain.{plain, words-plain}
use Rattle.laws_proj.specs.Plain.{even-fine, tidied-even, plain-solids}

-- ---- `inv` among the words

inv-not : (key w : Bytes) → starts key (ascii "inv") ≡ false → starts key w ≡ true → is_inv w ≡ false
unfolding is_inv
inv-not key w n e = go (same w (ascii "inv")) refl
  where
    go : (b : Bool) → same w (ascii "inv") ≡ b → b ≡ false
    go true f = absurd (false≢true (sym n ∙ sym (ap (starts key) (same-is w (ascii "inv") f)) ∙ e))
    go false f = refl

a-not : (w : Bytes) → starts (ascii "a=") w ≡ true → is_inv w ≡ false
a-not w e = inv-not (ascii "a=") w (unfold starts ascii in refl) e

rf-not : (w : Bytes) → starts (ascii "rf=") w ≡ true → is_inv w ≡ false
rf-not w e = inv-not (ascii "rf=") w (unfold starts ascii in refl) e

k-not : (w : Bytes) → starts (ascii "k=") w ≡ true → is_inv w ≡ false
k-not w e = inv-not (ascii "k=") w (unfold starts ascii in refl) e

scale-inv : (ws : Words) → any_of is_inv (scale ws) ≡ any_of is_inv ws
unfolding any_of scale
scale-inv [] = refl
scale-inv (w ∷ ws) = go (starts (ascii "k=") w) refl (scale-inv ws)
  where
    scaled-not : is_inv (ascii "k_0=" ++ drop 2 w) ≡ false
    scaled-not = unfold is_inv same ascii in refl

    go : (b : Bool) → starts (ascii "k=") w ≡ b → any_of is_inv (scale ws) ≡ any_of is_inv ws
        → any_of is_inv (cond b ((ascii "k_0=" ++ drop 2 w) ∷ ws) (w ∷ scale ws)) ≡ (is_inv w || any_of is_inv ws)
    go true e h = unfold any_of in rw (scaled-not, k-not w e)
    go false e h = unfold any_of in ap (λ (b : Bool). is_inv w || b) h

snoc-inv : (ws : Words) (v : Bytes) → is_inv v ≡ false → any_of is_inv (ws ++ (v ∷ [])) ≡ any_of is_inv ws
unfolding any_of
snoc-inv ws v e = any_append is_inv ws (v ∷ []) ∙ rw e (or-false (any_of is_inv ws))

ellipsoid-inv : (ws : Words) → any_of is_inv (ellipsoid ws) ≡ any_of is_inv ws
unfolding ellipsoid composed
ellipsoid-inv ws = go (has_key (ascii "ellps=") ws) (has_key (ascii "a=") ws) refl (has_key (ascii "rf=") ws) refl
  where
    ellps-not : (t : Bytes) → is_inv (ascii "ellps=" ++ t) ≡ false
    ellps-not t = unfold is_inv same ascii in refl

    go : (x a : Bool) → has_key (ascii "a=") ws ≡ a → (r : Bool) → has_key (ascii "rf=") ws ≡ r
        → any_of is_inv (cond (not x && (a && r)) (composed ws) ws) ≡ any_of is_inv ws
    go true a e r f = refl
    go false false e r f = refl
    go false true e false f = refl
    go false true e true f =
        let left : has_key (ascii "rf=") (without_last (ascii "a=") ws) ≡ true =
        has-count (ascii "rf=") (without_last (ascii "a=") ws) ∙ ap (ltb 0) (without-key (ascii "a=") (ascii "rf=") a-no-rf ws e) ∙ sym (has-count (ascii "rf=") ws) ∙ f in
        snoc-inv (without_last (ascii "rf=") (without_last (ascii "a=") ws)) _ (ellps-not (drop 2 (last_of (ascii "a=") ws) ++ (ascii "," ++ drop 3 (last_of (ascii "rf=") ws))))
        ∙ without-any (ascii "rf=") is_inv rf-not (without_last (ascii "a=") ws) left ∙ without-any (ascii "a=") is_inv a-not ws e

pub tidied-inv : (ws : Words) → any_of is_inv (tidied ws) ≡ any_of is_inv (exchanged ws)
unfolding tidied
tidied-inv ws = scale-inv (ellipsoid (exchanged ws)) ∙ ellipsoid-inv (exchanged ws)

globals-inv : (p : Pipeline) (ws : Words) → is_inv p.globals ≡ false → any_of is_inv (with_globals p ws) ≡ any_of is_inv ws
unfolding with_globals
globals-inv p ws n = go (non_empty p.globals) ws
  where
    go : (b : Bool) (us : Words) → any_of is_inv (cond b (at_position1 p.globals us) us) ≡ any_of is_inv us
    go true [] = unfold any_of at_position1 in rw n
    go true (u ∷ us) = unfold any_of at_position1 in rw n
    go false us = refl

-- ---- the text

-- globals that are as a pipeline's are
pub record Global (p : Pipeline) : Type 0 where
  pub mildly : mild p.globals ≡ true
  pub other : is_inv p.globals ≡ false

module _ (p : Pipeline) (ws : Words) (e : all_of plain ws ≡ true) (g : Global p) where
  all-fine : fine (flow (xor (any_of is_inv (exchanged ws)) p.inverted) (with_globals p (tidied ws))) ≡ true
  all-fine = fine-flow (xor (any_of is_inv (exchanged ws)) p.inverted) (with_globals p (tidied ws)) (fine-globals p (tidied ws) g.mildly (even-fine (tidied ws) (tidied-even ws e)))

  marked-is : marked p (with_globals p (tidied ws)) ≡ flow (xor (any_of is_inv (exchanged ws)) p.inverted) (with_globals p (tidied ws))
  unfolding marked flow xor
  marked-is = rw (globals-inv p (tidied ws) g.other, tidied-inv ws)

  plain-text : step_of p ws ≡ more false (flow (xor (any_of is_inv (exchanged ws)) p.inverted) (with_globals p (tidied ws)))
  unfolding step_of
  plain-text = ap (λ (us : Words). trimmed white (joined us)) marked-is ∙ trim-joined (flow (xor (any_of is_inv (exchanged ws)) p.inverted) (with_globals p (tidied ws))) all-fine

  pub step-mild : mild (step_of p ws) ≡ true
  step-mild = ap mild plain-text ∙ more-mild (flow (xor (any_of is_inv (exchanged ws)) p.inverted) (with_globals p (tidied ws))) all-fine

-- of a text's words
pub step-text : (p : Pipeline) (t : Bytes) → Global p → step_of p (words t) ≡ more false (flow (xor (any_of is_inv (exchanged (words t))) p.inverted) (with_globals p (tidied (words t))))
step-text p t g = plain-text p (words t) (words-plain t) g

-- ---- a pipeline's globals are such

joined-mild : (ws : Words) → all_of solid ws ≡ true → mild (joined ws) ≡ true
joined-mild [] e = unfold joined joined_by mild non_empty in refl
joined-mild (w ∷ ws) e = solid-mild (joined (w ∷ ws)) (joined-solid w ws e)

-- a text with a space is not `inv`
spaced-not : (a b : Bytes) → is_inv (a ++ (32 ∷ b)) ≡ false
unfolding is_inv
spaced-not a b = go (same (a ++ (32 ∷ b)) (ascii "inv")) refl
  where
    has-space : any_of white (a ++ (32 ∷ b)) ≡ true
    has-space = any_append white a (32 ∷ b) ∙ unfold any_of white in or-true (any_of white a)

    inv-none : any_of white (ascii "inv") ≡ false
    inv-none = unfold any_of white ascii in refl

    go : (d : Bool) → same (a ++ (32 ∷ b)) (ascii "inv") ≡ d → d ≡ false
    go true f = absurd (false≢true (sym inv-none ∙ sym (ap (any_of white) (same-is (a ++ (32 ∷ b)) (ascii "inv") f)) ∙ has-space))
    go false f = refl

joined-not : (ws : Words) → all_of not_inv ws ≡ true → is_inv (joined ws) ≡ false
unfolding joined joined_by
joined-not [] e = unfold is_inv same ascii in refl
joined-not (w ∷ []) e = unfold after_each in rw (append-nil w) (not-true (is_inv w) (unfold all_of not_inv in and_left (not (is_inv w)) true e))
joined-not (w ∷ v ∷ ws) e = unfold after_each in spaced-not w (v ++ after_each (32 ∷ []) ws)

pub globals-fine : (ws : Words) (inverted : Bool) → all_of plain ws ≡ true → Global (record { globals = joined (kept not_inv ws); inverted = inverted })
globals-fine ws inverted e = record {
  mildly = joined-mild (kept not_inv ws) (all-kept solid not_inv ws (plain-solids ws e));
  other = joined-not (kept not_inv ws) (kept-all not_inv ws);
}
