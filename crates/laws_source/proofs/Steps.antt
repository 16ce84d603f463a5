-- The source's cut of a PROJ text at ` step ` is that of `rules` at the word `step`, for every text. No cut begins within a word, and behind a cut no space
-- stands before the next word; so the pieces, trimmed, are the steps with one space between their words.
use Rattle.std.specs.Prelude.{◌≡◌, Bool, true, cond, not, ◌&&◌, List, [], ◌∷◌, ◌++◌, map, drop}
use Rattle.std.proofs.Math.Path.{refl, ap}
use Rattle.std.proofs.Common.{sym, ◌∙◌, append-nil, append_assoc}
use Rattle.std.proofs.Math.Bool.{false, and-true, and-false}
use Rattle.std.proofs.lemmas.Bool.{false≢true}
use Rattle.std.proofs.lemmas.Simd.{map-map}
use Rattle.rules.specs.Text.Ascii.{ascii}
use Rattle.rules.specs.Text.Lists.{any_of, all_of, kept, non_empty}
use Rattle.rules.specs.Text.Bytes.{Bytes, Words, Steps, white, starts, trim_start, trim_end, trimmed, onto, words, after_each, joined_by, joined}
use Rattle.rules.specs.Text.Normal.{squeezed, normal}
use Rattle.rules.specs.Proj.Words.{is_step, cut_at_step, without_noise, proj_steps}
use Rattle.laws_lists.specs.Tests.{and_left, and_right, or_left, or_right, same-is}
use Rattle.laws_lists.specs.Lists.{Every}
use Rattle.laws_text.specs.Pieces.{prefixed, prefixed-first}
use Rattle.laws_text.specs.Plain.{blankless, plain, plain-blankless, words-plain, words-joined}
use Rattle.laws_proj.specs.Cutting.{cut-plain, steps-plain}
use Rattle.laws_source.specs.Strings.{is_empty, split_from, split_at, trim_from, trim_start_matches}
use Rattle.laws_source.specs.Readers.{collect_proj, spaced, without_step, steps_in, parse_proj_steps}
use Rattle.laws_source.proofs.Stripped.{proj-lined}
use Rattle.laws_source.specs.Spaced.{starts-word, starts-alone, split-word, trim-stays, end-behind, trim-behind, trim-word}

-- ---- of the words of a step only the first can be `step`

-- no other is
abbrev pub Once : Words → Type 0
Once s = any_of is_step (drop 1 s) ≡ false

-- steps of which the first has none at all
Clear : Steps → Type 0
Clear [] = ⊥
Clear (s ∷ ss) = (any_of is_step s ≡ false) × Every Once ss

onto-clear : (w : Bytes) (ss : Steps) → is_step w ≡ false → Clear ss → Clear (onto w ss)
unfolding Clear onto any_of
onto-clear w [] e h = absurd h
onto-clear w (s ∷ ss) e h = (rw e h.0, h.1)

onto-once : (w : Bytes) (ss : Steps) → Clear ss → Every Once (onto w ss)
unfolding Clear onto Every
onto-once w [] h = absurd h
onto-once w (s ∷ ss) h = (h.0, h.1)

cut-once : (ws : Words) → Clear (cut_at_step false ws) × Every Once (cut_at_step true ws)
unfolding cut_at_step Clear Every any_of
cut-once [] = ((refl, tt), (refl, tt))
cut-once (w ∷ ws) = let i = cut-once ws in (go (is_step w) refl i.0 i.1, onto-once w (cut_at_step false ws) i.0)
  where
    go : (b : Bool) → is_step w ≡ b → Clear (cut_at_step false ws) → Every Once (cut_at_step true ws)
        → Clear (cond b ([] ∷ cut_at_step true ws) (onto w (cut_at_step false ws)))
    go true e h k = (refl, k)
    go false e h k = onto-clear w (cut_at_step false ws) e h

pub noise-once : (right_after : Bool) (ws : Words) → Every Once (cut_at_step right_after ws)
noise-once true ws = (cut-once ws).1
noise-once false ws = go (cut_at_step false ws) (cut-once ws).0
  where
    first : (s : Words) → any_of is_step s ≡ false → Once s
    first [] h = h
    first (w ∷ s) h = unfold any_of in or_right (is_step w) (any_of is_step s) h

    go : (ss : Steps) → Clear ss → Every Once ss
    go [] h = absurd (unfold Clear in h)
    go (s ∷ ss) h = unfold Every Clear in (first s h.0, h.1)

-- ---- so the noise goes once

step-dark : blankless (ascii "step") ≡ true
unfolding blankless all_of white ascii
step-dark = refl

-- `step ` is at the start of a step's text if its first word is `step`, and others follow
starts-step : (w : Bytes) (ws : Words) → plain w ≡ true → starts (ascii "step ") (joined (w ∷ ws)) ≡ is_step w && non_empty ws
unfolding joined joined_by after_each ascii is_step non_empty
starts-step w [] e = rw (append-nil w, and-false (is_step w)) (starts-alone (ascii "step") w (plain-blankless w e))
starts-step w (v ∷ ws) e = rw (and-true (is_step w)) (starts-word (ascii "step") w (v ++ after_each (32 ∷ []) ws) step-dark (plain-blankless w e))

-- what the source trims from the start, as often as it stands there
pub step-text : (s : Words) → all_of plain s ≡ true → Once s → trim_start_matches (ascii "step ") (joined s) ≡ joined (without_noise s)
unfolding without_noise all_of any_of non_empty
step-text [] e h = unfold trim_start_matches trim_from joined joined_by in refl
step-text (w ∷ []) e h = trim-stays (ascii "step ") (joined (w ∷ [])) (starts-step w [] (and_left (plain w) true e) ∙ and-false (is_step w))
step-text (w ∷ v ∷ s) e h = go (is_step w) refl
  where
    rest : all_of plain (v ∷ s) ≡ true
    rest = and_right (plain w) (all_of plain (v ∷ s)) e

    once : trim_start_matches (ascii "step ") (joined (v ∷ s)) ≡ joined (v ∷ s)
    once =
        trim-stays (ascii "step ") (joined (v ∷ s))
        (starts-step v s (and_left (plain v) (all_of plain s) rest) ∙ ap (λ (b : Bool). b && non_empty s) (or_left (is_step v) (any_of is_step s) h))

    go : (b : Bool) → is_step w ≡ b → trim_start_matches (ascii "step ") (joined (w ∷ v ∷ s)) ≡ joined (cond b (v ∷ s) (w ∷ v ∷ s))
    go true f =
        ap (λ (u : Bytes). trim_start_matches (ascii "step ") (joined (u ∷ v ∷ s))) (same-is w (ascii "step") (unfold is_step in f))
        ∙ unfold trim_start_matches trim_from starts ascii joined joined_by after_each in once
    go false f =
        trim-stays (ascii "step ") (joined (w ∷ v ∷ s))
        (starts-step w (v ∷ s) (and_left (plain w) (all_of plain (v ∷ s)) e) ∙ ap (λ (b : Bool). b && true) f)

-- ---- the pieces

-- the words, a space behind each
ended : Words → Bytes
ended [] = []
ended (w ∷ ws) = w ++ (32 ∷ ended ws)

abbrev pieces : Bytes → List Bytes
pieces t = split_at (ascii " step ") t

-- The pieces of a text that begins with a space, and the steps: trimmed at the end, the first piece is its words, each behind a space; the others, trimmed,
-- are theirs with a space between.
Behind : List Bytes → Steps → Type 0
Behind [] ss = ⊥
Behind (p ∷ ps) [] = ⊥
Behind (p ∷ ps) (s ∷ ss) = (trim_end white p ≡ after_each (32 ∷ []) s) × (map (trimmed white) ps ≡ map joined ss)

-- a word more, behind a space
behind_more : (w : Bytes) (ps : List Bytes) (ss : Steps) → plain w ≡ true → Behind ps ss → Behind (prefixed (32 ∷ w) ps) (onto w ss)
unfolding Behind onto after_each
behind_more w [] ss e h = absurd h
behind_more w (p ∷ ps) [] e h = absurd h
behind_more w (p ∷ ps) (s ∷ ss) e h =
    rw (prefixed-first (32 ∷ w) p ps) (end-behind w p e ∙ ap (λ (t : Bytes). 32 ∷ (w ++ t)) h.0, h.1)

-- and one right after a cut
cut-more : (w : Bytes) (ps : List Bytes) (ss : Steps) → plain w ≡ true → Behind ps ss → map (trimmed white) (prefixed w ps) ≡ map joined (onto w ss)
unfolding Behind onto
cut-more w [] ss e h = absurd h
cut-more w (p ∷ ps) [] e h = absurd h
cut-more w (p ∷ ps) (s ∷ ss) e h =
    let first = trim-word w p s e h.0 in
    rw (prefixed-first w p ps, first, h.1) refl

-- no cut begins within a word
pieces-first : (w t : Bytes) → plain w ≡ true → pieces (w ++ t) ≡ prefixed w (pieces t)
unfolding split_at ascii
pieces-first w t e = split-word (ascii "step ") w t (plain-blankless w e)

-- a cut, and the text behind it
pieces_step : (w t : Bytes) → is_step w ≡ true → pieces (32 ∷ (w ++ (32 ∷ t))) ≡ [] ∷ pieces t
unfolding is_step split_at split_from starts ascii
pieces_step w t e = rw (same-is w (ascii "step") e) refl

-- no cut: the space and the word are the first piece's
pieces-word : (w t : Bytes) → plain w ≡ true → is_step w ≡ false → pieces (32 ∷ (w ++ (32 ∷ t))) ≡ prefixed (32 ∷ w) (pieces (32 ∷ t))
unfolding is_step split_at split_from starts ascii prefixed
pieces-word w t e f =
    rw (starts-word (ascii "step") w t step-dark (plain-blankless w e), f) (ap (onto 32) (pieces-first w (32 ∷ t) e))

-- the pieces of words behind a space, and right after a cut
cut-pieces : (ws : Words) → all_of plain ws ≡ true
    → Behind (pieces (32 ∷ ended ws)) (cut_at_step false ws) × (map (trimmed white) (pieces (ended ws)) ≡ map joined (cut_at_step true ws))
unfolding all_of ended cut_at_step
cut-pieces [] e = unfold split_at split_from ascii starts onto Behind after_each trim_end trimmed trim_start joined joined_by all_of white in ((refl, refl), refl)
cut-pieces (w ∷ ws) e =
    let i = cut-pieces ws (and_right (plain w) (all_of plain ws) e) in
    (go (is_step w) refl i.0 i.1, rw (pieces-first w (32 ∷ ended ws) p) (cut-more w (pieces (32 ∷ ended ws)) (cut_at_step false ws) p i.0))
  where
    p : plain w ≡ true
    p = and_left (plain w) (all_of plain ws) e

    go : (b : Bool) → is_step w ≡ b → Behind (pieces (32 ∷ ended ws)) (cut_at_step false ws)
        → map (trimmed white) (pieces (ended ws)) ≡ map joined (cut_at_step true ws)
        → Behind (pieces (32 ∷ (w ++ (32 ∷ ended ws)))) (cond b ([] ∷ cut_at_step true ws) (onto w (cut_at_step false ws)))
    go true f h k = rw (pieces_step w (ended ws) f) (unfold Behind trim_end after_each in (refl, k))
    go false f h k = rw (pieces-word w (ended ws) p f) (behind_more w (pieces (32 ∷ ended ws)) (cut_at_step false ws) p h)

-- words, each behind a space, and a space at the end
text-ended : (ws : Words) → after_each (32 ∷ []) ws ++ (32 ∷ []) ≡ 32 ∷ ended ws
unfolding after_each ended
text-ended [] = refl
text-ended (w ∷ ws) =
    ap (λ (t : Bytes). 32 ∷ t) (append_assoc w (after_each (32 ∷ []) ws) (32 ∷ []) ∙ ap (λ (t : Bytes). w ++ t) (text-ended ws))

trim-pieces : (ps : List Bytes) (ss : Steps) → all_of (all_of plain) ss ≡ true → Behind ps ss → map (trimmed white) ps ≡ map joined ss
unfolding Behind all_of
trim-pieces [] ss e h = absurd h
trim-pieces (p ∷ ps) [] e h = absurd h
trim-pieces (p ∷ ps) (s ∷ ss) e h = rw (trim-behind p s (and_left (all_of plain s) (all_of (all_of plain) ss) e) h.0, h.1) refl

-- The pieces, trimmed, are the steps. (Of no words the source's text is two spaces.)
pub pieces-trimmed : (ws : Words) → all_of plain ws ≡ true
    → map (trimmed white) (split_at (ascii " step ") (ascii " " ++ (joined ws ++ ascii " "))) ≡ map joined (cut_at_step false ws)
pieces-trimmed [] e = unfold split_at split_from ascii starts onto cut_at_step trimmed trim_start trim_end all_of joined joined_by white in refl
pieces-trimmed (w ∷ ws) e =
    let ps = pieces (32 ∷ ended (w ∷ ws)) in
    ap (λ (t : Bytes). map (trimmed white) (pieces t)) text
    ∙ trim-pieces ps (cut_at_step false (w ∷ ws)) (cut-plain false (w ∷ ws) e) (cut-pieces (w ∷ ws) e).0
  where
    text : ascii " " ++ (joined (w ∷ ws) ++ ascii " ") ≡ 32 ∷ ended (w ∷ ws)
    text = unfold ascii joined joined_by after_each in text-ended (w ∷ ws)

-- ---- the steps

-- what is not empty, as the source has it
abbrev not_empty : Bytes → Bool
not_empty t = not (is_empty t)

-- to keep by a test of what f makes and then apply f is to apply f and then keep
kept-made : {A B : Type 0} (f : A → B) (test : B → Bool) (l : List A) → map f (kept (λ (x : A). test (f x)) l) ≡ kept test (map f l)
unfolding kept
kept-made f test [] = refl
kept-made {A} {B} f test (x ∷ l) = go (test (f x)) (kept-made f test l)
  where
    go : (b : Bool) → map f (kept (λ (x : A). test (f x)) l) ≡ kept test (map f l)
        → map f (cond b (x ∷ kept (λ (x : A). test (f x)) l) (kept (λ (x : A). test (f x)) l)) ≡ cond b (f x ∷ kept test (map f l)) (kept test (map f l))
    go true h = ap (λ (m : List B). f x ∷ m) h
    go false h = h

-- the text of words is not empty
some-joined : (w : Bytes) (ws : Words) → plain w ≡ true → not_empty (joined (w ∷ ws)) ≡ true
unfolding plain non_empty is_empty joined joined_by
some-joined [] ws e = absurd (false≢true e)
some-joined (x ∷ w) ws e = refl

kept-joined : (ss : Steps) → all_of (all_of plain) (kept non_empty ss) ≡ true → kept not_empty (map joined ss) ≡ map joined (kept non_empty ss)
unfolding kept non_empty all_of is_empty joined joined_by
kept-joined [] e = refl
kept-joined ([] ∷ ss) e = kept-joined ss e
kept-joined ((w ∷ s) ∷ ss) e =
    let p = and_left (all_of plain (w ∷ s)) (all_of (all_of plain) (kept non_empty ss)) e in
    rw (some-joined w s (and_left (plain w) (all_of plain s) p))
    (ap (λ (ts : List Bytes). joined (w ∷ s) ∷ ts) (kept-joined ss (and_right (all_of plain (w ∷ s)) (all_of (all_of plain) (kept non_empty ss)) e)))

steps-text : (ss : Steps) → all_of (all_of plain) ss ≡ true → Every Once ss
    → map (trim_start_matches (ascii "step ")) (map joined ss) ≡ map joined (map without_noise ss)
unfolding all_of Every
steps-text [] e h = refl
steps-text (s ∷ ss) e h =
    let first = step-text s (and_left (all_of plain s) (all_of (all_of plain) ss) e) h.0 in
    let rest = steps-text ss (and_right (all_of plain s) (all_of (all_of plain) ss) e) h.1 in
    rw (first, rest) refl

-- The source's steps of words with one space between, before and behind: the texts of the steps of `rules`.
pub steps-joined : (ws : Words) → all_of plain ws ≡ true
    → steps_in (ascii " " ++ (joined ws ++ ascii " ")) ≡ map joined (kept non_empty (map without_noise (cut_at_step false ws)))
unfolding steps_in without_step
steps-joined ws e =
    let ps = split_at (ascii " step ") (ascii " " ++ (joined ws ++ ascii " ")) in
    let ss = cut_at_step false ws in
    let each = trim_start_matches (ascii "step ") in
    let texts : map without_step ps ≡ map joined (map without_noise ss) =
    sym (map-map each (trimmed white) ps) ∙ ap (map each) (pieces-trimmed ws e) ∙ steps-text ss (cut-plain false ws e) (noise-once false ws) in
    kept-made without_step not_empty ps ∙ ap (kept not_empty) texts ∙ kept-joined (map without_noise ss) (steps-plain false ws e)

words-steps : (ss : Steps) → all_of (all_of plain) ss ≡ true → map words (map joined ss) ≡ ss
unfolding all_of
words-steps [] e = refl
words-steps (s ∷ ss) e =
    rw (words-joined s (and_left (all_of plain s) (all_of (all_of plain) ss) e), words-steps ss (and_right (all_of plain s) (all_of (all_of plain) ss) e)) refl

-- a normal form is its words with one space between
normal-joined : (u : Bytes) → joined (words (normal u)) ≡ normal u
unfolding normal squeezed
normal-joined u = ap joined (words-joined (words _) (words-plain _))

-- The cut of a normal form, between two spaces: the texts of the steps of `rules`, and so the words of each.
pub texts-cut : (u : Bytes) → steps_in (spaced u) ≡ map joined (kept non_empty (map without_noise (cut_at_step false (words (normal u)))))
unfolding spaced
texts-cut u =
    ap (λ (t : Bytes). steps_in (ascii " " ++ (t ++ ascii " "))) (sym (normal-joined u)) ∙ steps-joined (words (normal u)) (words-plain (normal u))

pub steps-cut : (u : Bytes) → map words (steps_in (spaced u)) ≡ kept non_empty (map without_noise (cut_at_step false (words (normal u))))
steps-cut u =
    let ws = words (normal u) in
    ap (map words) (texts-cut u)
    ∙ words-steps (kept non_empty (map without_noise (cut_at_step false ws))) (steps-plain false ws (words-plain (normal u)))

-- ---- a PROJ text

-- So the steps of `parse_proj` are the texts of those of `rules`, for every text; and the words of each, with which the source goes on, are these.
pub proj-steps : (t : Bytes) → parse_proj_steps t ≡ map joined (proj_steps t)
unfolding proj_steps parse_proj_steps
proj-steps t =
    texts-cut (collect_proj t) ∙ ap (λ (u : Bytes). map joined (kept non_empty (map without_noise (cut_at_step false (words u))))) (proj-lined t)

pub proj-words : (t : Bytes) → map words (parse_proj_steps t) ≡ proj_steps t
unfolding proj_steps parse_proj_steps
proj-words t =
    steps-cut (collect_proj t) ∙ ap (λ (u : Bytes). kept non_empty (map without_noise (cut_at_step false (words u)))) (proj-lined t)
