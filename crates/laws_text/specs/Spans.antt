-- Where the steps of a text stand: the spans are what the reader finds on its walk. So they rise and do not overlap, whatever records they
-- are given to.
use Rattle.std.specs.Prelude.{◌≡◌, refl, ℕ, suc, ◌+◌, ◌-◌, ◌≤◌, Bool, true, false, cond, List, [], ◌∷◌, map, length, drop, Option, Some, None}
use Rattle.std.proofs.Common.{sym, ap, ◌∙◌, arith}
use Rattle.rules.specs.Text.Ascii.{is}
use Rattle.rules.specs.Text.Lists.{kept, non_empty}
use Rattle.rules.specs.Text.Bytes.{Bytes, cut, words}
use Rattle.rules.specs.Text.Normal.{normal}
use Rattle.rules.specs.Text.Comments.{stripped}
use Rattle.rules.specs.Text.Split.{steps_of, steps}
use Rattle.rules.specs.Text.Reader.{step, step_then, found, next, spans_from, spans_of, definition, spans}
use Rattle.rules.specs.Pipeline.Record.{span_end, in_reading, spanned, with_spans}
use Rattle.rules.specs.Face.Demands.{Rise, Walk}
use Rattle.rules.specs.declared.Cursor.{Cursor}
use Rattle.rules.specs.declared.Found.{Found}
use Rattle.rules.specs.declared.Reading.{Reading}
use Rattle.rules.specs.declared.Span.{Span}
use Rattle.rules.specs.declared.Step.{Step}
use Rattle.laws_lists.specs.Tests.{never}
use Rattle.laws_text.specs.Sizes.{steps-length}
use Rattle.laws_text.specs.Walk.{At, at, at_left, at_next, walk-ahead}

-- ---- the reader finds them

-- the bytes from one place up to another, as a span
abbrev pub span_to : ℕ → ℕ → Span
span_to from to = record { from = from; length = to - from }

-- the spans from a place of a normalised text on
abbrev pub spans_at : Bytes → ℕ → List Span
spans_at normalised place = spans_from place (cut (is "|") (drop place normalised))

-- The spans that a find tells of: that of the step found, and all from there on.
unfoldable walked_spans : Bytes → Option Found → List Span
walked_spans normalised None = []
walked_spans normalised (Some f) = span_to f.from f.to ∷ spans_at normalised f.then.at

-- at the end of a piece stands an empty one, which has no span
behind-piece : {n : Bytes} {place : ℕ} {p : Bytes} {ps : List Bytes} → At n place p ps → spans_at n (place + length p) ≡ spans_from (place + suc (length p)) ps
unfolding spans_from words kept non_empty cut
behind-piece {n} {place} {p} {ps} m =
    let e : place + length p + 1 ≡ place + suc (length p) = omega arith in
    rw (at_left m, m.cuts, m.rest, e)

found-spans : (n : Bytes) (place : ℕ) (ps : List Bytes) → ((q : Bytes) (qs : List Bytes) → ps ≡ q ∷ qs → cut (is "|") (drop place n) ≡ ps)
    → spans_from place ps ≡ walked_spans n (found place ps)
unfolding spans_from found walked_spans
found-spans n place [] c = refl
found-spans n place (p ∷ ps) c = go (non_empty (words p)) (found-spans n (place + suc (length p)) ps (λ q qs e. at_next m q qs e ∙ sym e))
  where
    m : At n place p ps
    m = at n place p ps (c p ps refl)

    go : (b : Bool) → spans_from (place + suc (length p)) ps ≡ walked_spans n (found (place + suc (length p)) ps)
        → cond b (record { from = place; length = length p } ∷ spans_from (place + suc (length p)) ps) (spans_from (place + suc (length p)) ps)
        ≡ walked_spans n (cond b (step place (place + length p)) (found (place + suc (length p)) ps))
    go true h = let e : place + length p - place ≡ length p = omega arith in rw (e, behind-piece m)
    go false h = h

walked-spans : (normalised : Bytes) (place : ℕ) → spans_at normalised place ≡ walked_spans normalised (next normalised place)
unfolding next
walked-spans normalised place = found-spans normalised place (cut (is "|") (drop place normalised)) (λ q qs e. refl)

-- the spans from the reader's place on, where it finds a step, and where it finds none
pub span-step : (normalised : Bytes) (place from to : ℕ) (then : Cursor) → next normalised place ≡ step_then from to then
    → spans_at normalised place ≡ span_to from to ∷ spans_at normalised then.at
unfolding walked_spans
span-step normalised place from to then f = walked-spans normalised place ∙ ap (walked_spans normalised) f

pub span-end : (normalised : Bytes) (place : ℕ) → next normalised place ≡ None → spans_at normalised place ≡ []
unfolding walked_spans
span-end normalised place f = walked-spans normalised place ∙ ap (walked_spans normalised) f

-- ---- as many as steps

pieces-count : (place : ℕ) (ps : List Bytes) → length (spans_from place ps) ≡ length (kept non_empty (map words ps))
unfolding spans_from kept
pieces-count place [] = refl
pieces-count place (p ∷ ps) = go (non_empty (words p)) (pieces-count (place + suc (length p)) ps)
  where
    go : (b : Bool) → length (spans_from (place + suc (length p)) ps) ≡ length (kept non_empty (map words ps))
        → length (cond b (record { from = place; length = length p } ∷ spans_from (place + suc (length p)) ps) (spans_from (place + suc (length p)) ps))
        ≡ length (cond b (words p ∷ kept non_empty (map words ps)) (kept non_empty (map words ps)))
    go true h = ap suc h
    go false h = h

pub spans-count : (t : Bytes) → length (spans t) ≡ length (steps t)
unfolding spans spans_of definition steps steps_of
spans-count t = pieces-count 0 (cut (is "|") (normal (stripped t)))

-- "at most ten times its text"
pub definition-length : (t : Bytes) → length t ≤ 4096 → length (definition t) ≤ 40960
unfolding definition
definition-length t h = omega (arith, steps-length t)

-- ---- the walk over records with these spans

-- the first span is where the reader finds a step, and it goes on at the span's end; where there is none, it finds none
first_found : (n : Bytes) (place : ℕ) (p : Span) (ps : List Span) → spans_at n place ≡ p ∷ ps → (next n place ≡ step p.from (span_end p)) × (spans_at n (span_end p) ≡ ps)
unfolding span_end
first_found n place p ps e = go (next n place) refl
  where
    go : (f : Option Found) → next n place ≡ f → (next n place ≡ step p.from (p.from + p.length)) × (spans_at n (p.from + p.length) ≡ ps)
    go None f = absurd (never (cc (span-end n place f, e)))
    go (Some x) f =
        let a = walk-ahead n place x.from x.to x.then f in
        let c : span_to x.from x.to ∷ spans_at n x.then.at ≡ p ∷ ps = sym (span-step n place x.from x.to x.then f) ∙ e in
        let g : span_to x.from x.to ≡ p = cc in
        let r : spans_at n x.to ≡ ps = rw (← a.goes_on) cc in
        let b : x.from + (x.to - x.from) ≡ x.to = omega (arith, a.longer) in
        let i : ◌≡◌ {A = Option Found} (Some x) (step x.from x.to) = ap (λ (k : ℕ). step_then x.from x.to (record { at = k })) a.goes_on in
        rw (← g, b) (f ∙ i, r)

none_found : (n : Bytes) (place : ℕ) → spans_at n place ≡ [] → next n place ≡ None
none_found n place e = go (next n place) refl
  where
    go : (f : Option Found) → next n place ≡ f → next n place ≡ None
    go None f = f
    go (Some x) f = absurd (never (cc (span-step n place x.from x.to x.then f, e)))

spanned-walk : (n : Bytes) (place : ℕ) (ps : List Span) (l : List Step) → spans_at n place ≡ ps → length l ≡ length ps → Walk n place (with_spans ps l)
unfolding Walk with_spans spanned
spanned-walk n place [] [] e h = none_found n place e
spanned-walk n place [] (s ∷ l) e h = absurd (never (cc h))
spanned-walk n place (p ∷ ps) [] e h = absurd (never (cc h))
spanned-walk n place (p ∷ ps) (s ∷ l) e h = let f = first_found n place p ps e in (f.0, spanned-walk n (span_end p) ps l f.1 (omega arith))

-- ---- what walks over a text, rises

pub walk-rises : (n : Bytes) (place : ℕ) (l : List Step) → Walk n place l → Rise (length n) place l
unfolding Walk Rise
walk-rises n place [] w = tt
walk-rises n place (s ∷ l) w =
    let a = walk-ahead n place s.span.from (span_end s.span) (record { at = span_end s.span }) w.0 in
    (a.ahead, unfold span_end in omega (arith, a.longer), a.within, walk-rises n (span_end s.span) l w.1)

-- ---- the records of a text

pub spans-walk : (t : Bytes) (l : List Step) → length l ≡ length (spans t) → Walk (definition t) 0 (with_spans (spans t) l)
unfolding spans spans_of
spans-walk t l h = spanned-walk (definition t) 0 (spans t) l refl h

-- a record keeps its span in a reading
pub reading-walks : (r : Reading) (n : Bytes) (place : ℕ) (l : List Step) → Walk n place l → Walk n place (map (in_reading r) l)
unfolding Walk in_reading
reading-walks r n place [] w = w
reading-walks r n place (s ∷ l) w = (w.0, reading-walks r n (span_end s.span) l w.1)
