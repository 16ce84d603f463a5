-- The reader walks over the steps of the text, each once and in their order.
use Rattle.std.specs.Prelude.{◌≡◌, Bool, true, false, cond, length, Option, Some, None}
use Rattle.std.proofs.Math.Path.{refl, ap}
use Rattle.std.proofs.Common.{sym, ◌∙◌, arith, length-append, length-drop, take_at, drop_at}
use Prim.Native.Nat.{ℕ, suc, ◌+◌, ◌-◌, ◌≤◌, ◌<◌}
use Rattle.std.proofs.lemmas.Bool.{false≢true}
use mathlib.Core.List.{List, [], ◌∷◌, ◌++◌, map}
use Rattle.std.proofs.Math.ListN.{drop}
use Rattle.std.proofs.Math.Seq.{drop-drop}
use Rattle.rules.specs.Text.Ascii.{is}
use Rattle.rules.specs.Text.Lists.{kept, non_empty}
use Rattle.rules.specs.Text.Bytes.{Bytes, Steps, onto, cut, words}
use Rattle.rules.specs.Text.Split.{steps_of}
use Rattle.rules.specs.Text.Reader.{step, step_then, found, next, part, walked}
use Rattle.rules.specs.declared.Cursor.{Cursor}
use Rattle.rules.specs.declared.Found.{Found}
use Rattle.laws_lists.specs.Tests.{never}

-- ---- a text is its first piece and what is left from the `|` on

front : Bytes → Bytes
front [] = []
front (x ∷ t) = cond (is "|" x) [] (x ∷ front t)

back : Bytes → Bytes
back [] = []
back (x ∷ t) = cond (is "|" x) (x ∷ t) (back t)

-- the pieces after the first
pub others : Bytes → List Bytes
others [] = []
others (x ∷ t) = cut (is "|") t

halves : (t : Bytes) → front t ++ back t ≡ t
unfolding front back
halves [] = refl
halves (x ∷ t) = go (is "|" x) (halves t)
  where
    go : (b : Bool) → front t ++ back t ≡ t → cond b [] (x ∷ front t) ++ cond b (x ∷ t) (back t) ≡ x ∷ t
    go true e = refl
    go false e = ap (λ (u : Bytes). x ∷ u) e

pieces : (t : Bytes) → cut (is "|") t ≡ front t ∷ others (back t)
unfolding front back others cut onto
pieces [] = refl
pieces (x ∷ t) = go (is "|" x) (pieces t)
  where
    go : (b : Bool) → cut (is "|") t ≡ front t ∷ others (back t) → cond b ([] ∷ cut (is "|") t) (onto x (cut (is "|") t)) ≡ cond b [] (x ∷ front t) ∷ others (cond b (x ∷ t) (back t))
    go true e = refl
    go false e = rw e

behind : (t : Bytes) → cut (is "|") (back t) ≡ [] ∷ others (back t)
unfolding back others cut
behind [] = refl
behind (x ∷ t) = go (is "|" x) refl (behind t)
  where
    go : (b : Bool) → is "|" x ≡ b → cut (is "|") (back t) ≡ [] ∷ others (back t) → cut (is "|") (cond b (x ∷ t) (back t)) ≡ [] ∷ others (cond b (x ∷ t) (back t))
    go true e h = rw e
    go false e h = h

-- ---- the walk

-- the pieces that have words: those of the steps
unfoldable pub worded : List Bytes → List Bytes
worded ps = kept (λ (p : Bytes). non_empty (words p)) ps

pub worded-words : (ps : List Bytes) → kept non_empty (map words ps) ≡ map words (worded ps)
unfolding worded kept
worded-words [] = refl
worded-words (p ∷ ps) = go (non_empty (words p)) (worded-words ps)
  where
    go : (b : Bool) → kept non_empty (map words ps) ≡ map words (worded ps)
        → cond b (words p ∷ kept non_empty (map words ps)) (kept non_empty (map words ps)) ≡ map words (cond b (p ∷ worded ps) (worded ps))
    go true e = ap (λ (ss : Steps). words p ∷ ss) e
    go false e = e

-- the pieces that a find tells of: that of the step found, and all from there on
walked_pieces : Bytes → Option Found → List Bytes
walked_pieces n None = []
walked_pieces n (Some f) = part f.from f.to n ∷ worded (cut (is "|") (drop f.then.at n))

-- a text from a place on, with its first piece p and what is left after it
pub record At (n : Bytes) (place : ℕ) (p : Bytes) (ps : List Bytes) : Type 0 where
  pub left : Bytes
  pub here : drop place n ≡ p ++ left
  pub rest : ps ≡ others left
  pub cuts : cut (is "|") left ≡ [] ∷ others left

pub at : (n : Bytes) (place : ℕ) (p : Bytes) (ps : List Bytes) → cut (is "|") (drop place n) ≡ p ∷ ps → At n place p ps
at n place p ps c =
    let r = drop place n in
    let e : front r ∷ others (back r) ≡ p ∷ ps = sym (pieces r) ∙ c in
    let f : front r ≡ p = cc in
    record { left = back r; here = rw (← f) (sym (halves r)); rest = cc; cuts = behind r }

drop_past : (p : Bytes) (x : ℕ) (u : Bytes) → drop (suc (length p)) (p ++ (x ∷ u)) ≡ u
drop_past [] x u = refl
drop_past (y ∷ p) x u = drop_past p x u

module _ {n : Bytes} {place : ℕ} {p : Bytes} {ps : List Bytes} (m : At n place p ps) where
  -- the piece is the part of the text from its place up to its end
  at_part : part place (place + length p) n ≡ p
  at_part = let e : place + length p - place ≡ length p = omega arith in rw (e, m.here) (take_at p m.left (length p) refl)

  pub at_left : drop (place + length p) n ≡ m.left
  at_left = rw (← drop-drop (length p) place n, m.here) (drop_at p m.left (length p) refl)

  -- the pieces from its end on are the other ones
  at_others : worded (cut (is "|") (drop (place + length p) n)) ≡ worded ps
  unfolding worded words kept non_empty cut
  at_others = rw (at_left, m.cuts, m.rest)

  -- where the next piece stands
  pub at_next : (q : Bytes) (qs : List Bytes) → ps ≡ q ∷ qs → cut (is "|") (drop (place + suc (length p)) n) ≡ q ∷ qs
  unfolding others
  at_next q qs e = go m.left (sym m.rest ∙ e) m.here
    where
      go : (l : Bytes) → others l ≡ q ∷ qs → drop place n ≡ p ++ l → cut (is "|") (drop (place + suc (length p)) n) ≡ q ∷ qs
      go [] f h = absurd (never (cc f))
      go (x ∷ u) f h = rw (← drop-drop (suc (length p)) place n, h, drop_past p x u) f

-- the first step of some pieces, and the pieces after it
found-walks : (n : Bytes) (place : ℕ) (ps : List Bytes) → ((q : Bytes) (qs : List Bytes) → ps ≡ q ∷ qs → cut (is "|") (drop place n) ≡ ps)
    → worded ps ≡ walked_pieces n (found place ps)
unfolding worded kept found walked_pieces
found-walks n place [] c = refl
found-walks n place (p ∷ ps) c = go (non_empty (words p)) (found-walks n (place + suc (length p)) ps (λ q qs e. at_next m q qs e ∙ sym e))
  where
    m : At n place p ps
    m = at n place p ps (c p ps refl)

    go : (b : Bool) → worded ps ≡ walked_pieces n (found (place + suc (length p)) ps)
        → cond b (p ∷ worded ps) (worded ps) ≡ walked_pieces n (cond b (step place (place + length p)) (found (place + suc (length p)) ps))
    go true h = rw (at_part m, at_others m)
    go false h = h

walk-pieces : (normalised : Bytes) (place : ℕ) → worded (cut (is "|") (drop place normalised)) ≡ walked_pieces normalised (next normalised place)
unfolding next
walk-pieces normalised place = found-walks normalised place (cut (is "|") (drop place normalised)) (λ q qs e. refl)

-- The steps from the reader's place on are the step that it finds, and the steps from there on; none where it finds none.
pub walk : (normalised : Bytes) (place : ℕ) → steps_of (drop place normalised) ≡ walked normalised (next normalised place)
unfolding steps_of
walk normalised place = worded-words (cut (is "|") (drop place normalised)) ∙ ap (map words) (walk-pieces normalised place) ∙ go (next normalised place)
  where
    go : (f : Option Found) → map words (walked_pieces normalised f) ≡ walked normalised f
    go None = unfold walked_pieces walked in refl
    go (Some f) = unfold walked_pieces walked in ap (λ (ss : Steps). words (part f.from f.to normalised) ∷ ss) (sym (worded-words (cut (is "|") (drop f.then.at normalised))))

-- What it finds lies ahead, is not empty, stands within the text, and has words; the reader goes on at its end: the walk
-- ends.
pub record Ahead (normalised : Bytes) (place from to : ℕ) (then : Cursor) : Type 0 where
  pub ahead : place ≤ from
  pub longer : from < to
  pub within : to ≤ length normalised
  pub goes_on : then.at ≡ to
  pub worded : non_empty (words (part from to normalised)) ≡ true

not-empty : (p : Bytes) → non_empty (words p) ≡ true → 1 ≤ length p
unfolding words kept non_empty cut
not-empty [] e = absurd (false≢true e)
not-empty (x ∷ p) e = omega arith

found-ahead : (n : Bytes) (place : ℕ) (ps : List Bytes) (from to : ℕ) (then : Cursor)
    → ((q : Bytes) (qs : List Bytes) → ps ≡ q ∷ qs → cut (is "|") (drop place n) ≡ ps) → found place ps ≡ step_then from to then → Ahead n place from to then
unfolding found
found-ahead n place [] from to then c f = absurd (never (cc))
found-ahead n place (p ∷ ps) from to then c f =
    go (non_empty (words p)) refl f (found-ahead n (place + suc (length p)) ps from to then (λ q qs e. at_next m q qs e ∙ sym e))
  where
    m : At n place p ps
    m = at n place p ps (c p ps refl)

    go : (b : Bool) → non_empty (words p) ≡ b → cond b (step place (place + length p)) (found (place + suc (length p)) ps) ≡ step_then from to then
        → (found (place + suc (length p)) ps ≡ step_then from to then → Ahead n (place + suc (length p)) from to then) → Ahead n place from to then
    go true w e h =
        let l = not-empty p w in
        let k : length (drop place n) ≡ length p + length m.left = rw m.here (length-append p m.left) in
        let x : ◌≡◌ {A = Found} (record { from = place; to = place + length p; then = record { at = place + length p } }) (record { from = from; to = to; then = then }) = cc e in
        let a : place ≡ from = ap (λ (f : Found). f.from) x in
        let b : place + length p ≡ to = ap (λ (f : Found). f.to) x in
        let t : ◌≡◌ {A = Cursor} (record { at = place + length p }) then = ap (λ (f : Found). f.then) x in
        record {
          ahead = omega arith;
          longer = omega arith;
          within = omega (arith, length-drop place n);
          goes_on = sym (ap (λ (x : Cursor). x.at) t) ∙ b;
          worded = rw (← a, ← b, at_part m) w;
        }
    go false w e h =
        let r = h e in
        record { ahead = omega (arith, r.ahead); longer = r.longer; within = r.within; goes_on = r.goes_on; worded = r.worded }

pub walk-ahead : (normalised : Bytes) (place from to : ℕ) (then : Cursor) → next normalised place ≡ step_then from to then → Ahead normalised place from to then
unfolding next
walk-ahead normalised place from to then f =
    found-ahead normalised place (cut (is "|") (drop place normalised)) from to then (λ q qs e. refl) f

-- the steps from the reader's place on, where it finds one, and where it finds none
pub walk_step : (normalised : Bytes) (place from to : ℕ) (then : Cursor) → next normalised place ≡ step_then from to then
    → steps_of (drop place normalised) ≡ words (part from to normalised) ∷ steps_of (drop then.at normalised)
unfolding walked
walk_step normalised place from to then f = walk normalised place ∙ ap (walked normalised) f

pub walk_end : (normalised : Bytes) (place : ℕ) → next normalised place ≡ None → steps_of (drop place normalised) ≡ []
unfolding walked
walk_end normalised place f = walk normalised place ∙ ap (walked normalised) f

-- the pieces from there on
pub piece-step : (normalised : Bytes) (place from to : ℕ) (then : Cursor) → next normalised place ≡ step_then from to then
    → worded (cut (is "|") (drop place normalised)) ≡ part from to normalised ∷ worded (cut (is "|") (drop then.at normalised))
unfolding walked_pieces
piece-step normalised place from to then f = walk-pieces normalised place ∙ ap (walked_pieces normalised) f

pub piece-end : (normalised : Bytes) (place : ℕ) → next normalised place ≡ None → worded (cut (is "|") (drop place normalised)) ≡ []
unfolding walked_pieces
piece-end normalised place f = walk-pieces normalised place ∙ ap (walked_pieces normalised) f
