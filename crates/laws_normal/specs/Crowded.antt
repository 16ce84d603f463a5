-- A text with many arrows has many steps: each `>` and `<` becomes a `|` with a word of its own behind it, in the normal form. So a text with more than 64
-- arrows is refused when it is split.
use Rattle.std.specs.Prelude.{◌≡◌, ℕ, ◌+◌, ◌≤◌, ◌<◌, Bool, true, cond, ◌&&◌, ◌||◌, List, [], ◌∷◌, ◌++◌, map, length, eqb, ltb}
use Rattle.std.proofs.Math.Path.{refl, ap}
use Rattle.std.proofs.Common.{sym, ◌∙◌, append_assoc, eqb-true}
use Rattle.std.proofs.Math.Bool.{false, not, and-false}
use Rattle.std.proofs.lemmas.Bool.{false≢true}
use native.Mathlib.Omega.{arith}
use Rattle.rules.specs.Text.Ascii.{is}
use Rattle.rules.specs.Text.Lists.{kept, non_empty}
use Rattle.rules.specs.Text.Bytes.{Bytes, white, trimmed, onto, cut, words}
use Rattle.rules.specs.Text.Normal.{normal}
use Rattle.rules.specs.Text.Split.{steps_of}
use Rattle.laws_text.specs.Passes.{in_word, grow, words-cons, words-nil, grow-some}
use Rattle.laws_text.specs.Arrows.{arrow, arrows, arrows-one, arrows-none, trimmed-arrows}
use Rattle.laws_normal.specs.Whole.{inverse, forward, word}
use Rattle.laws_normal.specs.Machine.{State, skips, spaces, kept_of, freshly, joining, next, out, from, begin, onego}
use Rattle.laws_normal.specs.OneGo.{onego-normal}

-- ---- the steps of a text, but for those in its first piece

-- does a word stand before the first `|`?
unfoldable word_first : Bytes → Bool
word_first [] = false
word_first (x ∷ t) = not (is "|" x) && (not (white x) || word_first t)

-- how many of the pieces behind a `|` have a word
unfoldable later : Bytes → ℕ
later [] = 0
later (x ∷ t) = cond (is "|" x && word_first t) 1 0 + later t

-- the pieces of a text: does the first have a word, and how many of the others do
record Pieces (ps : List Bytes) (first : Bool) (others : ℕ) : Type 0 where
  piece : Bytes
  rest : List Bytes
  all : ps ≡ piece ∷ rest
  has : non_empty (words piece) ≡ first
  count : length (kept non_empty (map words rest)) ≡ others

-- how many of all pieces have a word
total : {ps : List Bytes} {first : Bool} {others : ℕ} → Pieces ps first others → length (kept non_empty (map words ps)) ≡ cond first 1 0 + others
unfolding kept
total {ps} {first} {others} c = rw c.all (go (non_empty (words c.piece)) c.has c.count)
  where
    go : (b : Bool) → b ≡ first → length (kept non_empty (map words c.rest)) ≡ others
        → length (cond b (words c.piece ∷ kept non_empty (map words c.rest)) (kept non_empty (map words c.rest))) ≡ cond first 1 0 + others
    go true e h = rw (← e) (omega (arith, h))
    go false e h = rw (← e) (omega (arith, h))

has_word : (x : ℕ) (p : Bytes) → non_empty (words (x ∷ p)) ≡ not (white x) || non_empty (words p)
has_word x p = rw (words-cons x p) (go (white x))
  where
    go : (b : Bool) → non_empty (cond b (words p) (grow x (in_word p) (words p))) ≡ not b || non_empty (words p)
    go true = refl
    go false = grow-some x (in_word p) (words p)

counted : (t : Bytes) → Pieces (cut (is "|") t) (word_first t) (later t)
unfolding cut word_first later
counted [] = record { piece = []; rest = []; all = refl; has = unfold non_empty in rw words-nil; count = unfold kept in refl }
counted (x ∷ t) = go (is "|" x) (counted t)
  where
    go : (b : Bool) → Pieces (cut (is "|") t) (word_first t) (later t)
        → Pieces (cond b ([] ∷ cut (is "|") t) (onto x (cut (is "|") t))) (not b && (not (white x) || word_first t)) (cond (b && word_first t) 1 0 + later t)
    go true c = record { piece = []; rest = cut (is "|") t; all = refl; has = unfold non_empty in rw words-nil; count = total c }
    go false c = record {
      piece = x ∷ c.piece;
      rest = c.rest;
      all = rw c.all (unfold onto in refl);
      has = has_word x c.piece ∙ ap (λ (b : Bool). not (white x) || b) c.has;
      count = omega (arith, c.count);
    }

later-steps : (t : Bytes) → later t ≤ length (steps_of t)
unfolding steps_of
later-steps t = omega (arith, total (counted t))

-- ---- what stands in front of a text takes no step from it

later-behind : (v u : Bytes) → later u ≤ later (v ++ u)
unfolding later
later-behind [] u = omega arith
later-behind (x ∷ v) u = omega (arith, later-behind v u)

-- an arrow as it is written, whatever stands in front of it, is a step more
later-word : (x : ℕ) (v u : Bytes) → arrow x ≡ true → later u < later (v ++ (word x ++ u))
unfolding arrow word later word_first white
later-word x v u e = go (eqb x 62) (eqb x 60) e (later-behind v (word x ++ u))
  where
    go : (a b : Bool) → a || b ≡ true → later (cond a inverse (cond b forward (x ∷ [])) ++ u) ≤ later (v ++ (cond a inverse (cond b forward (x ∷ [])) ++ u))
        → later u < later (v ++ (cond a inverse (cond b forward (x ∷ [])) ++ u))
    go true b f h = omega (arith, h)
    go false true f h = omega (arith, h)
    go false false f h = absurd (false≢true f)

-- ---- the machine over an arrow

-- behind some bytes, it writes the arrow as it is written
record Ends (x : ℕ) (written : Bytes) : Type 0 where
  front : Bytes
  whole : written ≡ front ++ word x

joins-none : (a b c : Bool) (p q : Bytes) → cond (a && false) [] (cond (b && false) [] (cond (c && false) p q)) ≡ q
joins-none a b c p q = rw (and-false a, and-false b, and-false c)

either : (b : Bool) (x : ℕ) (held joined : Bytes) → joined ≡ held ++ word x → Ends x (cond b (held ++ (32 ∷ word x)) joined)
either true x held joined e = record { front = held ++ (32 ∷ []); whole = sym (append_assoc held (32 ∷ []) (word x)) }
either false x held joined e = record { front = held; whole = e }

arrow-out : (mode gap x : ℕ) → arrow x ≡ true → Ends x (out mode gap x)
unfolding arrow out skips white joining freshly
arrow-out mode gap x e = go (eqb x 62) refl (eqb x 60) refl e
  where
    go : (a : Bool) → eqb x 62 ≡ a → (b : Bool) → eqb x 60 ≡ b → a || b ≡ true → Ends x (out mode gap x)
    go true f b g h = rw (eqb-true x 62 f) (either (spaces mode gap 62) 62 (kept_of mode) (joining mode 62) (joins-none (eqb mode 3) (eqb mode 4) (ltb 79 mode) _ _))
    go false f true g h = rw (eqb-true x 60 g) (either (spaces mode gap 60) 60 (kept_of mode) (joining mode 60) (joins-none (eqb mode 3) (eqb mode 4) (ltb 79 mode) _ _))
    go false f false g h = absurd (false≢true h)

-- so it writes a step for each arrow
from-later : (s : State) (t : Bytes) → arrows t ≤ later (from s t)
unfolding from
from-later s [] = unfold arrows in omega arith
from-later s (x ∷ t) = go (arrow x) refl (from-later (next s x) t)
  where
    rest : Bytes
    rest = from (next s x) t

    go : (b : Bool) → arrow x ≡ b → arrows t ≤ later rest → arrows (x ∷ t) ≤ later (out s.mode s.gap x ++ rest)
    go true e h =
        let o = arrow-out s.mode s.gap x e in
        rw (o.whole, append_assoc o.front (word x) rest) (omega (arith, h, arrows-one x t e, later-word x o.front rest e))
    go false e h = omega (arith, h, arrows-none x t e, later-behind (out s.mode s.gap x) rest)

-- ---- the normal form

arrows-kept : (t : Bytes) → arrows (trimmed (is ":") (trimmed white t)) ≡ arrows t
unfolding white
arrows-kept t = trimmed-arrows (is ":") refl refl (trimmed white t) ∙ trimmed-arrows white refl refl t

-- a text has a step for each of its arrows at least
pub arrows-steps : (t : Bytes) → arrows t ≤ length (steps_of (normal t))
unfolding onego
arrows-steps t =
    let u = trimmed (is ":") (trimmed white t) in
    let m : later (from begin u) ≡ later (normal t) = ap later (onego-normal t) in
    omega (arith, arrows-kept t, from-later begin u, m, later-steps (normal t))
