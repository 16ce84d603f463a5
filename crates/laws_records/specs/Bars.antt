-- Calm texts with ` | ` between: normalising leaves a `|` between them and changes nothing else.
use Rattle.std.specs.Prelude.{◌≡◌, refl, ℕ, zero, Bool, true, false, ◌&&◌, take, drop, eqb}
use Rattle.std.proofs.Math.Path.{ap}
use Rattle.std.proofs.Common.{◌∙◌}
use mathlib.Core.List.{List, [], ◌∷◌, ◌++◌, append-nil}
use Rattle.rules.specs.Text.Ascii.{ascii, is}
use Rattle.rules.specs.Text.Lists.{any_of, all_of}
use Rattle.rules.specs.Text.Bytes.{Bytes, white, starts, replace_from, replace, trim_start, trimmed, after_each, joined_by}
use Rattle.rules.specs.Text.Normal.{Replacement, run, becomes, subscript_becomes, replacements, normal}
use Rattle.rules.specs.Text.Comments.{stripped}
use Rattle.laws_lists.specs.Tests.{and_left, and_right, or_left, or_right, below}
use Rattle.laws_records.specs.Calm.{known, firm, middle, follows, so, quiet, calm, gap, joined-calm, shut, run-calm}
use Rattle.laws_records.specs.Settled.{trim-calm, lacks, lacking, squeezed-calm, continued-calm, stripped-calm}

-- ---- a bar and the space after it

past_first : (new t r : Bytes) → any_of (is "|") t ≡ false → replace_from zero (124 ∷ 32 ∷ []) new (t ++ r) ≡ t ++ replace_from zero (124 ∷ 32 ∷ []) new r
unfolding any_of replace_from starts
past_first new [] r h = refl
past_first new (x ∷ t) r h =
    rw (or_left (is "|" x) (any_of (is "|") t) h) (ap (λ (u : Bytes). x ∷ u) (past_first new t r (or_right (is "|" x) (any_of (is "|") t) h)))

first-after : (ts : List Bytes) → all_of (lacks (is "|")) ts ≡ true → replace_from zero (124 ∷ 32 ∷ []) (124 ∷ []) (after_each (32 ∷ 124 ∷ 32 ∷ []) ts) ≡ after_each (32 ∷ 124 ∷ []) ts
unfolding all_of after_each replace_from starts
first-after [] h = refl
first-after (t ∷ ts) h =
    ap (λ (u : Bytes). 32 ∷ 124 ∷ u)
    (past_first (124 ∷ []) t (after_each (32 ∷ 124 ∷ 32 ∷ []) ts) (lacking (is "|") t (and_left (lacks (is "|") t) _ h))
    ∙ ap (λ (u : Bytes). t ++ u) (first-after ts (and_right (lacks (is "|") t) _ h)))

-- ---- a bar and the space before it

-- does the text begin with a bar?
barred : Bytes → Bool
barred [] = false
barred (x ∷ t) = eqb x 124

no-bar : (x : ℕ) (u : Bytes) → barred u ≡ false → starts (32 ∷ 124 ∷ []) (x ∷ u) ≡ false
unfolding barred starts
no-bar x [] h = go (eqb x 32)
  where
    go : (b : Bool) → b && false ≡ false
    go true = refl
    go false = refl
no-bar x (y ∷ u) h = rw h (go (eqb x 32))
  where
    go : (b : Bool) → b && (false && true) ≡ false
    go true = refl
    go false = refl

barred-append : (t r : Bytes) → any_of (is "|") t ≡ false → barred r ≡ false → barred (t ++ r) ≡ false
unfolding any_of barred
barred-append [] r h k = k
barred-append (x ∷ t) r h k = or_left (is "|" x) (any_of (is "|") t) h

past-second : (new t r : Bytes) → any_of (is "|") t ≡ false → barred r ≡ false → replace_from zero (32 ∷ 124 ∷ []) new (t ++ r) ≡ t ++ replace_from zero (32 ∷ 124 ∷ []) new r
unfolding any_of replace_from
past-second new [] r h k = refl
past-second new (x ∷ t) r h k =
    let g = or_right (is "|" x) (any_of (is "|") t) h in
    rw (no-bar x (t ++ r) (barred-append t r g k)) (ap (λ (u : Bytes). x ∷ u) (past-second new t r g k))

after-barred : (ts : List Bytes) → barred (after_each (32 ∷ 124 ∷ []) ts) ≡ false
unfolding barred after_each
after-barred [] = refl
after-barred (t ∷ ts) = refl

second-after : (ts : List Bytes) → all_of (lacks (is "|")) ts ≡ true → replace_from zero (32 ∷ 124 ∷ []) (124 ∷ []) (after_each (32 ∷ 124 ∷ []) ts) ≡ after_each (124 ∷ []) ts
unfolding all_of after_each replace_from starts
second-after [] h = refl
second-after (t ∷ ts) h =
    ap (λ (u : Bytes). 124 ∷ u)
    (past-second (124 ∷ []) t (after_each (32 ∷ 124 ∷ []) ts) (lacking (is "|") t (and_left (lacks (is "|") t) _ h)) (after-barred ts)
    ∙ ap (λ (u : Bytes). t ++ u) (second-after ts (and_right (lacks (is "|") t) _ h)))

-- ---- the whole

abbrev shut_all : List Replacement → Bool
shut_all rs = all_of (λ (r : Replacement). shut r.old) rs

module _ (t : Bytes) (ts : List Bytes) (c : all_of calm (t ∷ ts) ≡ true) (b : all_of (lacks (is "|")) (t ∷ ts) ≡ true) where
  first-calm : calm t ≡ true
  unfolding all_of
  first-calm = and_left (calm t) _ c

  rest-calm : all_of calm ts ≡ true
  unfolding all_of
  rest-calm = and_right (calm t) _ c

  bare : any_of (is "|") t ≡ false
  unfolding all_of
  bare = lacking (is "|") t (and_left (lacks (is "|") t) _ b)

  bares : all_of (lacks (is "|")) ts ≡ true
  unfolding all_of
  bares = and_right (lacks (is "|") t) _ b

  -- with a gap between
  pub calm-by : (sep : Bytes) → gap sep ≡ true → calm (joined_by sep (t ∷ ts)) ≡ true
  unfolding joined_by
  calm-by sep g = joined-calm sep g t ts first-calm rest-calm

  pub spaced-calm : calm (joined_by (32 ∷ 124 ∷ 32 ∷ []) (t ∷ ts)) ≡ true
  spaced-calm = calm-by (32 ∷ 124 ∷ 32 ∷ []) (unfold gap below so firm known follows middle quiet any_of ascii in refl)

  half-calm : calm (joined_by (32 ∷ 124 ∷ []) (t ∷ ts)) ≡ true
  half-calm = calm-by (32 ∷ 124 ∷ []) (unfold gap below so firm known follows middle quiet any_of ascii in refl)

  pub barred-calm : calm (joined_by (124 ∷ []) (t ∷ ts)) ≡ true
  barred-calm = calm-by (124 ∷ []) (unfold gap below so firm known follows middle quiet any_of ascii in refl)

  first-bars : replace (124 ∷ 32 ∷ []) (124 ∷ []) (joined_by (32 ∷ 124 ∷ 32 ∷ []) (t ∷ ts)) ≡ joined_by (32 ∷ 124 ∷ []) (t ∷ ts)
  unfolding replace joined_by
  first-bars = past_first (124 ∷ []) t (after_each (32 ∷ 124 ∷ 32 ∷ []) ts) bare ∙ ap (λ (u : Bytes). t ++ u) (first-after ts bares)

  second-bars : replace (32 ∷ 124 ∷ []) (124 ∷ []) (joined_by (32 ∷ 124 ∷ []) (t ∷ ts)) ≡ joined_by (124 ∷ []) (t ∷ ts)
  unfolding replace joined_by
  second-bars = past-second (124 ∷ []) t (after_each (32 ∷ 124 ∷ []) ts) bare (after-barred ts) ∙ ap (λ (u : Bytes). t ++ u) (second-after ts bares)

  run-bars : run replacements (joined_by (32 ∷ 124 ∷ 32 ∷ []) (t ∷ ts)) ≡ joined_by (124 ∷ []) (t ∷ ts)
  unfolding replacements becomes subscript_becomes run ascii
  run-bars =
      run-calm (take 3 replacements) (drop 3 replacements) _ (unfold all_of shut known follows middle any_of in refl) spaced-calm
      ∙ ap (run (drop 4 replacements)) first-bars
      ∙ run-calm (take 5 (drop 4 replacements)) (drop 9 replacements) _ (unfold all_of shut known follows middle any_of in refl) half-calm
      ∙ ap (run (drop 10 replacements)) second-bars
      ∙ run-calm (drop 10 replacements) [] _ (unfold all_of shut known follows middle any_of in refl) barred-calm

  -- a text that trims to it
  normal-of : (u : Bytes) → trimmed white u ≡ joined_by (32 ∷ 124 ∷ 32 ∷ []) (t ∷ ts) → normal u ≡ joined_by (124 ∷ []) (t ∷ ts)
  unfolding normal
  normal-of u e =
      rw (e, trim-calm (is ":") (unfold below so firm known any_of ascii in refl) _ spaced-calm, continued-calm _ spaced-calm, squeezed-calm _ spaced-calm, run-bars)
      (squeezed-calm _ barred-calm)

  pub normal-stripped : normal (stripped (joined_by (32 ∷ 124 ∷ 32 ∷ []) (t ∷ ts))) ≡ joined_by (124 ∷ []) (t ∷ ts)
  normal-stripped =
      ap normal (stripped-calm _ spaced-calm)
      ∙ normal-of (32 ∷ joined_by (32 ∷ 124 ∷ 32 ∷ []) (t ∷ ts)) (space (joined_by (32 ∷ 124 ∷ 32 ∷ []) (t ∷ ts)) spaced-calm)
    where
      space : (u : Bytes) → calm u ≡ true → trimmed white (32 ∷ u) ≡ u
      space u h = unfold trimmed trim_start white in trim-calm white (unfold below so firm known white any_of ascii in refl) u h

-- one calm text is its own normal form
pub normal-calm : (t : Bytes) → calm t ≡ true → any_of (is "|") t ≡ false → normal t ≡ t
normal-calm t c b =
    normal-of t [] (unfold all_of in rw c) (unfold all_of lacks in rw b) t (trim-calm white (unfold below so firm known white any_of ascii in refl) t c ∙ unfold joined_by after_each in rw (append-nil t))
    ∙ unfold joined_by after_each in append-nil t
