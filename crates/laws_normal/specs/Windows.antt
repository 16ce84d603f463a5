-- A text may be read from arrow to arrow: at a `>` or `<` the machine begins anew, so the steps of the whole are those of what stands before the arrow, and then
-- those of the rest.
use Rattle.std.proofs.Math.Path.{◌≡◌, refl, sym, ap}
use Rattle.std.proofs.Common.{◌∙◌, eqb-true}
use Prim.Native.Nat.{ℕ, suc, ◌+◌}
use Rattle.std.specs.Prelude.{Bool, ◌||◌, length, eqb, ltb}
use Rattle.std.proofs.Math.Bool.{true, false, cond, and-false}
use Rattle.std.proofs.lemmas.Bool.{false≢true}
use mathlib.Core.List.{List, [], ◌∷◌, ◌++◌, map, append_assoc, map-append}
use native.Mathlib.Omega.{arith}
use Rattle.rules.specs.Text.Ascii.{is}
use Rattle.rules.specs.Text.Lists.{any_of, kept, place_of, non_empty}
use Rattle.rules.specs.Text.Bytes.{Bytes, Words, Steps, white, onto, cut, words}
use Rattle.rules.specs.Text.Split.{steps_of}
use Rattle.laws_lists.specs.Tests.{or_left, or_right}
use Rattle.laws_text.specs.Passes.{words-nil}
use Rattle.laws_text.specs.Edges.{words-end}
use Rattle.laws_text.specs.Arrows.{arrow}
use Rattle.laws_normal.specs.Scans.{lead}
use Rattle.laws_normal.specs.Whole.{due, word, digits₉}
use Rattle.laws_normal.specs.Machine.{State, skips, spaces, kept_of, fresh, freshly, joins, joining, next_mode, next_gap, next, out, from, begin}

-- ---- the pieces of two texts with a `|` between

onto-append : (x : ℕ) (p : Bytes) (ps qs : List Bytes) → onto x ((p ∷ ps) ++ qs) ≡ onto x (p ∷ ps) ++ qs
unfolding onto
onto-append x p ps qs = refl

-- the pieces are at least one
record Some (ps : List Bytes) : Type 0 where
  first : Bytes
  others : List Bytes
  whole : ps ≡ first ∷ others

cut-some : (t : Bytes) → Some (cut (is "|") t)
unfolding cut
cut-some [] = record { first = []; others = []; whole = refl }
cut-some (x ∷ t) = go (is "|" x) (cut-some t)
  where
    go : (b : Bool) → Some (cut (is "|") t) → Some (cond b ([] ∷ cut (is "|") t) (onto x (cut (is "|") t)))
    go true s = record { first = []; others = cut (is "|") t; whole = refl }
    go false s = record { first = x ∷ s.first; others = s.others; whole = ap (onto x) s.whole ∙ unfold onto in refl }

cut-bar : (a b : Bytes) → cut (is "|") (a ++ (124 ∷ b)) ≡ cut (is "|") a ++ cut (is "|") b
unfolding cut
cut-bar [] b = refl
cut-bar (x ∷ a) b = go (is "|" x) (cut-bar a b) (cut-some a)
  where
    go : (c : Bool) → cut (is "|") (a ++ (124 ∷ b)) ≡ cut (is "|") a ++ cut (is "|") b → Some (cut (is "|") a)
        → cond c ([] ∷ cut (is "|") (a ++ (124 ∷ b))) (onto x (cut (is "|") (a ++ (124 ∷ b)))) ≡ cond c ([] ∷ cut (is "|") a) (onto x (cut (is "|") a)) ++ cut (is "|") b
    go true h s = ap (λ (ps : List Bytes). [] ∷ ps) h
    go false h s = ap (onto x) h ∙ rw s.whole (onto-append x s.first s.others (cut (is "|") b))

kept_append : (test : Words → Bool) (l m : Steps) → kept test (l ++ m) ≡ kept test l ++ kept test m
unfolding kept
kept_append test [] m = refl
kept_append test (x ∷ l) m = go (test x) (kept_append test l m)
  where
    go : (b : Bool) → kept test (l ++ m) ≡ kept test l ++ kept test m → cond b (x ∷ kept test (l ++ m)) (kept test (l ++ m)) ≡ cond b (x ∷ kept test l) (kept test l) ++ kept test m
    go true h = ap (λ (u : Steps). x ∷ u) h
    go false h = h

steps-bar : (a b : Bytes) → steps_of (a ++ (124 ∷ b)) ≡ steps_of a ++ steps_of b
unfolding steps_of
steps-bar a b = rw (cut-bar a b, map-append words (cut (is "|") a) (cut (is "|") b)) (kept_append non_empty (map words (cut (is "|") a)) (map words (cut (is "|") b)))

pub steps-nil : steps_of [] ≡ []
unfolding steps_of cut kept
steps-nil = rw words-nil (unfold non_empty in refl)

-- a `|` in front of a text
steps_front : (b : Bytes) → steps_of (124 ∷ b) ≡ steps_of b
steps_front b = steps-bar [] b ∙ ap (λ (u : Steps). u ++ steps_of b) steps-nil

-- ---- a space behind a text is no word

-- a space behind the last piece
on_last : List Bytes → List Bytes
on_last [] = []
on_last (p ∷ []) = (p ++ (32 ∷ [])) ∷ []
on_last (p ∷ q ∷ ps) = p ∷ on_last (q ∷ ps)

onto-last : (x : ℕ) (p : Bytes) (ps : List Bytes) → onto x (on_last (p ∷ ps)) ≡ on_last (onto x (p ∷ ps))
unfolding onto on_last
onto-last x p [] = refl
onto-last x p (q ∷ ps) = refl

more-last : (p : Bytes) {ps : List Bytes} → Some ps → p ∷ on_last ps ≡ on_last (p ∷ ps)
unfolding on_last
more-last p s = rw s.whole

cut-space : (a : Bytes) → cut (is "|") (a ++ (32 ∷ [])) ≡ on_last (cut (is "|") a)
unfolding cut onto on_last
cut-space [] = refl
cut-space (x ∷ a) = go (is "|" x) (cut-space a) (cut-some a)
  where
    go : (c : Bool) → cut (is "|") (a ++ (32 ∷ [])) ≡ on_last (cut (is "|") a) → Some (cut (is "|") a)
        → cond c ([] ∷ cut (is "|") (a ++ (32 ∷ []))) (onto x (cut (is "|") (a ++ (32 ∷ [])))) ≡ on_last (cond c ([] ∷ cut (is "|") a) (onto x (cut (is "|") a)))
    go true h s = ap (λ (ps : List Bytes). [] ∷ ps) h ∙ more-last [] s
    go false h s = ap (onto x) h ∙ rw s.whole (onto-last x s.first s.others)

last-words : (ps : List Bytes) → map words (on_last ps) ≡ map words ps
unfolding on_last
last-words [] = refl
last-words (p ∷ []) = ap (λ (ws : Words). ws ∷ []) (words-end p).0
last-words (p ∷ q ∷ ps) = ap (λ (wss : Steps). words p ∷ wss) (last-words (q ∷ ps))

steps-space : (a : Bytes) → steps_of (a ++ (32 ∷ [])) ≡ steps_of a
unfolding steps_of
steps-space a = rw (cut-space a, last-words (cut (is "|") a))

-- a text, a space or none, and a text that begins with a `|`
steps_apart : (a b : Bytes) (gap : Bool) → steps_of (a ++ lead gap (124 ∷ b)) ≡ steps_of a ++ steps_of (124 ∷ b)
unfolding lead
steps_apart a b true = ap steps_of (sym (append_assoc a (32 ∷ []) (124 ∷ b))) ∙ steps-bar (a ++ (32 ∷ [])) b ∙ rw (steps-space a, steps_front b)
steps_apart a b false = steps-bar a b ∙ rw (steps_front b)

-- ---- the machine at an arrow

-- what is written of a text that goes on behind an arrow: what is written of its front alone, a space or none, and then what is written when the machine begins at
-- the arrow, which is a `|` and more
record Cut (front all behind : Bytes) : Type 0 where
  gap : Bool
  whole : all ≡ front ++ lead gap (124 ∷ behind)

-- a byte that is written as a `|` and more, and behind which a space is due
record Begins (x : ℕ) (rest : Bytes) : Type 0 where
  not_white : white x ≡ false
  not_colon : eqb x 58 ≡ false
  not_second : eqb x 130 ≡ false
  not_equals : eqb x 61 ≡ false
  not_digit : digits₉ x ≡ false
  is_fresh : fresh x ≡ 2
  is_word : freshly x ≡ 124 ∷ rest

abbrev owing : State
owing = record { mode = 2; gap = 0 }

module _ (x : ℕ) (rest : Bytes) (b : Begins x rest) where
  -- what is held back, a space or none, and the byte as it is written
  out-begins : (mode gap : ℕ) → out mode gap x ≡ kept_of mode ++ lead (spaces mode gap x) (124 ∷ rest)
  unfolding out skips joining lead
  out-begins mode gap = rw (b.not_colon, b.not_white, b.not_digit, b.not_second, b.not_equals, b.is_word, and-false (eqb mode 3), and-false (eqb mode 4), and-false (ltb 79 mode)) (go (spaces mode gap x))
    where
      go : (c : Bool) → cond c (kept_of mode ++ (32 ∷ 124 ∷ rest)) (kept_of mode ++ (124 ∷ rest)) ≡ kept_of mode ++ lead c (124 ∷ rest)
      go true = refl
      go false = refl

  next-begins : (s : State) → next s x ≡ owing
  unfolding next next_mode next_gap skips joins
  next-begins s = rw (b.not_colon, b.not_white, b.not_digit, b.not_second, b.is_fresh, and-false (eqb s.mode 3), and-false (eqb s.mode 4)) (go (spaces s.mode s.gap x))
    where
      go : (c : Bool) → ◌≡◌ {A = State} (record { mode = cond c 2 2; gap = 0 }) owing
      go true = refl
      go false = refl

  at-arrow : (s : State) (t : Bytes) → from s (x ∷ t) ≡ kept_of s.mode ++ lead (spaces s.mode s.gap x) (124 ∷ (rest ++ from owing t))
  unfolding from
  at-arrow s t =
      rw (out-begins s.mode s.gap, next-begins s) (append_assoc (kept_of s.mode) (lead (spaces s.mode s.gap x) (124 ∷ rest)) (from owing t))
      ∙ ap (λ (u : Bytes). kept_of s.mode ++ u) (go (spaces s.mode s.gap x))
    where
      go : (c : Bool) → lead c (124 ∷ rest) ++ from owing t ≡ lead c (124 ∷ (rest ++ from owing t))
      go true = unfold lead in refl
      go false = unfold lead in refl

  -- the machine that begins with it writes a `|` first
  anew : (t : Bytes) → from begin (x ∷ t) ≡ 124 ∷ (rest ++ from owing t)
  unfolding begin spaces kept_of lead
  anew t = at-arrow begin t

  -- what stands before it, up to its end; and then as the machine begins with it
  from_cut : (s : State) (v t : Bytes) → Cut (from s v) (from s (v ++ (x ∷ t))) (rest ++ from owing t)
  unfolding from
  from_cut s [] t = record { gap = spaces s.mode s.gap x; whole = at-arrow s t }
  from_cut s (y ∷ v) t =
      let c = from_cut (next s y) v t in
      record { gap = c.gap; whole = ap (λ (u : Bytes). out s.mode s.gap y ++ u) c.whole ∙ sym (append_assoc (out s.mode s.gap y) (from (next s y) v) (lead c.gap (124 ∷ (rest ++ from owing t)))) }

  begins-steps : (v t : Bytes) → steps_of (from begin (v ++ (x ∷ t))) ≡ steps_of (from begin v) ++ steps_of (from begin (x ∷ t))
  begins-steps v t =
      let c = from_cut begin v t in
      ap steps_of c.whole ∙ steps_apart (from begin v) (rest ++ from owing t) c.gap ∙ ap (λ (u : Bytes). steps_of (from begin v) ++ steps_of u) (sym (anew t))

-- the steps of a text are those of what stands before an arrow, and then those of the rest
pub windows : (v t : Bytes) (x : ℕ) → arrow x ≡ true → steps_of (from begin (v ++ (x ∷ t))) ≡ steps_of (from begin v) ++ steps_of (from begin (x ∷ t))
unfolding arrow white fresh freshly word due
windows v t x e = go (eqb x 62) refl (eqb x 60) refl e
  where
    inverse-begins : Begins 62 (111 ∷ 109 ∷ 105 ∷ 116 ∷ 95 ∷ 105 ∷ 110 ∷ 118 ∷ [])
    inverse-begins = record { not_white = refl; not_colon = refl; not_second = refl; not_equals = refl; not_digit = refl; is_fresh = refl; is_word = refl }

    forward-begins : Begins 60 (111 ∷ 109 ∷ 105 ∷ 116 ∷ 95 ∷ 102 ∷ 119 ∷ 100 ∷ [])
    forward-begins = record { not_white = refl; not_colon = refl; not_second = refl; not_equals = refl; not_digit = refl; is_fresh = refl; is_word = refl }

    go : (a : Bool) → eqb x 62 ≡ a → (b : Bool) → eqb x 60 ≡ b → a || b ≡ true → steps_of (from begin (v ++ (x ∷ t))) ≡ steps_of (from begin v) ++ steps_of (from begin (x ∷ t))
    go true f b g h = rw (eqb-true x 62 f) (begins-steps 62 _ inverse-begins v t)
    go false f true g h = rw (eqb-true x 60 g) (begins-steps 60 _ forward-begins v t)
    go false f false g h = absurd (false≢true h)

-- ---- the first that passes a test, of two lists in a row

module _ {A : Type 0} (test : A → Bool) where
  -- none of the first list passes it
  pub any-behind : (l m : List A) → any_of test l ≡ false → any_of test (l ++ m) ≡ any_of test m
  unfolding any_of
  any-behind [] m e = refl
  any-behind (x ∷ l) m e = rw (or_left (test x) (any_of test l) e) (any-behind l m (or_right (test x) (any_of test l) e))

  pub place-behind : (l m : List A) → any_of test l ≡ false → place_of test (l ++ m) ≡ length l + place_of test m
  unfolding any_of place_of
  place-behind [] m e = omega arith
  place-behind (x ∷ l) m e = rw (or_left (test x) (any_of test l) e) (omega (arith, place-behind l m (or_right (test x) (any_of test l) e)))

  -- one of them does
  pub any-front : (l m : List A) → any_of test l ≡ true → any_of test (l ++ m) ≡ true
  unfolding any_of
  any-front [] m e = absurd (false≢true e)
  any-front (x ∷ l) m e = go (test x) e (any-front l m)
    where
      go : (b : Bool) → b || any_of test l ≡ true → (any_of test l ≡ true → any_of test (l ++ m) ≡ true) → b || any_of test (l ++ m) ≡ true
      go true e h = refl
      go false e h = h e

  pub place-front : (l m : List A) → any_of test l ≡ true → place_of test (l ++ m) ≡ place_of test l
  unfolding any_of place_of
  place-front [] m e = absurd (false≢true e)
  place-front (x ∷ l) m e = go (test x) e (place-front l m)
    where
      go : (b : Bool) → b || any_of test l ≡ true → (any_of test l ≡ true → place_of test (l ++ m) ≡ place_of test l) → cond b 1 (suc (place_of test (l ++ m))) ≡ cond b 1 (suc (place_of test l))
      go true e h = refl
      go false e h = ap suc (h e)
