-- The words of a text and where they begin, from those of its parts; and those of a text that is words with one space between.
use mathlib.Core.Path.{◌≡◌, refl, sym, ap, ◌∙◌}
use mathlib.Core.Bool.{Bool, true, false, cond, not, ◌&&◌, false≢true, true≢false}
use mathlib.Core.List.{List, [], ◌∷◌, ◌++◌, map}
use Prim.Native.Nat.{ℕ, suc, ◌+◌, ◌≤◌, ◌<◌}
use native.Mathlib.Nat.{add-zero, zero-add}
use native.Mathlib.Omega.{arith}
use lib.ListN.{length, drop}
use Rattle.rules.specs.Text.Ascii.{is}
use Rattle.rules.specs.Text.Lists.{any_of, all_of, kept, non_empty}
use Rattle.rules.specs.Text.Bytes.{Bytes, Words, white, cut, onto, words, after_each, joined_by, joined}
use Rattle.rules.specs.Text.Parameters.{Parameter, parameter, name, elements, Placed, placed_word, placed_name, placed_words, placed_elements}
use Rattle.rules.specs.Text.Reader.{part}
use Rattle.laws_lists.specs.Tests.{and_left, and_right}
use Rattle.laws_text.specs.Passes.{in_word}
use Rattle.laws_text.specs.Plain.{blankless, plain, words-plain}
use Rattle.laws_text.specs.Table.{given, given-name}
use Rattle.text.specs.Runs.{Run}
use Rattle.text.proofs.RunEnd.{other, part-rest, length_part}
use Rattle.text.proofs.Lead.{word-edge, part-some, none_left}
use Rattle.parameters.specs.Elements.{Spot, spots, words_at, element, elements_at}

abbrev some : Spot → Bool
some x = non_empty x.word

abbrev pub word_of : Spot → Bytes
word_of x = x.word

-- ---- they are the text's words

kept-words : (at : ℕ) (ps : Words) → map word_of (kept some (spots at ps)) ≡ kept non_empty ps
unfolding kept spots
kept-words at [] = refl
kept-words at (p ∷ ps) = go (non_empty p) (kept-words (at + length p + 1) ps)
  where
    go : (b : Bool) → map word_of (kept some (spots (at + length p + 1) ps)) ≡ kept non_empty ps
        → map word_of (cond b (record { at = at; word = p } ∷ kept some (spots (at + length p + 1) ps)) (kept some (spots (at + length p + 1) ps)))
        ≡ cond b (p ∷ kept non_empty ps) (kept non_empty ps)
    go true h = ap (λ (l : Words). p ∷ l) h
    go false h = h

pub spots-words : (at : ℕ) (t : Bytes) → map word_of (words_at at t) ≡ words t
unfolding words_at words
spots-words at t = kept-words at (cut white t)

-- where there is no word, there is none at a place
pub no-spots : (at : ℕ) (t : Bytes) → words t ≡ [] → words_at at t ≡ []
unfolding non_empty
no-spots at t e = go (words_at at t) (spots-words at t ∙ e)
  where
    go : (l : List Spot) → map word_of l ≡ [] → l ≡ []
    go [] h = refl
    go (x ∷ l) h = absurd (true≢false (ap non_empty h))

-- ---- white space, and a word

at-nil : (at : ℕ) → words_at at [] ≡ []
unfolding words_at cut spots kept non_empty
at-nil at = refl

-- a piece that is empty is no word
past-empty : (at : ℕ) (ps : Words) → kept some (spots at ([] ∷ ps)) ≡ kept some (spots (at + 1) ps)
unfolding spots kept non_empty
past-empty at ps = ap (λ (j : ℕ). kept some (spots (j + 1) ps)) (add-zero at)

at-space : (at x : ℕ) (t : Bytes) → white x ≡ true → words_at at (x ∷ t) ≡ words_at (at + 1) t
unfolding words_at cut
at-space at x t e = rw e (past-empty at (cut white t))

at-white : (at : ℕ) (t u : Bytes) → all_of white t ≡ true → words_at at (t ++ u) ≡ words_at (at + length t) u
unfolding all_of
at-white at [] u e = ap (λ (j : ℕ). words_at j u) (sym (add-zero at))
at-white at (x ∷ t) u e =
    let n : at + 1 + length t ≡ at + suc (length t) = omega arith in
    at-space at x (t ++ u) (and_left (white x) (all_of white t) e) ∙ at-white (at + 1) t u (and_right (white x) (all_of white t) e) ∙ ap (λ (j : ℕ). words_at j u) n

-- the pieces of a text that begins with no word
cut_edge : (u : Bytes) → in_word u ≡ false → cut white u ≡ [] ∷ drop 1 (cut white u)
unfolding in_word cut
cut_edge [] e = refl
cut_edge (y ∷ u) e = go (white y) e
  where
    go : (b : Bool) → not b ≡ false → cond b ([] ∷ cut white u) (onto y (cut white u)) ≡ [] ∷ drop 1 (cond b ([] ∷ cut white u) (onto y (cut white u)))
    go true f = refl
    go false f = absurd (true≢false f)

cut_word : (w u : Bytes) → all_of (other white) w ≡ true → in_word u ≡ false → cut white (w ++ u) ≡ w ∷ drop 1 (cut white u)
unfolding all_of cut onto
cut_word [] u e f = cut_edge u f
cut_word (x ∷ w) u e f = go (white x) e (λ h. cut_word w u h f)
  where
    go : (b : Bool) → (not b && all_of (other white) w) ≡ true → (all_of (other white) w ≡ true → cut white (w ++ u) ≡ w ∷ drop 1 (cut white u))
        → cond b ([] ∷ cut white (w ++ u)) (onto x (cut white (w ++ u))) ≡ (x ∷ w) ∷ drop 1 (cut white u)
    go true g h = absurd (false≢true g)
    go false g h = ap (onto x) (h g)

at-word : (at : ℕ) (w u : Bytes) → non_empty w ≡ true → all_of (other white) w ≡ true → in_word u ≡ false
    → words_at at (w ++ u) ≡ record { at = at; word = w } ∷ words_at (at + length w) u
unfolding words_at spots kept non_empty
at-word at w u n e f =
    let rest : kept some (spots (at + length w + 1) (drop 1 (cut white u))) ≡ words_at (at + length w) u =
    sym (past-empty (at + length w) (drop 1 (cut white u))) ∙ ap (λ (ps : Words). kept some (spots (at + length w) ps)) (sym (cut_edge u f)) in
    ap (λ (ps : Words). kept some (spots at ps)) (cut_word w u e f) ∙ rw n (ap (λ (l : List Spot). record { at = at; word = w } ∷ l) rest)

-- white space up to a, and a word up to e
module _ {s : Bytes} {k a e : ℕ} (p : Run white s k a) (q : Run (other white) s a e) where
  pub spot-there : a < e → words_at k (drop k s) ≡ record { at = a; word = part a e s } ∷ words_at e (drop e s)
  unfolding non_empty
  spot-there h =
      let m : k + length (part k a s) ≡ a = omega (arith, p.ahead, length_part s k a p.ahead p.within) in
      let n : a + length (part a e s) ≡ e = omega (arith, length_part s a e q.ahead q.within) in
      ap (words_at k) (part-rest s k a p.ahead) ∙ at-white k (part k a s) (drop a s) p.whole ∙ ap (λ (j : ℕ). words_at j (drop a s)) m
      ∙ ap (words_at a) (part-rest s a e q.ahead) ∙ at-word a (part a e s) (drop e s) (ap non_empty (part-some s a e h q.within)) q.whole (word-edge q)
      ∙ ap (λ (j : ℕ). record { at = a; word = part a e s } ∷ words_at j (drop e s)) n

  pub no-spot : e ≤ a → words_at k (drop k s) ≡ []
  no-spot h = no-spots k (drop k s) (none_left p q h)

-- ---- words with one space between

at_first : (at : ℕ) (w u : Bytes) → plain w ≡ true → in_word u ≡ false → words_at at (w ++ u) ≡ record { at = at; word = w } ∷ words_at (at + length w) u
unfolding plain blankless
at_first at w u h f = at-word at w u (and_left (non_empty w) (blankless w) h) (and_right (non_empty w) (blankless w) h) f

at_joined : (at : ℕ) (w : Bytes) (ws : Words) → all_of plain (w ∷ ws) ≡ true → words_at at (w ++ after_each (32 ∷ []) ws) ≡ spots at (w ∷ ws)
unfolding all_of after_each spots in_word white
at_joined at w [] h = at_first at w [] (and_left (plain w) true h) refl ∙ ap (λ (l : List Spot). record { at = at; word = w } ∷ l) (at-nil (at + length w))
at_joined at w (v ∷ ws) h =
    let u = v ++ after_each (32 ∷ []) ws in
    let rest : words_at (at + length w) (32 ∷ u) ≡ spots (at + length w + 1) (v ∷ ws) =
    at-space (at + length w) 32 u refl ∙ at_joined (at + length w + 1) v ws (and_right (plain w) (all_of plain (v ∷ ws)) h) in
    at_first at w (32 ∷ u) (and_left (plain w) (all_of plain (v ∷ ws)) h) refl ∙ ap (λ (l : List Spot). record { at = at; word = w } ∷ l) rest

spots-of : (ws : Words) → all_of plain ws ≡ true → words_at 0 (joined ws) ≡ spots 0 ws
unfolding joined joined_by
spots-of [] h = unfold spots in at-nil 0
spots-of (w ∷ ws) h = at_joined 0 w ws h

pub spots-joined : (t u : Bytes) → u ≡ joined (words t) → words_at 0 u ≡ spots 0 (words t)
spots-joined t u e = ap (words_at 0) e ∙ spots-of (words t) (words-plain t)

-- ---- elements

placed-words : (at : ℕ) (ws : Words) → elements_at false (spots at ws) ≡ placed_words at ws
unfolding elements_at element spots placed_words
placed-words at [] = refl
placed-words at (w ∷ ws) = ap (λ (l : List Placed). placed_word at w ∷ l) (placed-words (at + length w + 1) ws)

pub placed-elements : (ws : Words) → elements_at true (spots 0 ws) ≡ placed_elements ws
unfolding elements_at element spots placed_elements
placed-elements [] = refl
placed-elements (w ∷ ws) =
    ap (λ (l : List Placed). placed_name 0 w ∷ l) (placed-words (0 + length w + 1) ws ∙ ap (λ (j : ℕ). placed_words (j + 1) ws) (zero-add (length w)))

-- the parameters of words, of which the first may be the name
unfoldable pub elements_from : Bool → Words → List Parameter
elements_from first ws = cond first (elements ws) (map parameter ws)

given-rest : (l : List Spot) → map given (elements_at false l) ≡ map parameter (map word_of l)
unfolding elements_at element placed_word
given-rest [] = refl
given-rest (x ∷ l) = ap (λ (ps : List Parameter). parameter x.word ∷ ps) (given-rest l)

pub given-from : (first : Bool) (l : List Spot) → map given (elements_at first l) ≡ elements_from first (map word_of l)
unfolding elements_from elements_at element elements
given-from false l = given-rest l
given-from true [] = refl
given-from true (x ∷ l) =
    let w = x.word in
    ap (λ (p : Parameter). p ∷ map given (elements_at false l)) (given-name x.at w)
    ∙ ap (λ (ps : List Parameter). cond (any_of (is "=") w) (parameter w) (name w) ∷ ps) (given-rest l)
