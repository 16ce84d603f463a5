-- The words of a text from the words of its parts, and the modifiers in front of a step's words: the invariant of `lead_end`, and its laws.
use mathlib.Core.Path.{◌≡◌, refl, sym, ap, ◌∙◌}
use mathlib.Core.Bool.{Bool, true, false, cond, not, ◌&&◌, false≢true, true≢false, and-false, not-not}
use mathlib.Core.List.{[], ◌∷◌, ◌++◌, append-nil}
use Prim.Native.Nat.{ℕ, suc, ◌+◌, ◌-◌, ◌≤◌, ◌<◌}
use native.Mathlib.Decide.{dec_lt}
use native.Mathlib.Omega.{arith}
use lib.ListN.{length, take, drop, get_or, drop_of_length-le, take-append-drop}
use lib.Seq.{drop-drop, take-add}
use Rattle.rules.specs.Text.Ascii.{ascii}
use Rattle.rules.specs.Text.Lists.{all_of, kept, non_empty}
use Rattle.rules.specs.Text.Bytes.{Bytes, Words, white, same, cut, words}
use Rattle.rules.specs.Text.Split.{modifier, leading, following}
use Rattle.rules.specs.Text.Reader.{part}
use Rattle.laws_text.specs.Passes.{in_word, grow, words-cons, words-nil, words_append}
use Rattle.text.specs.Runs.{Run, Lead}
use Rattle.text.proofs.RunEnd.{drop-next, words-blank, other, run-stops, part-rest}
pub use Rattle.text.proofs.Wrote.{part-from}

-- ---- words

pub words-white : (t u : Bytes) → all_of white t ≡ true → words (t ++ u) ≡ words u
unfolding all_of
words-white [] u e = refl
words-white (x ∷ t) u e = rw (words-cons x (t ++ u)) (go (white x) e (words-white t u))
  where
    go : (b : Bool) → (b && all_of white t) ≡ true → (all_of white t ≡ true → words (t ++ u) ≡ words u) → cond b (words (t ++ u)) (grow x (in_word (t ++ u)) (words (t ++ u))) ≡ words u
    go true f h = h f
    go false f h = absurd (false≢true f)

pub words-word : (x : ℕ) (w : Bytes) → all_of (other white) (x ∷ w) ≡ true → words (x ∷ w) ≡ (x ∷ w) ∷ []
unfolding all_of in_word grow
words-word x [] e = rw (words-cons x []) (go (white x) e)
  where
    go : (b : Bool) → (not b && true) ≡ true → cond b (words []) (grow x (in_word []) (words [])) ≡ (x ∷ []) ∷ []
    go true f = absurd (false≢true f)
    go false f = unfold words kept cut non_empty in refl
words-word x (y ∷ w) e = rw (words-cons x (y ∷ w)) (go (white x) (white y) e (words-word y w))
  where
    go : (b d : Bool) → (not b && (not d && all_of (other white) w)) ≡ true → ((not d && all_of (other white) w) ≡ true → words (y ∷ w) ≡ (y ∷ w) ∷ [])
        → cond b (words (y ∷ w)) (grow x (not d) (words (y ∷ w))) ≡ (x ∷ y ∷ w) ∷ []
    go true d f h = absurd (false≢true f)
    go false true f h = absurd (false≢true f)
    go false false f h = rw (h f)

-- ---- the modifiers in front

-- modifiers in front of words
leading-past : (m ws : Words) → all_of modifier m ≡ true → leading (m ++ ws) ≡ m ++ leading ws
unfolding leading all_of
leading-past [] ws e = refl
leading-past (w ∷ m) ws e = go (modifier w) e (leading-past m ws)
  where
    go : (b : Bool) → (b && all_of modifier m) ≡ true → (all_of modifier m ≡ true → leading (m ++ ws) ≡ m ++ leading ws) → cond b (w ∷ leading (m ++ ws)) [] ≡ w ∷ (m ++ leading ws)
    go true f h = ap (λ (r : Words). w ∷ r) (h f)
    go false f h = absurd (false≢true f)

following-past : (m ws : Words) → all_of modifier m ≡ true → following (m ++ ws) ≡ following ws
unfolding following all_of
following-past [] ws e = refl
following-past (w ∷ m) ws e = go (modifier w) e (following-past m ws)
  where
    go : (b : Bool) → (b && all_of modifier m) ≡ true → (all_of modifier m ≡ true → following (m ++ ws) ≡ following ws) → cond b (following (m ++ ws)) (w ∷ (m ++ ws)) ≡ following ws
    go true f h = h f
    go false f h = absurd (false≢true f)

all_more : (m : Words) (w : Bytes) → all_of modifier m ≡ true → modifier w ≡ true → all_of modifier (m ++ (w ∷ [])) ≡ true
unfolding all_of
all_more [] w e f = rw f
all_more (v ∷ m) w e f = go (modifier v) e (λ g. all_more m w g f)
  where
    go : (b : Bool) → (b && all_of modifier m) ≡ true → (all_of modifier m ≡ true → all_of modifier (m ++ (w ∷ [])) ≡ true) → (b && all_of modifier (m ++ (w ∷ []))) ≡ true
    go true g h = h g
    go false g h = absurd (false≢true g)

-- up to k stand modifiers alone, and a word ends there
pub record Leads (s : Bytes) (k : ℕ) : Type 0 where
  pub within : k ≤ length s
  pub modifiers : all_of modifier (words (take k s)) ≡ true
  pub whole : words s ≡ words (take k s) ++ words (drop k s)
  pub edge : (non_empty (take k s) && in_word (drop k s)) ≡ false

pub leads-none : (s : Bytes) → Leads s 0
unfolding all_of non_empty
leads-none s = record { within = omega arith; modifiers = rw words-nil; whole = rw words-nil; edge = refl }

-- the end of a word
pub word-edge : {s : Bytes} {a e : ℕ} → Run (other white) s a e → in_word (drop e s) ≡ false
unfolding in_word
word-edge {s} {a} {e} m = elim (dec_lt e (length s)) [ yes h ↦ inside h | no h ↦ outside (omega (arith, m.within)) ]
  where
    inside : e < length s → in_word (drop e s) ≡ false
    inside h = ap in_word (drop-next s e h) ∙ run-stops m h

    outside : e ≡ length s → in_word (drop e s) ≡ false
    outside z = let l : length s ≤ e = omega arith in ap in_word (drop_of_length-le s l)

-- a part that is not empty, as its first byte and the others
pub part-some : (s : Bytes) (a e : ℕ) → a < e → e ≤ length s → part a e s ≡ get_or s a 0 ∷ part (a + 1) e s
part-some s a e h l =
    let k : e - a ≡ suc (e - (a + 1)) = omega arith in
    let g : a < length s = omega arith in
    ap (λ (n : ℕ). take n (drop a s)) k ∙ ap (take (suc (e - (a + 1)))) (drop-next s a g)

pub part_join : (s : Bytes) (k a e : ℕ) → k ≤ a → a ≤ e → part k e s ≡ part k a s ++ part a e s
part_join s k a e h l =
    let n : e - k ≡ (a - k) + (e - a) = omega arith in
    let d : k + (a - k) ≡ a = omega arith in
    ap (λ (j : ℕ). take j (drop k s)) n ∙ take-add (a - k) (e - a) (drop k s) ∙ ap (λ (u : Bytes). take (a - k) (drop k s) ++ take (e - a) u) (drop-drop (a - k) k s ∙ rw d)

take_part : (s : Bytes) (k e : ℕ) → k ≤ e → take e s ≡ take k s ++ part k e s
take_part s k e h = let n : e ≡ k + (e - k) = omega arith in ap (λ (j : ℕ). take j s) n ∙ take-add k (e - k) s

-- words of a text and of a part behind it
edge-words : (t u v : Bytes) → (non_empty t && in_word (u ++ v)) ≡ false → (x : ℕ) (r : Bytes) → u ≡ x ∷ r → words (t ++ u) ≡ words t ++ words u
unfolding non_empty in_word
edge-words [] u v e x r z = rw words-nil
edge-words (y ∷ t) u v e x r z = words_append (y ∷ t) u (ap in_word z ∙ sym (ap (λ (w : Bytes). in_word (w ++ v)) z) ∙ e)

-- ---- the words from a place on: white space up to a, a word up to e

module _ {s : Bytes} {k a e : ℕ} (p : Run white s k a) (q : Run (other white) s a e) where
  pub one_word : a < e → words (part a e s) ≡ part a e s ∷ []
  one_word h =
      let z = part-some s a e h q.within in
      ap words z ∙ words-word (get_or s a 0) (part (a + 1) e s) (ap (all_of (other white)) (sym z) ∙ q.whole) ∙ ap (λ (w : Bytes). w ∷ []) (sym z)

  behind-k : words (drop k s) ≡ words (part a e s) ++ words (drop e s)
  behind-k =
      ap words (part-rest s k a p.ahead) ∙ words-white (part k a s) (drop a s) p.whole
      ∙ ap words (part-rest s a e q.ahead) ∙ words_append (part a e s) (drop e s) (word-edge q)

  -- a word, and those behind it
  pub word-there : a < e → words (drop k s) ≡ part a e s ∷ words (drop e s)
  word-there h = behind-k ∙ ap (λ (u : Words). u ++ words (drop e s)) (one_word h)

  -- or none
  pub none_left : e ≤ a → words (drop k s) ≡ []
  unfolding all_of
  none_left h =
      let z : e ≡ a = omega (arith, q.ahead) in
      let n : part a e s ≡ [] = let j : e - a ≡ 0 = omega arith in ap (λ (j : ℕ). take j (drop a s)) j in
      let l : length s ≤ e = at-end z in
      behind-k ∙ ap (λ (u : Bytes). words u ++ words (drop e s)) n ∙ ap (λ (u : Bytes). words [] ++ words u) (drop_of_length-le s l) ∙ rw words-nil
    where
      at-end : e ≡ a → length s ≤ e
      at-end z = elim (dec_lt e (length s)) [ yes g ↦ absurd (clash g) | no g ↦ omega arith ]
        where
          clash : e < length s → ⊥
          clash g =
              let b : white (get_or s a 0) ≡ false = run-stops p (omega arith) in
              let d : not (white (get_or s a 0)) ≡ false = ap (λ (j : ℕ). not (white (get_or s j 0))) (sym z) ∙ run-stops q g in
              true≢false (ap not (sym b) ∙ d)

module _ {s : Bytes} {k a e : ℕ} (m : Leads s k) (p : Run white s k a) (q : Run (other white) s a e) where
  -- a modifier more
  pub leads-longer : modifier (part a e s) ≡ true → a < e
  unfolding modifier same ascii
  leads-longer f = elim (dec_lt a e) [ yes h ↦ h | no h ↦ absurd (false≢true (sym (empty (omega arith)) ∙ f)) ]
    where
      empty : e ≤ a → modifier (part a e s) ≡ false
      empty h = let n : e - a ≡ 0 = omega arith in ap (λ (j : ℕ). modifier (take j (drop a s))) n

  pub leads-more : modifier (part a e s) ≡ true → Leads s e
  leads-more f =
      let h = leads-longer f in
      let k≤e : k ≤ e = omega (arith, p.ahead, q.ahead) in
      let j : part k e s ≡ part k a s ++ part a e s = part_join s k a e p.ahead q.ahead in
      let w : words (part k e s) ≡ part a e s ∷ [] = ap words j ∙ words-white (part k a s) (part a e s) p.whole ∙ one_word p q h in
      let z = part-some s k e (omega (arith, p.ahead)) q.within in
      let g : (non_empty (take k s) && in_word (part k e s ++ drop e s)) ≡ false = ap (λ (u : Bytes). non_empty (take k s) && in_word u) (sym (part-rest s k e k≤e)) ∙ m.edge in
      let t : words (take e s) ≡ words (take k s) ++ (part a e s ∷ []) =
      ap words (take_part s k e k≤e) ∙ edge-words (take k s) (part k e s) (drop e s) g _ _ z ∙ ap (λ (u : Words). words (take k s) ++ u) w in
      record {
        within = q.within;
        modifiers = ap (all_of modifier) t ∙ all_more (words (take k s)) (part a e s) m.modifiers f;
        whole = ap words (sym (take-append-drop e s)) ∙ words_append (take e s) (drop e s) (word-edge q);
        edge = ap (λ (b : Bool). non_empty (take e s) && b) (word-edge q) ∙ and-false (non_empty (take e s));
      }

  -- another word, or none
  stops : modifier (part a e s) ≡ false → (leading (words (drop k s)) ≡ []) × (following (words (drop k s)) ≡ words (drop k s))
  unfolding leading following
  stops f = elim (dec_lt a e) [ yes h ↦ word h | no h ↦ none (omega arith) ]
    where
      word : a < e → (leading (words (drop k s)) ≡ []) × (following (words (drop k s)) ≡ words (drop k s))
      word h = rw (word-there p q h, f) (refl, refl)

      none : e ≤ a → (leading (words (drop k s)) ≡ []) × (following (words (drop k s)) ≡ words (drop k s))
      none h = rw (none_left p q h) (refl, refl)

  pub leads-here : modifier (part a e s) ≡ false → Lead s k
  leads-here f =
      record {
        within = m.within;
        front = sym (ap leading m.whole ∙ leading-past (words (take k s)) (words (drop k s)) m.modifiers ∙ rw (stops f).0 (append-nil (words (take k s))));
        rest = sym (ap following m.whole ∙ following-past (words (take k s)) (words (drop k s)) m.modifiers ∙ (stops f).1);
      }

-- ---- modifiers alone

following-all : (ws : Words) → not (non_empty (following ws)) ≡ all_of modifier ws
unfolding following all_of non_empty
following-all [] = refl
following-all (w ∷ ws) = go (modifier w) (following-all ws)
  where
    go : (b : Bool) → not (non_empty (following ws)) ≡ all_of modifier ws → not (non_empty (cond b (following ws) (w ∷ ws))) ≡ (b && all_of modifier ws)
    go true h = h
    go false h = refl

-- where not all words are modifiers, there is a word after those in front
pub following-some : (ws : Words) → all_of modifier ws ≡ false → non_empty (following ws) ≡ true
following-some ws e = sym (not-not (non_empty (following ws))) ∙ ap not (following-all ws ∙ e)

pub lead-all : {s : Bytes} {k : ℕ} {r : Bool} → Lead s k → r ≡ all_of white (take (length s - k) (drop k s)) → r ≡ all_of modifier (words s)
lead-all {s} {k} {r} m e =
    e ∙ ap (all_of white) (part-from s k) ∙ sym (not-not (all_of white (drop k s))) ∙ ap not (sym (words-blank (drop k s)) ∙ ap non_empty m.rest) ∙ following-all (words s)
