-- The steps of a PROJ text, one by one: the pieces between the `step` words, and their laws.
use Rattle.std.specs.Prelude.{Option, None, Some}
use mathlib.Core.Path.{◌≡◌, refl, sym, ap, ◌∙◌, subst}
use mathlib.Core.Bool.{Bool, true, false, cond, ◌&&◌, false≢true}
use mathlib.Core.List.{[], ◌∷◌, ◌++◌, append-nil, append_assoc}
use Prim.Native.Nat.{ℕ, ◌≤◌, ◌<◌}
use native.Mathlib.Decide.{dec_lt}
use native.Mathlib.Omega.{arith}
use borrow.Author.Tests.{lt-ltb, le-ltb}
use lib.ListN.{length, drop, drop_of_length-le}
use lib.Dec.{ltb}
use Rattle.rules.specs.Text.Lists.{kept, non_empty}
use Rattle.rules.specs.Text.Bytes.{Bytes, Words, Steps, onto, words}
use Rattle.rules.specs.Proj.Words.{is_step, cut_at_step, without_noise}
use Rattle.rules.specs.Text.Reader.{part, step_then}
use Rattle.rules.specs.declared.Cursor.{Cursor}
use Rattle.rules.specs.declared.Found.{Found}
use Rattle.laws_text.specs.Passes.{in_word, words-nil}
use Rattle.text.proofs.Lead.{one_word}
use Rattle.proj_words.specs.Words.{IsWord}
use Rattle.proj_words.specs.Cuts.{steps_in, steps_from, IsPiece, IsStart, beginning, IsStep, is_found, FoundStep}
use Rattle.proj_words.specs.declared.walk.Piece.{Piece}
use Rattle.proj_words.proofs.Words.{word-first, word-ends, word-within, word-further, word-alone, words-parts, words-empty}

-- ---- pieces

-- words in front of the first piece
pub in_front : Words → Steps → Steps
in_front us [] = us ∷ []
in_front us (p ∷ ps) = (us ++ p) ∷ ps

onto-front : (us : Words) (w : Bytes) (ps : Steps) → in_front us (onto w ps) ≡ in_front (us ++ (w ∷ [])) ps
unfolding in_front onto
onto-front us w [] = refl
onto-front us w (p ∷ ps) = ap (λ (q : Words). q ∷ ps) (sym (append_assoc us (w ∷ []) p))

front-none : (ws : Words) → in_front [] (cut_at_step false ws) ≡ cut_at_step false ws
unfolding in_front cut_at_step
front-none [] = refl
front-none (w ∷ ws) = go (is_step w) (cut_at_step false ws)
  where
    some : (ps : Steps) → in_front [] (onto w ps) ≡ onto w ps
    some [] = unfold in_front onto in refl
    some (p ∷ ps) = unfold in_front onto in refl

    go : (b : Bool) (ps : Steps) → in_front [] (cond b ([] ∷ cut_at_step true ws) (onto w ps)) ≡ cond b ([] ∷ cut_at_step true ws) (onto w ps)
    go true ps = refl
    go false ps = some ps

-- the words up to `at` belong to the first piece from k on
pub record Piecing (n : Bytes) (k at : ℕ) : Type 0 where
  pub ahead : k ≤ at
  pub within : at ≤ length n
  pub edge : in_word (drop at n) ≡ false
  pub worded : k < at → non_empty (words (part k at n)) ≡ true
  pub cuts : cut_at_step false (words (drop k n)) ≡ in_front (words (part k at n)) (cut_at_step false (words (drop at n)))

never : (k : ℕ) → k < k → ⊥
never k h = omega arith

pub piecing-start : (n : Bytes) (k : ℕ) → k ≤ length n → in_word (drop k n) ≡ false → Piecing n k k
piecing-start n k h i = record {
  ahead = omega arith;
  within = h;
  edge = i;
  worded = λ g. absurd (never k g);
  cuts = sym (ap (λ (us : Words). in_front us (cut_at_step false (words (drop k n)))) (words-empty n k k (omega arith)) ∙ front-none (words (drop k n)));
}

append-some : (us : Words) (w : Bytes) → non_empty (us ++ (w ∷ [])) ≡ true
unfolding non_empty
append-some [] w = refl
append-some (u ∷ us) w = refl

module _ {n : Bytes} {k at : ℕ} (m : Piecing n k at) where
  -- no word is left
  pub piece-last : words (drop at n) ≡ [] → IsPiece n k (record { end = at; then = length n })
  unfolding in_front cut_at_step steps_in kept without_noise non_empty
  piece-last e =
      let l : length n ≤ length n = omega arith in
      let d : drop (length n) n ≡ [] = drop_of_length-le n l in
      record {
        ahead = m.ahead;
        onward = m.within;
        within = omega arith;
        worded = m.worded;
        others = [];
        cuts = m.cuts ∙ rw (e, append-nil (words (part k at n)));
        rest = sym (rw (d, words-nil));
      }

  module _ {from to : ℕ} (w : IsWord n at from to) where
    -- a `step`
    pub piece-ends : is_step (part from to n) ≡ true → IsPiece n k (record { end = at; then = to })
    unfolding in_front cut_at_step
    piece-ends e = record {
      ahead = m.ahead;
      onward = omega (arith, word-further w);
      within = word-within w;
      worded = m.worded;
      others = cut_at_step true (words (drop to n));
      cuts = m.cuts ∙ rw (word-first w, e, append-nil (words (part k at n)));
      rest = refl;
    }

    longer : words (part k to n) ≡ words (part k at n) ++ (part from to n ∷ [])
    longer = words-parts n k at to m.ahead (omega (arith, word-further w)) (word-within w) m.edge ∙ ap (λ (us : Words). words (part k at n) ++ us) (word-alone w)

    -- another word
    pub piece-more : is_step (part from to n) ≡ false → Piecing n k to
    unfolding cut_at_step
    piece-more e = record {
      ahead = omega (arith, word-further w, m.ahead);
      within = word-within w;
      edge = word-ends w;
      worded = λ h. ap non_empty longer ∙ append-some (words (part k at n)) (part from to n);
      cuts =
          m.cuts ∙ ap (λ (us : Words). in_front (words (part k at n)) (cut_at_step false us)) (word-first w)
          ∙ rw e (onto-front (words (part k at n)) (part from to n) (cut_at_step false (words (drop to n))) ∙ ap (λ (us : Words). in_front us (cut_at_step false (words (drop to n)))) (sym longer));
    }

-- ---- the start

pub start-later : {n : Bytes} {place : ℕ} → place ≤ length n → 0 < place → IsStart n place place
unfolding steps_from
start-later {n} {place} l h = record { ahead = omega arith; within = l; same = rw (lt-ltb 0 place h) }

pub start_none : {n : Bytes} {place : ℕ} → place ≤ 0 → words (drop 0 n) ≡ [] → IsStart n place 0
unfolding steps_from cut_at_step
start_none {n} {place} h e = let z : place ≡ 0 = omega arith in record { ahead = omega arith; within = omega arith; same = rw (z, e) }

module _ {n : Bytes} {place from to : ℕ} (h : place ≤ 0) (w : IsWord n 0 from to) where
  pub start-step : is_step (part from to n) ≡ true → IsStart n place to
  unfolding steps_from steps_in cut_at_step kept without_noise non_empty
  start-step e = let z : place ≡ 0 = omega arith in record { ahead = omega arith; within = word-within w; same = rw (z, word-first w, e) }

  pub start_word : is_step (part from to n) ≡ false → IsStart n place 0
  unfolding steps_from cut_at_step
  start_word e = let z : place ≡ 0 = omega arith in record { ahead = omega arith; within = omega arith; same = rw (z, word-first w, e) }

-- ---- where a step begins

pub begins-noise : (n : Bytes) (from to end : ℕ) → to < end → is_step (part from to n) ≡ true → to ≡ beginning n from to end
unfolding beginning
begins-noise n from to end h e = rw (lt-ltb to end h, e)

pub begins-word : (n : Bytes) (from to end : ℕ) → to < end → is_step (part from to n) ≡ false → from ≡ beginning n from to end
unfolding beginning
begins-word n from to end h e = rw (lt-ltb to end h, e)

pub begins-alone : (n : Bytes) (from to end : ℕ) → end ≤ to → from ≡ beginning n from to end
unfolding beginning
begins-alone n from to end h = rw (le-ltb to end h)

-- ---- a step

pub step-at : {n : Bytes} {place from to : ℕ} {then : Cursor} {r : Option Found} → FoundStep n place r → r ≡ step_then from to then → IsStep n place from to then.at
unfolding is_found
step-at {n} {place} f e = subst (is_found n place) e f.found

pub step-none : {n : Bytes} {place : ℕ} {r : Option Found} → FoundStep n place r → r ≡ None → steps_from n place ≡ []
unfolding is_found
step-none {n} {place} f e = subst (is_found n place) e f.found

pub walk_none : {n : Bytes} {place start : ℕ} → IsStart n place start → words (drop start n) ≡ [] → FoundStep n place None
unfolding is_found steps_in cut_at_step kept without_noise non_empty
walk_none {n} {place} {start} b e = record { found = b.same ∙ rw e }

module _ {n : Bytes} {place start from to : ℕ} {p : Piece} (b : IsStart n place start) (w : IsWord n start from to) (q : IsPiece n to p) where
  unnoised-some : (v : Bytes) (vs : Words) → non_empty (without_noise (v ∷ vs)) ≡ true
  unfolding without_noise non_empty
  unnoised-some v [] = refl
  unnoised-some v (x ∷ vs) = go (is_step v)
    where
      go : (a : Bool) → non_empty (cond a (x ∷ vs) (v ∷ x ∷ vs)) ≡ true
      go true = refl
      go false = refl

  -- all steps from here on
  from-here : steps_from n place ≡ without_noise (part from to n ∷ words (part to p.end n)) ∷ steps_from n p.then
  unfolding steps_from steps_in cut_at_step kept onto
  from-here =
      let h : 0 < p.then = omega (arith, word-further w, q.ahead, q.onward) in
      b.same ∙ rw (word-first w, q.cuts, unnoised-some (part from to n) (words (part to p.end n)), lt-ltb 0 p.then h)
      (ap (λ (ss : Steps). without_noise (part from to n ∷ words (part to p.end n)) ∷ ss) q.rest)

  with-word : words (part from p.end n) ≡ part from to n ∷ words (part to p.end n)
  with-word =
      words-parts n from to p.end w.body.ahead q.ahead (omega (arith, q.onward, q.within)) (word-ends w)
      ∙ ap (λ (vs : Words). vs ++ words (part to p.end n)) (one_word w.gap w.body w.longer)

  -- its words, by where it begins
  quiet : (a : Bool) (vs : Words) → (a ≡ true → non_empty vs ≡ true) → is_step (part from to n) ≡ a → without_noise (part from to n ∷ vs) ≡ cond a vs (part from to n ∷ vs)
  unfolding without_noise non_empty
  quiet true [] f e = absurd (false≢true (f refl))
  quiet true (v ∷ vs) f e = rw e
  quiet false [] f e = refl
  quiet false (v ∷ vs) f e = rw e

  begun : words (part (beginning n from to p.end) p.end n) ≡ without_noise (part from to n ∷ words (part to p.end n))
  begun = elim (dec_lt to p.end) [ yes h ↦ more h (is_step (part from to n)) refl | no h ↦ alone (omega arith) ]
    where
      more : to < p.end → (a : Bool) → is_step (part from to n) ≡ a → words (part (beginning n from to p.end) p.end n) ≡ without_noise (part from to n ∷ words (part to p.end n))
      more h true e = rw (← begins-noise n from to p.end h e) (sym (quiet true (words (part to p.end n)) (λ f. q.worded h) e))
      more h false e = rw (← begins-word n from to p.end h e) (with-word ∙ sym (quiet false (words (part to p.end n)) (λ f. absurd (false≢true f)) e))

      alone : p.end ≤ to → words (part (beginning n from to p.end) p.end n) ≡ without_noise (part from to n ∷ words (part to p.end n))
      alone h = rw (← begins-alone n from to p.end h) (with-word ∙ unfold without_noise in rw (words-empty n to p.end h))

  begins-in : beginning n from to p.end ≤ p.end
  unfolding beginning
  begins-in = go (ltb to p.end && is_step (part from to n))
    where
      go : (a : Bool) → cond a to from ≤ p.end
      go true = q.ahead
      go false = omega (arith, q.ahead, w.longer)

  pub walk_step : {r : ℕ} → r ≡ beginning n from to p.end → FoundStep n place (step_then r p.end (record { at = p.then }))
  unfolding is_found
  walk_step {r} e =
      let z : words (part r p.end n) ≡ without_noise (part from to n ∷ words (part to p.end n)) = ap (λ (j : ℕ). words (part j p.end n)) e ∙ begun in
      record {
        found = record {
          ahead = omega (arith, begins-in);
          within = omega (arith, q.onward, q.within);
          onward = q.onward;
          ends = q.within;
          further = omega (arith, b.ahead, word-further w, q.ahead, q.onward);
          worded = ap non_empty z ∙ unnoised-some (part from to n) (words (part to p.end n));
          here = from-here ∙ ap (λ (ws : Words). ws ∷ steps_from n p.then) (sym z);
        };
      }
