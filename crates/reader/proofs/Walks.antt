-- The next step, piece by piece: a piece of white space alone is passed over, and the first other one is the step. The invariant of the walk,
-- and its laws.
use Rattle.std.specs.Prelude.{None}
use mathlib.Core.Path.{◌≡◌, refl, sym, ap, ◌∙◌}
use mathlib.Core.Bool.{Bool, true, false, cond, not, ◌&&◌, false≢true}
use mathlib.Core.List.{[], ◌∷◌, ◌++◌, append-nil}
use Prim.Native.Nat.{ℕ, suc, ◌+◌, ◌≤◌, ◌<◌}
use native.Mathlib.Decide.{dec_lt}
use native.Mathlib.Omega.{arith}
use borrow.Author.Tests.{not-false}
use lib.ListN.{length, drop, get_or, drop_of_length-le}
use Rattle.rules.specs.Text.Ascii.{is}
use Rattle.rules.specs.Text.Lists.{all_of, kept, non_empty}
use Rattle.rules.specs.Text.Bytes.{Bytes, white, onto, cut, words}
use Rattle.rules.specs.Text.Reader.{step, found, next, part}
use Rattle.text.specs.Runs.{Run}
use Rattle.text.proofs.RunEnd.{drop-next, other, part-rest, length_part, run-stops, words-blank}

-- ---- the first piece

-- a text without a byte that passes the test is one piece
cut-free : (test : ℕ → Bool) (t : Bytes) → all_of (other test) t ≡ true → cut test t ≡ t ∷ []
unfolding all_of cut onto
cut-free test [] e = refl
cut-free test (x ∷ t) e = go (test x) e (cut-free test t)
  where
    go : (b : Bool) → (not b && all_of (other test) t) ≡ true → (all_of (other test) t ≡ true → cut test t ≡ t ∷ [])
        → cond b ([] ∷ cut test t) (onto x (cut test t)) ≡ (x ∷ t) ∷ []
    go true g h = absurd (false≢true g)
    go false g h = ap (onto x) (h g)

-- at such a byte, the first piece ends
cut-here : (test : ℕ → Bool) (t : Bytes) (y : ℕ) (u : Bytes) → all_of (other test) t ≡ true → test y ≡ true → cut test (t ++ y ∷ u) ≡ t ∷ cut test u
unfolding all_of cut onto
cut-here test [] y u e f = rw f
cut-here test (x ∷ t) y u e f = go (test x) e (λ g. cut-here test t y u g f)
  where
    go : (b : Bool) → (not b && all_of (other test) t) ≡ true → (all_of (other test) t ≡ true → cut test (t ++ y ∷ u) ≡ t ∷ cut test u)
        → cond b ([] ∷ cut test (t ++ y ∷ u)) (onto x (cut test (t ++ y ∷ u))) ≡ (x ∷ t) ∷ cut test u
    go true g h = absurd (false≢true g)
    go false g h = ap (onto x) (h g)

-- from the text's end on, or beyond, there is none
pub next_past : (s : Bytes) (i : ℕ) → length s ≤ i → None ≡ next s i
unfolding next found words kept cut non_empty
next_past s i h = sym (rw (drop_of_length-le s h))

module _ {s : Bytes} {i e : ℕ} (m : Run (other (is "|")) s i e) where
  -- the piece, and those behind it
  piece-last : e ≡ length s → cut (is "|") (drop i s) ≡ part i e s ∷ []
  piece-last z =
      let l : length s ≤ e = omega arith in
      let d : drop e s ≡ [] = drop_of_length-le s l in
      ap (cut (is "|")) (part-rest s i e m.ahead ∙ rw d (append-nil (part i e s))) ∙ cut-free (is "|") (part i e s) m.whole

  piece-more : e < length s → cut (is "|") (drop i s) ≡ part i e s ∷ cut (is "|") (drop (e + 1) s)
  piece-more h =
      let y : is "|" (get_or s e 0) ≡ true = not-false (is "|" (get_or s e 0)) (run-stops m h) in
      ap (cut (is "|")) (part-rest s i e m.ahead ∙ rw (drop-next s e h)) ∙ cut-here (is "|") (part i e s) (get_or s e 0) (drop (e + 1) s) m.whole y

  -- an empty piece is passed over, the last one too: behind it there is none
  next-over : all_of white (part i e s) ≡ true → next s i ≡ next s (e + 1)
  next-over w = elim (dec_lt e (length s)) [ yes h ↦ more h | no h ↦ last (omega (arith, m.within)) ]
    where
      b : non_empty (words (part i e s)) ≡ false
      b = words-blank (part i e s) ∙ ap not w

      k : i + suc (length (part i e s)) ≡ e + 1
      k = omega (arith, length_part s i e m.ahead m.within, m.ahead)

      more : e < length s → next s i ≡ next s (e + 1)
      more h = unfold next found in rw (piece-more h, b, k)

      none : e ≡ length s → next s i ≡ None
      none z = unfold next found in rw (piece-last z, b)

      last : e ≡ length s → next s i ≡ next s (e + 1)
      last z = none z ∙ next_past s (e + 1) (omega arith)

  -- another is the step
  next_here : all_of white (part i e s) ≡ false → step i e ≡ next s i
  next_here w = elim (dec_lt e (length s)) [ yes h ↦ more h | no h ↦ last (omega (arith, m.within)) ]
    where
      b : non_empty (words (part i e s)) ≡ true
      b = words-blank (part i e s) ∙ ap not w

      k : i + length (part i e s) ≡ e
      k = omega (arith, length_part s i e m.ahead m.within, m.ahead)

      more : e < length s → step i e ≡ next s i
      more h = unfold next found in sym (rw (piece-more h, b, k))

      last : e ≡ length s → step i e ≡ next s i
      last z = unfold next found in sym (rw (piece-last z, b, k))

-- ---- `next_step`: what is found from i on is what is found from the start on

pub record Walks (s : Bytes) (start i : ℕ) : Type 0 where
  pub same : next s i ≡ next s start

pub walks-none : (s : Bytes) (start : ℕ) → Walks s start start
walks-none s start = record { same = refl }

module _ {s : Bytes} {start i : ℕ} (m : Walks s start i) where
  pub walks-over : {e : ℕ} → Run (other (is "|")) s i e → all_of white (part i e s) ≡ true → Walks s start (e + 1)
  walks-over p w = record { same = sym (next-over p w) ∙ m.same }

  pub walks-here : {e : ℕ} → Run (other (is "|")) s i e → all_of white (part i e s) ≡ false → step i e ≡ next s start
  walks-here p w = next_here p w ∙ m.same

  pub walks-end : length s ≤ i → None ≡ next s start
  walks-end h = next_past s i h ∙ m.same
