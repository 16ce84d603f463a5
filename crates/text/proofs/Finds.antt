-- Does a text begin with `old`, and where does the first one stand: the laws at a place, and the loops' invariants.
use mathlib.Core.Path.{◌≡◌, refl, sym, ap, ◌∙◌}
use mathlib.Core.Bool.{Bool, true, false, cond, ◌&&◌, ◌||◌, false≢true, true≢false, or-false, and-true, and_assoc}
use mathlib.Core.List.{[], ◌∷◌, ◌++◌}
use Prim.Native.Nat.{ℕ, zero, suc, ◌+◌, ◌-◌, ◌≤◌, ◌<◌, suc-le-suc}
use native.Mathlib.Nat.{not-suc-le-zero}
use native.Mathlib.Numerals.{add-one}
use native.Mathlib.Omega.{arith}
use borrow.Author.Tests.{ne_eqb}
use lib.Dec.{eqb}
use lib.ListN.{length, take, drop, get_or, length-drop, drop_of_length-le}
use lib.Seq.{drop-drop, get_or-drop}
use Rattle.rules.specs.Text.Bytes.{Bytes, starts}
use Rattle.laws_lists.specs.Tests.{and_right}
use Rattle.text.specs.Places.{ahead, Passed, Sought}
use Rattle.text.proofs.Wrote.{drop-next, part-from}
use Rattle.std.specs.List.{starts_with}
use Rattle.std.proofs.lemmas.Bool.Decides.{nat_tests}

pub starts-length : (old t : Bytes) → starts old t ≡ true → length old ≤ length t
unfolding starts
starts-length [] t e = omega arith
starts-length (p ∷ old) [] e = absurd (false≢true e)
starts-length (p ∷ old) (x ∷ t) e = suc-le-suc (starts-length old t (and_right (eqb x p) (starts old t) e))

-- ---- `starts_at`: what std's `starts_with` tells

same-numbers : (x y : ℕ) → eqb x y ≡ eqb y x
same-numbers x y = grind (arith, nat_tests)

starts-with : (old t : Bytes) → starts_with eqb t old ≡ starts old t
unfolding starts
starts-with [] t = refl
starts-with (p ∷ old) [] = refl
starts-with (p ∷ old) (x ∷ t) = rw (same-numbers p x, starts-with old t)

pub starts-is : (src : Bytes) (at : ℕ) (old : Bytes) {r : Bool} → r ≡ starts_with eqb (take (length src - at) (drop at src)) old → r ≡ starts old (drop at src)
starts-is src at old e = e ∙ rw (part-from src at) (starts-with old (drop at src))

-- ---- `agrees`: one byte more

starts-take : (old t : Bytes) (k : ℕ) → k < length old → k < length t → starts (take (suc k) old) t ≡ starts (take k old) t && eqb (get_or t k 0) (get_or old k 0)
unfolding starts
starts-take [] t k l h = absurd (not-suc-le-zero l)
starts-take (p ∷ old) [] k l h = absurd (not-suc-le-zero h)
starts-take (p ∷ old) (x ∷ t) zero l h = rw and-true
starts-take (p ∷ old) (x ∷ t) (suc k) l h = rw (starts-take old t k (omega arith) (omega arith)) (sym (and_assoc (eqb x p) (starts (take k old) t) (eqb (get_or t k 0) (get_or old k 0))))

pub starts-more : (old src : Bytes) (at k : ℕ) {same : Bool} → same ≡ starts (take k old) (drop at src) → k < length old → at + length old ≤ length src
    → (same && eqb (get_or src (at + k) 0) (get_or old k 0)) ≡ starts (take (k + 1) old) (drop at src)
starts-more old src at k e l h = rw (e, add-one, ← get_or-drop at src k 0) (sym (starts-take old (drop at src) k l (omega (arith, length-drop at src))))

-- ---- `skip` and `find`: no `old` begins before i

-- a first byte that is another
starts_other : (old : Bytes) (x : ℕ) (t : Bytes) → 0 < length old → (x ≡ get_or old 0 0 → ⊥) → starts old (x ∷ t) ≡ false
unfolding starts
starts_other [] x t h n = absurd (not-suc-le-zero h)
starts_other (p ∷ old) x t h n = rw (ne_eqb x p n)

pub passed_none : {src : Bytes} {from : ℕ} {old : Bytes} → from ≤ length src → Passed src from old from
passed_none h = record { onward = omega arith; within = h; same = refl }

module _ {src : Bytes} {from : ℕ} {old : Bytes} {i : ℕ} (m : Passed src from old i) where
  -- none begins here
  pub passed-next : i < length src → starts old (drop i src) ≡ false → Passed src from old (i + 1)
  unfolding ahead
  passed-next h e =
      let n = drop-next src i h in
      let f = rw n at e in
      let a : ahead old (drop i src) ≡ suc (ahead old (drop (i + 1) src)) = rw (n, f) in
      record { onward = omega (arith, m.onward); within = omega arith; same = omega (arith, m.same) }

  pub passed-other : i < length src → 0 < length old → (get_or src i 0 ≡ get_or old 0 0 → ⊥) → Passed src from old (i + 1)
  passed-other h l n = passed-next h (rw (drop-next src i h) (starts_other old (get_or src i 0) (drop (i + 1) src) l n))

  -- it is gone on from here
  pub passed_on : {r : ℕ} → Passed src i old r → Passed src from old r
  passed_on p = record { onward = omega (arith, m.onward, p.onward); within = p.within; same = omega (arith, m.same, p.same) }

  pub passed_here : i < length src → starts old (drop i src) ≡ true → i ≡ from + ahead old (drop from src)
  unfolding ahead
  passed_here h e =
      let n = drop-next src i h in
      let f = rw n at e in
      let a : ahead old (drop i src) ≡ 0 = rw (n, f) in
      omega (arith, m.same)

  pub passed-end : length src ≤ i → i ≡ from + ahead old (drop from src)
  unfolding ahead
  passed-end h = omega (arith, m.same, ap (ahead old) (drop_of_length-le src h))

-- ---- looking for the first bytes of `old`

starts-front : (front more u : Bytes) → starts front u ≡ false → starts (front ++ more) u ≡ false
unfolding starts
starts-front [] more u e = absurd (true≢false e)
starts-front (p ∷ front) more [] e = refl
starts-front (p ∷ front) more (x ∷ u) e = go (eqb x p) e (starts-front front more u)
  where
    go : (b : Bool) → b && starts front u ≡ false → (starts front u ≡ false → starts (front ++ more) u ≡ false) → b && starts (front ++ more) u ≡ false
    go true f g = g f
    go false f g = refl

-- where its first two bytes do not begin, `old` does not
pub starts-two : (old : Bytes) → 2 ≤ length old → (u : Bytes) → starts (get_or old 0 0 ∷ get_or old 1 0 ∷ []) u ≡ false → starts old u ≡ false
starts-two old h u e =
    let n : old ≡ (get_or old 0 0 ∷ get_or old 1 0 ∷ []) ++ drop 2 old = drop-next old 0 (omega arith) ∙ rw (drop-next old 1 (omega arith)) in
    ap (λ (t : Bytes). starts t u) n ∙ starts-front (get_or old 0 0 ∷ get_or old 1 0 ∷ []) (drop 2 old) u e

ahead-pass : (p old : Bytes) → ((u : Bytes) → starts p u ≡ false → starts old u ≡ false) → (n : ℕ) (t : Bytes) → n ≤ ahead p t → ahead old t ≡ n + ahead old (drop n t)
unfolding ahead
ahead-pass p old f zero t h = omega arith
ahead-pass p old f (suc n) [] h = absurd (not-suc-le-zero h)
ahead-pass p old f (suc n) (x ∷ t) h = go (starts p (x ∷ t)) refl h (ahead-pass p old f n t)
  where
    go : (b : Bool) → starts p (x ∷ t) ≡ b → suc n ≤ cond b 0 (suc (ahead p t)) → (n ≤ ahead p t → ahead old t ≡ n + ahead old (drop n t))
        → cond (starts old (x ∷ t)) 0 (suc (ahead old t)) ≡ suc n + ahead old (drop n t)
    go true e l g = absurd (not-suc-le-zero l)
    go false e l g = rw (f (x ∷ t) e) (omega (arith, g (omega arith)))

-- what is passed looking for them is passed
pub passed-by : {src : Bytes} {from : ℕ} {p : Bytes} {r : ℕ} (old : Bytes) → ((u : Bytes) → starts p u ≡ false → starts old u ≡ false) → Passed src from p r → Passed src from old r
passed-by {src} {from} {p} {r} old f m =
    let n = r - from in
    let k : from + n ≡ r = omega (arith, m.onward) in
    let d : drop n (drop from src) ≡ drop r src = drop-drop n from src ∙ rw k in
    let a = ahead-pass p old f n (drop from src) (omega (arith, m.same)) in
    let b : ahead old (drop from src) ≡ n + ahead old (drop r src) = a ∙ rw d in
    record { onward = m.onward; within = m.within; same = omega (arith, m.onward) }

-- ---- `stands`: up to j none is found, or it is said that one is

or_true : (b : Bool) → b || true ≡ true
or_true true = refl
or_true false = refl

module _ {src : Bytes} {from : ℕ} {old : Bytes} {j : ℕ} {found : Bool} (m : Sought src from old j found) where
  -- here is looked at too
  pub sought-next : (here : Bool) → j < length src → here ≡ starts old (drop j src) → Sought src from old (j + 1) (found || here)
  sought-next true h e = record { none = λ f. absurd (true≢false (sym (or_true found) ∙ f)) }
  sought-next false h e = record { none = λ f. passed-next (m.none (sym (or-false found) ∙ f)) h (sym e) }
