-- Cutting a word at `=`: laws of `before`, `behind` and parts of parts.
use mathlib.Core.Path.{◌≡◌, refl, sym, ap, ◌∙◌}
use mathlib.Core.Bool.{Bool, true, false, cond, not, ◌&&◌, ◌||◌, false≢true}
use mathlib.Core.List.{[], ◌∷◌, ◌++◌, append-nil}
use Prim.Native.Nat.{ℕ, ◌+◌, ◌-◌, ◌≤◌, ◌<◌}
use native.Mathlib.Nat.{add-zero}
use native.Mathlib.Decide.{dec_lt}
use native.Mathlib.Omega.{arith}
use borrow.Author.Tests.{not-false, lt-ltb, le-ltb}
use lib.ListN.{length, take, drop, get_or, length-drop, drop_of_length-le}
use lib.Dec.{ltb}
use lib.Seq.{drop-drop, take-add, take-take, drop_at, length-take-le}
use Rattle.rules.specs.Text.Ascii.{is}
use Rattle.rules.specs.Text.Lists.{any_of, all_of}
use Rattle.rules.specs.Text.Bytes.{Bytes, before, behind}
use Rattle.rules.specs.Text.Parameters.{parameter, name, value_in, placed_word, placed_name}
use Rattle.rules.specs.Text.Reader.{part}
use Rattle.text.specs.Runs.{Run}
use Rattle.text.proofs.RunEnd.{drop-next, other, part-rest, length_part, run-stops}
use Rattle.parameters.specs.Elements.{Spelt, element, IsPart}

-- ---- parts of parts

pub drop-take : (a n : ℕ) (l : Bytes) → a ≤ n → a ≤ length l → drop a (take n l) ≡ take (n - a) (drop a l)
drop-take a n l h k =
    let e : n ≡ a + (n - a) = omega arith in
    ap (λ (j : ℕ). drop a (take j l)) e ∙ ap (drop a) (take-add a (n - a) l) ∙ drop_at (take a l) (take (n - a) (drop a l)) a (length-take-le a l k)

pub part-part : (s : Bytes) (from to a b : ℕ) → a ≤ b → b ≤ to - from → from ≤ to → to ≤ length s → part a b (part from to s) ≡ part (from + a) (from + b) s
part-part s from to a b h l f g =
    let d : drop a (part from to s) ≡ take (to - from - a) (drop a (drop from s)) = drop-take a (to - from) (drop from s) (omega arith) (omega (arith, length-drop from s)) in
    let n : from + b - (from + a) ≡ b - a = omega arith in
    ap (take (b - a)) d ∙ take-take (b - a) (to - from - a) (drop a (drop from s)) (omega arith) ∙ ap (take (b - a)) (drop-drop a from s) ∙ ap (λ (j : ℕ). take j (drop (from + a) s)) (sym n)

-- ---- before and behind

module _ (test : ℕ → Bool) where
  before-all : (t : Bytes) → all_of (other test) t ≡ true → before test t ≡ t
  unfolding all_of before
  before-all [] e = refl
  before-all (x ∷ t) e = go (test x) e (before-all t)
    where
      go : (b : Bool) → (not b && all_of (other test) t) ≡ true → (all_of (other test) t ≡ true → before test t ≡ t) → cond b [] (x ∷ before test t) ≡ x ∷ t
      go true g h = absurd (false≢true g)
      go false g h = ap (λ (u : Bytes). x ∷ u) (h g)

  any_none : (t : Bytes) → all_of (other test) t ≡ true → any_of test t ≡ false
  unfolding all_of any_of
  any_none [] e = refl
  any_none (x ∷ t) e = go (test x) e (any_none t)
    where
      go : (b : Bool) → (not b && all_of (other test) t) ≡ true → (all_of (other test) t ≡ true → any_of test t ≡ false) → (b || any_of test t) ≡ false
      go true g h = absurd (false≢true g)
      go false g h = h g

  module _ (y : ℕ) (u : Bytes) (f : test y ≡ true) where
    before_here : (t : Bytes) → all_of (other test) t ≡ true → before test (t ++ y ∷ u) ≡ t
    unfolding all_of before
    before_here [] e = rw f
    before_here (x ∷ t) e = go (test x) e (before_here t)
      where
        go : (b : Bool) → (not b && all_of (other test) t) ≡ true → (all_of (other test) t ≡ true → before test (t ++ y ∷ u) ≡ t)
            → cond b [] (x ∷ before test (t ++ y ∷ u)) ≡ x ∷ t
        go true g h = absurd (false≢true g)
        go false g h = ap (λ (v : Bytes). x ∷ v) (h g)

    behind-here : (t : Bytes) → all_of (other test) t ≡ true → behind test (t ++ y ∷ u) ≡ u
    unfolding all_of behind
    behind-here [] e = rw f
    behind-here (x ∷ t) e = go (test x) e (behind-here t)
      where
        go : (b : Bool) → (not b && all_of (other test) t) ≡ true → (all_of (other test) t ≡ true → behind test (t ++ y ∷ u) ≡ u)
            → cond b (t ++ y ∷ u) (behind test (t ++ y ∷ u)) ≡ u
        go true g h = absurd (false≢true g)
        go false g h = h g

    any_here : (t : Bytes) → any_of test (t ++ y ∷ u) ≡ true
    unfolding any_of
    any_here [] = rw f
    any_here (x ∷ t) = go (test x) (any_here t)
      where
        go : (b : Bool) → any_of test (t ++ y ∷ u) ≡ true → (b || any_of test (t ++ y ∷ u)) ≡ true
        go true h = refl
        go false h = h

-- ---- a run up to the first byte that passes the test, or up to the end

module _ (test : ℕ → Bool) {s : Bytes} {i e : ℕ} (m : Run (other test) s i e) where
  whole : length s ≤ e → drop i s ≡ part i e s
  whole h = part-rest s i e m.ahead ∙ rw (drop_of_length-le s h) (append-nil (part i e s))

  halves : e < length s → drop i s ≡ part i e s ++ get_or s e 0 ∷ drop (e + 1) s
  halves h = part-rest s i e m.ahead ∙ rw (drop-next s e h)

  passes : e < length s → test (get_or s e 0) ≡ true
  passes h = not-false (test (get_or s e 0)) (run-stops m h)

  pub run-before : before test (drop i s) ≡ part i e s
  run-before = elim (dec_lt e (length s)) [ yes h ↦ inside h | no h ↦ outside (omega arith) ]
    where
      inside : e < length s → before test (drop i s) ≡ part i e s
      inside h = ap (before test) (halves h) ∙ before_here test (get_or s e 0) (drop (e + 1) s) (passes h) (part i e s) m.whole

      outside : length s ≤ e → before test (drop i s) ≡ part i e s
      outside h = ap (before test) (whole h) ∙ before-all test (part i e s) m.whole

  pub run-behind : e < length s → behind test (drop i s) ≡ drop (e + 1) s
  run-behind h = ap (behind test) (halves h) ∙ behind-here test (get_or s e 0) (drop (e + 1) s) (passes h) (part i e s) m.whole

  pub run-any : e < length s → any_of test (drop i s) ≡ true
  run-any h = ap (any_of test) (halves h) ∙ any_here test (get_or s e 0) (drop (e + 1) s) (passes h) (part i e s)

  pub run_none : length s ≤ e → any_of test (drop i s) ≡ false
  run_none h = ap (any_of test) (whole h) ∙ any_none test (part i e s) m.whole

-- ---- the parameter that a word is, and where its value begins: the text's last nine bytes are behind the word

module _ (s : Bytes) {from to q n : ℕ} (z : Spelt s n) (f : from ≤ to) (l : to ≤ n) (m : Run (other (is "=")) (part from to s) 0 q) where
  fits : to ≤ length s
  fits = omega (arith, z.ends)

  size : length (part from to s) ≡ to - from
  size = length_part s from to f fits

  -- with `=` after q bytes, and before a second one or the end after r
  pub part_cut : {r : ℕ} (first : Bool) → q < to - from → Run (other (is "=")) (part from to s) (q + 1) r
      → IsPart s from to first (record { key = from; key_end = from + q; value = from + q + 1; value_end = from + r })
  unfolding element placed_name placed_word value_in parameter
  part_cut {r} first h n =
      let g : q < length (part from to s) = omega (arith, size) in
      let a : any_of (is "=") (part from to s) ≡ true = run-any (is "=") m g in
      let r≤ : r ≤ to - from = omega (arith, n.within, size) in
      let p : from + (q + 1) ≡ from + q + 1 = omega arith in
      let k : before (is "=") (part from to s) ≡ part from (from + q) s =
      run-before (is "=") m ∙ part-part s from to 0 q (omega arith) (omega arith) f fits ∙ ap (λ (j : ℕ). part j (from + q) s) (add-zero from) in
      let v : before (is "=") (behind (is "=") (part from to s)) ≡ part (from + q + 1) (from + r) s =
      ap (before (is "=")) (run-behind (is "=") m g) ∙ run-before (is "=") n ∙ part-part s from to (q + 1) r n.ahead r≤ f fits ∙ ap (λ (j : ℕ). part j (from + r) s) p in
      let here : from + (length (part from (from + q) s) + 1) ≡ from + q + 1 = omega (arith, length_part s from (from + q) (omega arith) (omega (arith, fits))) in
      let in-text : ltb (length s - (from + q + 1)) 9 ≡ false = le-ltb (length s - (from + q + 1)) 9 (omega (arith, z.ends)) in
      record {
        within = record { key-ahead = omega arith; key-within = omega (arith, fits); value-ahead = omega (arith, n.ahead); value-within = omega (arith, fits) };
        spells = rw (in-text, a, k, v, here) (go first);
      }
    where
      go : {A : Type 0} {x : A} (b : Bool) → x ≡ cond b x x
      go true = refl
      go false = refl

  module _ (h : to - from ≤ q) where
    bare : any_of (is "=") (part from to s) ≡ false
    bare = run_none (is "=") m (omega (arith, size))

    -- without, the first is the name
    pub part-name : IsPart s from to true (record { key = n; key_end = n + 5; value = from; value_end = to })
    unfolding element placed_name name
    part-name =
        let in-text : ltb (length s - from) 9 ≡ false = le-ltb (length s - from) 9 (omega (arith, z.ends)) in
        record {
          within = record { key-ahead = omega arith; key-within = omega (arith, z.ends); value-ahead = f; value-within = fits };
          spells = rw (in-text, bare, z.name-there);
        }

    -- and another is a key
    pub part-key : IsPart s from to false (record { key = from; key_end = to; value = n + 5; value_end = n + 9 })
    unfolding element placed_word value_in parameter
    part-key =
        let behind-it : ltb (length s - (n + 5)) 9 ≡ true = lt-ltb (length s - (n + 5)) 9 (omega (arith, z.ends)) in
        let here : from + length (part from to s) ≡ to = omega (arith, size) in
        record {
          within = record { key-ahead = f; key-within = fits; value-ahead = omega arith; value-within = omega (arith, z.ends) };
          spells = rw (behind-it, bare, here, z.true-there);
        }
