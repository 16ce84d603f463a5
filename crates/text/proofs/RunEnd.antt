-- White space alone, runs of bytes that pass a test, parts of a text, and texts compared: what std's searches tell of them, and their laws.
use mathlib.Core.Path.{◌≡◌, refl, sym, ap, ◌∙◌}
use mathlib.Core.Bool.{Bool, true, false, cond, not, ◌&&◌, ◌||◌, false≢true, true≢false, not-not}
use mathlib.Core.List.{List, [], ◌∷◌, ◌++◌}
use Prim.Native.Nat.{ℕ, suc, ◌+◌, ◌-◌, ◌≤◌, ◌<◌}
use native.Mathlib.Omega.{arith}
use native.Mathlib.Decide.{dec_lt}
use borrow.Author.Tests.{le-leb, lt-leb}
use lib.ListN.{length, take, drop, get_or, length-drop, take-append-drop}
use lib.Seq.{take-suc, get_or-drop, drop-drop, length-take-le}
use lib.Dec.{leb, ltb, eqb}
use Rattle.std.proofs.Common.{Option, Some, None}
use Rattle.std.specs.Option.{unwrap_or}
use Rattle.std.specs.List.{list_all, prefix_len, position_or_len, position}
use Rattle.std.specs.Cmp.Lexicographic.{pointwise}
use Rattle.std.proofs.lemmas.Bool.{ltb-false}
use Rattle.std.proofs.lemmas.List.Sums.{prefix_len-le-length, prefix_len_stops}
use Rattle.std.proofs.lemmas.List.Recursion.{same_from_clauses}
use Rattle.rules.specs.Text.Lists.{all_of, kept, non_empty}
use Rattle.rules.specs.Text.Bytes.{Bytes, Words, white, cut, words, same}
use Rattle.rules.specs.Text.Reader.{part}
use Rattle.laws_text.specs.Passes.{in_word, grow, words-cons, grow-some}
use Rattle.text.specs.Runs.{Run}
pub use Rattle.text.proofs.Wrote.{drop-next}

-- ---- what std's tests and searches tell, in the words of `rules`

pub all-is : {A : Type 0} (test : A → Bool) (s : List A) → list_all test s ≡ all_of test s
unfolding all_of
all-is test = same_from_clauses (list_all test) (all_of test) (λ x b. test x && b) refl (λ _ _. refl) (λ _ _. refl)

pub same-is : (a b : Bytes) → pointwise eqb a b ≡ same a b
unfolding same
same-is [] [] = refl
same-is [] (y ∷ b) = refl
same-is (x ∷ a) [] = refl
same-is (x ∷ a) (y ∷ b) = rw (same-is a b)

-- a byte that does not pass a test
abbrev pub other : (ℕ → Bool) → ℕ → Bool
other test b = not (test b)

-- how many bytes stand before the first other one: all of them where `position` finds none
pub place : (test : ℕ → Bool) (s : Bytes) {r : Option ℕ} {n : ℕ} → r ≡ position (other test) s → n ≡ unwrap_or r (length s) → n ≡ prefix_len test s
place test s {r} {n} e d = d ∙ ap (λ (o : Option ℕ). unwrap_or o (length s)) e ∙ go (ltb k (length s)) refl ∙ all-of s
  where
    k : ℕ
    k = position_or_len (other test) s

    all-of : (t : Bytes) → position_or_len (other test) t ≡ prefix_len test t
    all-of [] = refl
    all-of (x ∷ t) = rw (not-not (test x), all-of t)

    go : (b : Bool) → ltb k (length s) ≡ b → unwrap_or (cond b (Some k) None) (length s) ≡ k
    go true h = refl
    go false h = let l = prefix_len-le-length (λ x. not (not (test x))) s in omega (arith, ltb-false k (length s) h)

-- a text has a word exactly where it is not all white space
pub words-blank : (t : Bytes) → non_empty (words t) ≡ not (all_of white t)
unfolding all_of
words-blank [] = unfold words kept cut non_empty in refl
words-blank (x ∷ t) = rw (words-cons x t) (go (white x) (words-blank t))
  where
    go : (b : Bool) → non_empty (words t) ≡ not (all_of white t) → non_empty (cond b (words t) (grow x (in_word t) (words t))) ≡ not (b && all_of white t)
    go true h = h
    go false h = grow-some x (in_word t) (words t)

pub words-none : (t : Bytes) → all_of white t ≡ true → words t ≡ []
words-none t e = go (words t) (words-blank t ∙ ap not e)
  where
    go : (ws : Words) → non_empty ws ≡ false → ws ≡ []
    go [] f = refl
    go (w ∷ ws) f = unfold non_empty in absurd (true≢false f)

-- ---- a run by a loop: every byte from the start up to i passes the test

pub record Scan (test : ℕ → Bool) (s : Bytes) (from i : ℕ) : Type 0 where
  pub ahead : from ≤ i
  pub within : i ≤ length s
  pub whole : all_of test (part from i s) ≡ true

all_append : (test : ℕ → Bool) (t u : Bytes) → all_of test t ≡ true → all_of test u ≡ true → all_of test (t ++ u) ≡ true
unfolding all_of
all_append test [] u e f = f
all_append test (x ∷ t) u e f = go (test x) e (λ g. all_append test t u g f)
  where
    go : (b : Bool) → (b && all_of test t) ≡ true → (all_of test t ≡ true → all_of test (t ++ u) ≡ true) → (b && all_of test (t ++ u)) ≡ true
    go true g h = h g
    go false g h = absurd (false≢true g)

-- a part, one byte longer
pub part-next : (s : Bytes) (from i : ℕ) → from ≤ i → i < length s → part from (i + 1) s ≡ part from i s ++ (get_or s i 0 ∷ [])
part-next s from i f h =
    let k : i + 1 - from ≡ suc (i - from) = omega arith in
    let j : from + (i - from) ≡ i = omega arith in
    rw k (take-suc (drop from s) (i - from) 0 (omega (arith, length-drop from s)) ∙ rw (get_or-drop from s (i - from) 0, j))

pub scan-none : (test : ℕ → Bool) (s : Bytes) (from : ℕ) → from ≤ length s → Scan test s from from
unfolding all_of
scan-none test s from h = record { ahead = omega arith; within = h; whole = let k : from - from ≡ 0 = omega arith in rw k }

module _ {test : ℕ → Bool} {s : Bytes} {from i : ℕ} (m : Scan test s from i) where
  pub scan-next : i < length s → test (get_or s i 0) ≡ true → Scan test s from (i + 1)
  unfolding all_of
  scan-next h e = record {
    ahead = omega (arith, m.ahead);
    within = omega arith;
    whole = rw (part-next s from i m.ahead h) (all_append test (part from i s) (get_or s i 0 ∷ []) m.whole (rw e));
  }

  pub scan-here : i < length s → test (get_or s i 0) ≡ false → Run test s from i
  scan-here h e = record { ahead = m.ahead; within = m.within; whole = m.whole; ends = rw (lt-leb (length s) i h, e) }

  pub scan-end : length s ≤ i → Run test s from i
  scan-end h = record { ahead = m.ahead; within = m.within; whole = m.whole; ends = rw (le-leb (length s) i h) }

-- ---- `run_end`: the run goes up to the first other byte

run-of : (test : ℕ → Bool) (s : Bytes) → all_of test (take (prefix_len test s) s) ≡ true
unfolding all_of
run-of test [] = refl
run-of test (x ∷ s) = go (test x) refl (run-of test s)
  where
    go : (b : Bool) → test x ≡ b → all_of test (take (prefix_len test s) s) ≡ true → all_of test (take (cond b (1 + prefix_len test s) 0) (x ∷ s)) ≡ true
    go true e h = let n : 1 + prefix_len test s ≡ suc (prefix_len test s) = omega arith in rw (n, e) h
    go false e h = refl

pub run-is : {test : ℕ → Bool} {s : Bytes} {from n : ℕ} → from ≤ length s → n ≡ prefix_len test (drop from s) → Run test s from (from + n)
run-is {test} {s} {from} {n} h e =
    let l = prefix_len-le-length test (drop from s) in
    let d : from + n - from ≡ prefix_len test (drop from s) = omega arith in
    record {
      ahead = omega arith;
      within = omega (arith, length-drop from s);
      whole = rw d (run-of test (drop from s));
      ends = elim (dec_lt (from + n) (length s)) [ yes k ↦ inside k | no k ↦ rw (le-leb (length s) (from + n) (omega arith)) ];
    }
  where
    inside : from + n < length s → (leb (length s) (from + n) || not (test (get_or s (from + n) 0))) ≡ true
    inside k =
        let stop = prefix_len_stops test (drop from s) 0 (omega (arith, length-drop from s)) in
        rw (lt-leb (length s) (from + n) k, e, ← get_or-drop from s (prefix_len test (drop from s)) 0, stop)

-- ---- parts of a text, and where a run stops

-- the text from a place on is the part up to another, and what is behind that
pub part-rest : (s : Bytes) (from to : ℕ) → from ≤ to → drop from s ≡ part from to s ++ drop to s
part-rest s from to h =
    let k : from + (to - from) ≡ to = omega arith in
    sym (take-append-drop (to - from) (drop from s)) ∙ ap (λ (u : Bytes). take (to - from) (drop from s) ++ u) (drop-drop (to - from) from s ∙ rw k)

pub length_part : (s : Bytes) (from to : ℕ) → from ≤ to → to ≤ length s → length (part from to s) ≡ to - from
length_part s from to h l = length-take-le (to - from) (drop from s) (omega (arith, length-drop from s))

-- a run that ends within the text ends at a byte that does not pass
pub run-stops : {test : ℕ → Bool} {s : Bytes} {from to : ℕ} → Run test s from to → to < length s → test (get_or s to 0) ≡ false
run-stops {test} {s} {from} {to} m h = go (leb (length s) to) (test (get_or s to 0)) (lt-leb (length s) to h) m.ends
  where
    go : (a b : Bool) → a ≡ false → (a || not b) ≡ true → b ≡ false
    go true b e f = absurd (true≢false e)
    go false true e f = absurd (false≢true f)
    go false false e f = refl
