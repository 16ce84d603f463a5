-- A series, piece by piece: what has been read of it after some of them.
use Rattle.std.specs.Prelude.{Option, None, Some}
use mathlib.Core.Path.{◌≡◌, refl, sym, ap, ◌∙◌}
use mathlib.Core.Bool.{Bool, true, false, cond, ◌&&◌, ◌||◌, and-false}
use mathlib.Core.List.{List, [], ◌∷◌, ◌++◌, append-nil, map, map-append}
use Prim.Native.Nat.{ℕ, zero, suc, ◌+◌, ◌-◌, ◌≤◌, ◌<◌}
use native.Mathlib.Decide.{dec_lt}
use native.Mathlib.Numerals.{add-one}
use native.Mathlib.Omega.{arith}
use borrow.Author.Tests.{leb-true, le-ltb, lt-ltb, le-leb, lt-leb, eq-eqb, ne_eqb}
use lib.ListN.{length, take, drop, set, replicate, length-append, length-set}
use lib.Seq.{take-suc-set, take_all, take-append-le, set_out, append_snoc, drop-set-lt, drop-drop}
use lib.Dec.{leb}
use lib.IntN.{ℤ, pos}
use Rattle.rules.specs.Text.Ascii.{is}
use Rattle.rules.specs.Text.Lists.{any_of, all_of, is_none}
use Rattle.rules.specs.Text.Bytes.{Bytes, before, behind, onto, cut}
use Rattle.rules.specs.Text.Decimal.{decimal, pieces, number_then, all_numbers, series, is_number, broken_from, signed, is_whole, whole_of}
use Rattle.rules.specs.Operators.Arguments.{size, wholes}
use Rattle.rules.specs.Pipeline.Record.{nine_digits}
use Rattle.rules.specs.Text.Reader.{part}
use Rattle.rules.specs.declared.Decimal.{Decimal}
use Rattle.laws_lists.specs.Tests.{never}
use Rattle.laws_records.specs.Series.{size-signed, decimal-nine}
use Rattle.text.specs.Runs.{Run}
use Rattle.text.proofs.RunEnd.{other, length_part}
use Rattle.parameters.proofs.Cut.{run-before, run-behind, run-any, run_none}
use Rattle.prepare.specs.SeriesRead.{lowest, Reads}

-- ---- the pieces

-- those from a place on: there are none behind the last
unfoldable pub left : Bytes → ℕ → List Bytes
left v at = cond (leb at (length v)) (cut (is ",") (drop at v)) []

cut-is : (test : ℕ → Bool) (t : Bytes) → cut test t ≡ before test t ∷ cond (any_of test t) (cut test (behind test t)) []
unfolding cut before behind any_of onto
cut-is test [] = refl
cut-is test (x ∷ t) = go (test x) (cut-is test t)
  where
    go : (b : Bool) → cut test t ≡ before test t ∷ cond (any_of test t) (cut test (behind test t)) []
        → cond b ([] ∷ cut test t) (onto x (cut test t)) ≡ cond b [] (x ∷ before test t) ∷ cond (b || any_of test t) (cut test (cond b t (behind test t))) []
    go true h = refl
    go false h = ap (onto x) h

left-first : (v : Bytes) → left v 0 ≡ pieces v
unfolding left pieces
left-first v = rw (le-leb 0 (length v) (omega arith))

left-none : (v : Bytes) (at : ℕ) → length v < at → left v at ≡ []
unfolding left
left-none v at h = rw (lt-leb at (length v) h)

left-more : {v : Bytes} {at e : ℕ} → at ≤ length v → Run (other (is ",")) v at e → left v at ≡ part at e v ∷ left v (e + 1)
unfolding left
left-more {v} {at} {e} h m =
    rw (le-leb at (length v) h)
    (cut-is (is ",") (drop at v) ∙ rw (run-before (is ",") m) (ap (λ (r : List Bytes). part at e v ∷ r) (elim (dec_lt e (length v)) [ yes l ↦ inside l | no l ↦ outside (omega arith) ])))
  where
    inside : e < length v → cond (any_of (is ",") (drop at v)) (cut (is ",") (behind (is ",") (drop at v))) [] ≡ cond (leb (e + 1) (length v)) (cut (is ",") (drop (e + 1) v)) []
    inside l = let k : e + 1 ≤ length v = omega arith in rw (run-any (is ",") m l, run-behind (is ",") m l, le-leb (e + 1) (length v) k)

    outside : length v ≤ e → cond (any_of (is ",") (drop at v)) (cut (is ",") (behind (is ",") (drop at v))) [] ≡ cond (leb (e + 1) (length v)) (cut (is ",") (drop (e + 1) v)) []
    outside l = let k : length v < e + 1 = omega arith in rw (run_none (is ",") m l, lt-leb (e + 1) (length v) k)

-- the first that breaks decimal form: here, or behind one that does not
broken-here : (p : Bytes) (ps : List Bytes) → decimal p ≡ None → broken_from (p ∷ ps) ≡ 0
unfolding broken_from is_number
broken-here p ps e = rw e

broken-behind : (p : Bytes) (ps : List Bytes) (d : Decimal) → decimal p ≡ Some d → broken_from (p ∷ ps) ≡ length p + 1 + broken_from ps
unfolding broken_from is_number
broken-behind p ps d e = rw e

-- ---- numbers in front of others

unfoldable pub prefixed : List Decimal → Option (List Decimal) → Option (List Decimal)
prefixed ds None = None
prefixed ds (Some es) = Some (ds ++ es)

prefixed-none : (r : Option (List Decimal)) → r ≡ prefixed [] r
unfolding prefixed
prefixed-none None = refl
prefixed-none (Some es) = refl

prefixed-more : (ds : List Decimal) (d : Decimal) (r : Option (List Decimal)) → prefixed ds (number_then (Some d) r) ≡ prefixed (ds ++ (d ∷ [])) r
unfolding prefixed number_then
prefixed-more ds d None = refl
prefixed-more ds d (Some es) = ap Some (sym (append_snoc ds d es))

all_snoc : {A : Type 0} (p : A → Bool) (l : List A) (x : A) → all_of p (l ++ (x ∷ [])) ≡ (all_of p l && p x)
unfolding all_of
all_snoc p [] x = and-true (p x)
  where
    and-true : (b : Bool) → (b && true) ≡ b
    and-true true = refl
    and-true false = refl
all_snoc p (y ∷ l) x = go (p y) (all_snoc p l x)
  where
    go : (b : Bool) → all_of p (l ++ (x ∷ [])) ≡ (all_of p l && p x) → (b && all_of p (l ++ (x ∷ []))) ≡ ((b && all_of p l) && p x)
    go true h = h
    go false h = refl

-- ---- the loop

-- the first n pieces are numbers, and the first eight of these stand in the list, with zeros behind them; the other pieces begin at `at`
pub record Reading (v : Bytes) (list : List ℤ) (whole : Bool) (n at : ℕ) : Type 0 where
  pub within : at ≤ length v + 1
  pub few : n ≤ at
  pub size : length list ≡ 8
  pub done : List Decimal
  pub count : length done ≡ n
  pub kept : take n list ≡ map whole_of (take 8 done)
  pub zeros : drop n list ≡ replicate (8 - n) (pos 0)
  pub all_whole : whole ≡ all_of is_whole done
  pub numbers : series v ≡ prefixed done (all_numbers (left v at))
  pub many : length (pieces v) ≡ n + length (left v at)
  pub passed : broken_from (pieces v) ≡ at + broken_from (left v at)

pub reading-none : (v : Bytes) → Reading v (replicate 8 (pos 0)) true 0 0
unfolding series all_of
reading-none v = record {
  within = omega arith;
  few = omega arith;
  size = refl;
  done = [];
  count = refl;
  kept = refl;
  zeros = refl;
  all_whole = refl;
  numbers = rw (left-first v) (prefixed-none (all_numbers (pieces v)));
  many = rw (left-first v) (omega arith);
  passed = rw (left-first v) (omega arith);
}

-- the next number stands in the list, if there is room
module _ (list : List ℤ) (n : ℕ) (x : ℤ) (s : length list ≡ 8) where
  kept_more : (done : List Decimal) (d : Decimal) → x ≡ whole_of d → length done ≡ n → take n list ≡ map whole_of (take 8 done)
      → take (n + 1) (set list n x) ≡ map whole_of (take 8 (done ++ (d ∷ [])))
  kept_more done d e c h = elim (dec_lt n 8) [ yes l ↦ room l | no l ↦ full (omega arith) ]
    where
      room : n < 8 → take (n + 1) (set list n x) ≡ map whole_of (take 8 (done ++ (d ∷ [])))
      room l =
          let a : take (n + 1) (set list n x) ≡ take n list ++ (x ∷ []) = rw (add-one n) (take-suc-set list n x (omega arith)) in
          let b : take 8 (done ++ (d ∷ [])) ≡ done ++ (d ∷ []) = take_all 8 (done ++ (d ∷ [])) (omega (arith, length-append done (d ∷ []))) in
          let f : take 8 done ≡ done = take_all 8 done (omega arith) in
          rw (a, b, map-append whole_of done (d ∷ []), h, f, e)

      full : 8 ≤ n → take (n + 1) (set list n x) ≡ map whole_of (take 8 (done ++ (d ∷ [])))
      full l =
          let a : set list n x ≡ list = set_out list n x (omega arith) in
          let b : take (n + 1) list ≡ list = take_all (n + 1) list (omega arith) in
          let f : take n list ≡ list = take_all n list (omega arith) in
          let g : take 8 (done ++ (d ∷ [])) ≡ take 8 done = take-append-le 8 done (d ∷ []) (omega arith) in
          rw (a, b, g, ← h, f)

  pub zeros-more : drop n list ≡ replicate (8 - n) (pos 0) → drop (n + 1) (set list n x) ≡ replicate (8 - (n + 1)) (pos 0)
  zeros-more h =
      drop-set-lt (n + 1) list n x (omega arith)
      ∙ sym (drop-drop 1 n list)
      ∙ ap (drop 1) h
      ∙ fewer (8 - n)
      ∙ ap (λ (k : ℕ). replicate k (pos 0)) (less n)
    where
      fewer : (k : ℕ) → drop 1 (replicate k (pos 0)) ≡ replicate (k - 1) (pos 0)
      fewer zero = refl
      fewer (suc k) = let e : k ≡ suc k - 1 = omega arith in ap (λ (j : ℕ). replicate j (pos 0)) e

      less : (n : ℕ) → 8 - n - 1 ≡ 8 - (n + 1)
      less n = omega arith

module _ {v : Bytes} {list : List ℤ} {whole : Bool} {n at : ℕ} (m : Reading v list whole n at) where
  module _ {e : ℕ} (h : at ≤ length v) (p : Run (other (is ",")) v at e) where
    pub piece-not : decimal (part at e v) ≡ None → (from : ℕ) {list' : List ℤ} {whole' : Bool} {n' : ℕ}
        → Reads v from (record { number = 12; at = from + at; whole = whole'; args = record { list = list'; n = n' } })
    unfolding all_numbers number_then prefixed lowest is_none
    piece-not f from =
        let z : series v ≡ None = m.numbers ∙ rw (left-more h p, f) in
        let b : broken_from (left v at) ≡ 0 = ap broken_from (left-more h p) ∙ broken-here (part at e v) (left v (e + 1)) f in
        record {
          number = sym (rw z);
          at = λ k. omega (arith, m.passed, b);
          good = λ k. absurd (never (omega arith));
          args = λ k. absurd (never (omega arith));
        }

    pub reading-more : {d : Decimal} {x : ℤ} {list' : List ℤ} {whole' : Bool} → decimal (part at e v) ≡ Some d → x ≡ signed d.minus d.whole
        → list' ≡ set list n x → whole' ≡ (whole && is_whole d)
        → Reading v list' whole' (n + 1) (e + 1)
    unfolding all_numbers whole_of
    reading-more {d} {x} f q g w = record {
      within = omega (arith, p.within);
      few = omega (arith, m.few, p.ahead);
      size = ap length g ∙ length-set list n x ∙ m.size;
      done = m.done ++ (d ∷ []);
      count = omega (arith, length-append m.done (d ∷ []), m.count);
      kept = rw g (kept_more list n x m.size m.done d q m.count m.kept);
      zeros = rw g (zeros-more list n x m.size m.zeros);
      all_whole = w ∙ rw m.all_whole (sym (all_snoc is_whole m.done d));
      numbers = m.numbers ∙ rw (left-more h p, f) (prefixed-more m.done d (all_numbers (left v (e + 1))));
      many = m.many ∙ rw (left-more h p) (omega arith);
      passed =
          let b = ap broken_from (left-more h p) ∙ broken-behind (part at e v) (left v (e + 1)) d f in
          omega (arith, m.passed, b, length_part v at e p.ahead p.within, p.ahead);
    }

  module _ (h : length v < at) where
    all_read : series v ≡ Some m.done
    unfolding all_numbers prefixed
    all_read = m.numbers ∙ rw (left-none v at h) (ap Some (append-nil m.done))

    so-many : length (pieces v) ≡ n
    so-many = m.many ∙ rw (left-none v at h) (omega arith)

    pub reading-many : 8 < n → (from : ℕ) → Reads v from (record { number = 13; at = 0; whole = whole; args = record { list = list; n = n } })
    unfolding lowest is_none
    reading-many l from =
        let k : 8 < length (pieces v) = omega (arith, so-many) in
        record {
          number = sym (rw (all_read, lt-ltb 8 (length (pieces v)) k));
          at = λ k. absurd (never (omega arith));
          good = λ k. absurd (never (omega arith));
          args = λ k. absurd (never (omega arith));
        }

    pub reading-well : n ≤ 8 → (from : ℕ) → Reads v from (record { number = 14; at = 0; whole = whole; args = record { list = list; n = n } })
    unfolding lowest is_none wholes
    reading-well l from =
        let k : length (pieces v) ≤ 8 = omega (arith, so-many) in
        let e : take 8 m.done ≡ m.done = take_all 8 m.done (omega (arith, m.count)) in
        let w : take n list ≡ map whole_of m.done = m.kept ∙ rw e in
        record {
          number = sym (rw (all_read, le-ltb 8 (length (pieces v)) k));
          at = λ k. absurd (never (omega arith));
          good = λ _. record { fits = l; size = m.size; zeros = m.zeros };
          args = λ _ rule. rw (all_read, w, m.all_whole);
        }

-- ---- one number

-- it has nine digits at most
pub digits-fit : (p : Bytes) (d : Decimal) → decimal p ≡ Some d → d.whole ≤ 999999999
unfolding whole_of
digits-fit p d h = rw (size-signed d.minus d.whole) at (nine-so (decimal-nine p d h))
  where
    nine-so : nine_digits (whole_of d) ≡ true → size (whole_of d) ≤ 999999999
    nine-so h = unfold nine_digits in leb-true (size (whole_of d)) 999999999 h

-- the list and the mark after it
pub list-room : (list : List ℤ) (n : ℕ) (x : ℤ) → length list ≡ 8 → 8 ≤ n → list ≡ set list n x
list-room list n x s h = sym (set_out list n x (omega arith))

pub mark-part : (whole : Bool) (d : Decimal) → (d.millionths ≡ 0 → ⊥) → false ≡ (whole && is_whole d)
unfolding is_whole
mark-part whole d n = sym (rw (ne_eqb d.millionths 0 n) (and-false whole))

pub mark-whole : (whole : Bool) (d : Decimal) → d.millionths ≡ 0 → whole ≡ (whole && is_whole d)
unfolding is_whole
mark-whole whole d e = rw (eq-eqb d.millionths 0 e) (go whole)
  where
    go : (b : Bool) → b ≡ (b && true)
    go true = refl
    go false = refl
