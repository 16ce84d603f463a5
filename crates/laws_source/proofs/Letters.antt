-- The last case of the match of `adapt`, "cannot happen": no letter that passes the test before it comes to it, so whatever it gave, every word would be read as
-- it is without the case. And the rules read every word as the source does: the match is their axis of a letter, and the count of four sizes their order.
use Rattle.std.specs.Prelude.{◌≡◌, ℕ, suc, ◌<◌, Bool, not, ◌&&◌, ◌||◌, take, drop, leb, ℤ, pos, Option, None, Some}
use Rattle.std.proofs.Math.Path.{refl, sym}
use Rattle.std.proofs.Common.{ap, ◌∙◌, arith, lit≤}
use Rattle.std.specs.Bool.{beq}
use Rattle.std.proofs.Math.Bool.{true, false, cond}
use Rattle.std.proofs.lemmas.Bool.{false≢true}
use mathlib.Core.List.{List, [], ◌∷◌, map}
use borrow.Author.Tests.{eqb-true, eqb-false, ne_eqb}
use Rattle.std.proofs.Math.ListN.{length}
use Rattle.std.proofs.Math.Dec.{eqb}
use Rattle.rules.specs.Text.Ascii.{ascii}
use Rattle.rules.specs.Text.Lists.{any_of, all_of, kept}
use Rattle.rules.specs.Text.Bytes.{Bytes, same}
use Rattle.rules.specs.Text.Decimal.{signed}
use Rattle.rules.specs.Operators.Arguments.{size, is_distinct, is_order}
use Rattle.rules.specs.Operators.Adapt.{Word, place_in, axis, ending, word_of, word}
use Rattle.laws_lists.specs.Tests.{never, and_left, and_right, same-is, beq-is, below, below_at}
use Rattle.laws_lists.specs.Lists.{Every}
use Rattle.laws_source.specs.Strings.{ends}
use Rattle.laws_source.specs.Descriptor.{is_designator, matched, is_last_case, dd, ahead, indices_by, indices, ahead_if, indices_without}
use Rattle.laws_source.specs.Descriptor.{good_angular, torad, count, counted_once, permutation, by_letters, described}
use Rattle.laws_source.specs.Descriptor.{coordinate_order_descriptor, coordinate_order_descriptor_without}

-- ---- a letter

-- what holds of each of some bytes holds of one among them
among : (P : ℕ → Type 0) (d : ℕ) (l : Bytes) → Every P l → any_of (eqb d) l ≡ true → P d
unfolding Every any_of
among P d [] h e = absurd (false≢true e)
among P d (k ∷ l) h e = go (eqb d k) refl e (among P d l h.1)
  where
    go : (b : Bool) → eqb d k ≡ b → b || any_of (eqb d) l ≡ true → (any_of (eqb d) l ≡ true → P d) → P d
    go true f e again = rw (eqb-true d k f) h.0
    go false f e again = again e

-- what holds of the eight letters holds of every one that passes the test
module _ (P : ℕ → Type 0) (w : P 119) (s : P 115) (d : P 100) (p : P 112) (e : P 101) (n : P 110) (u : P 117) (f : P 102) where
  eight : (x : ℕ) → is_designator x ≡ true → P x
  unfolding is_designator ascii
  eight x h = among P x (ascii "neufswdp") (unfold Every ascii in (n, (e, (u, (f, (s, (w, (d, (p, tt))))))))) h

-- a letter that does not pass it is none of them
other : (d : ℕ) → is_designator d ≡ false → (k : ℕ) → is_designator k ≡ true → eqb d k ≡ false
other d h k f = go (eqb d k) refl
  where
    go : (b : Bool) → eqb d k ≡ b → b ≡ false
    go true e = absurd (false≢true (sym h ∙ ap is_designator (eqb-true d k e) ∙ f))
    go false e = refl

module _ (d : ℕ) where
  module _ {A : Type 0} (arm : ℤ → A) (last : A) where
    -- a letter that passes the test has an arm, whatever the arms and the last case are
    in-an-arm : is_designator d ≡ true → matched arm last d ≡ arm (axis d)
    unfolding matched axis place_in signed ascii
    in-an-arm h = eight (λ d. matched arm last d ≡ arm (axis d)) refl refl refl refl refl refl refl refl d h

    -- and one that does not has none
    in-no-arm : is_designator d ≡ false → matched arm last d ≡ last
    unfolding is_designator matched any_of ascii
    in-no-arm h =
        let no = other d h in
        rw (no 119 refl, no 115 refl, no 100 refl, no 112 refl, no 101 refl, no 110 refl, no 117 refl, no 102 refl)

  -- no letter that passes the test comes to the last case
  pub last-case : is_designator d ≡ true → is_last_case d ≡ false
  unfolding is_last_case
  last-case h = in-an-arm (λ (x : ℤ). false) true h

  -- the number of a letter that passes the test is the rules' axis, whatever the last case gives
  number-known : (last : ℤ) → is_designator d ≡ true → dd last d ≡ axis d
  unfolding dd
  number-known last h = in-an-arm (λ (x : ℤ). x) last h

  -- and the axis of one that does not pass it is 0, which the last case gives
  axis-unknown : is_designator d ≡ false → axis d ≡ pos 0
  unfolding is_designator any_of axis place_in signed ascii
  axis-unknown h =
      let no = other d h in
      rw (no 101 refl, no 110 refl, no 117 refl, no 102 refl, no 119 refl, no 115 refl, no 100 refl, no 112 refl)

  -- so the match, its last case included, is the rules' axis of a letter
  pub dd-axis : dd (pos 0) d ≡ axis d
  dd-axis = go (is_designator d) refl
    where
      go : (b : Bool) → is_designator d ≡ b → dd (pos 0) d ≡ axis d
      go true h = number-known (pos 0) h
      go false h = unfold dd in in-no-arm (λ (x : ℤ). x) (pos 0) h ∙ sym (axis-unknown h)

-- ---- the loop

-- its answer, whatever the last case gives: the axes of the letters, if each of them passes the test
indices-are : (last : ℤ) (t : Bytes) → indices_by last t ≡ cond (all_of is_designator t) (Some (map axis t)) None
unfolding indices_by all_of
indices-are last [] = refl
indices-are last (d ∷ t) = rw (indices-are last t) (go (is_designator d) refl (all_of is_designator t))
  where
    go : (b : Bool) → is_designator d ≡ b → (c : Bool)
        → cond (not b) None (ahead (dd last d) (cond c (Some (map axis t)) None)) ≡ cond (b && c) (Some (axis d ∷ map axis t)) None
    go true h true = unfold ahead in rw (number-known d last h) refl
    go true h false = unfold ahead in refl
    go false h c = refl

-- without the last case it is the same
without-are : (t : Bytes) → indices_without t ≡ cond (all_of is_designator t) (Some (map axis t)) None
unfolding indices_without all_of
without-are [] = refl
without-are (d ∷ t) = rw (without-are t) (go (is_designator d) refl (all_of is_designator t))
  where
    go : (b : Bool) → is_designator d ≡ b → (c : Bool)
        → cond (not b) None (ahead_if (matched Some None d) (cond c (Some (map axis t)) None)) ≡ cond (b && c) (Some (axis d ∷ map axis t)) None
    go true h true = rw (in-an-arm d Some None h) (unfold ahead_if ahead in refl)
    go true h false = rw (in-an-arm d Some None h) (unfold ahead_if ahead in refl)
    go false h c = refl

-- ---- no word reaches the last case: whatever it gave, every word is read as it is without the case

pub last-case-unreached : (last : ℤ) (desc : Bytes) → described (indices_by last) desc ≡ coordinate_order_descriptor_without desc
unfolding described coordinate_order_descriptor_without
last-case-unreached last desc = rw (indices-are last (take 4 desc), without-are (take 4 desc)) refl

pub descriptor-without : (desc : Bytes) → coordinate_order_descriptor desc ≡ coordinate_order_descriptor_without desc
unfolding coordinate_order_descriptor described indices
descriptor-without desc = last-case-unreached (pos 0) desc

-- ---- four letters: the source's count is the rules' order

-- of four sizes: each of 1 to 4 is counted once exactly where they are an order
alike : (a b c d : ℕ) → Bool
alike a b c d = let l = pos a ∷ pos b ∷ pos c ∷ pos d ∷ [] in beq (is_order l) (counted_once l)

-- up to 4 it is a finite table, which is computed
table : below 5 (λ a. below 5 (λ b. below 5 (λ c. below 5 (λ d. alike a b c d)))) ≡ true
unfolding below alike is_order is_distinct all_of any_of counted_once count kept
table = refl

-- a count is a matter of sizes alone, as an order is
count-sizes : (k : ℕ) (l : List ℤ) → count k l ≡ count k (map (λ (x : ℤ). pos (size x)) l)
unfolding count kept
count-sizes k [] = refl
count-sizes k (x ∷ l) = go (eqb (size x) k) _ _ (count-sizes k l)
  where
    go : (b : Bool) (m n : List ℤ) → length m ≡ length n → length (cond b (x ∷ m) m) ≡ length (cond b (pos (size x) ∷ n) n)
    go true m n e = ap suc e
    go false m n e = e

-- four numbers of a size up to 4 are an order exactly where each size is counted once
order-count : (a b c d : ℤ) → size a < 5 → size b < 5 → size c < 5 → size d < 5
    → is_order (a ∷ b ∷ c ∷ d ∷ []) ≡ counted_once (a ∷ b ∷ c ∷ d ∷ [])
unfolding is_order is_distinct all_of any_of counted_once
order-count a b c d ha hb hc hd =
    let l = a ∷ b ∷ c ∷ d ∷ [] in
    let same = below_at 5 _ (below_at 5 _ (below_at 5 _ (below_at 5 _ table (size a) ha) (size b) hb) (size c) hc) (size d) hd in
    rw (count-sizes 1 l, count-sizes 2 l, count-sizes 3 l, count-sizes 4 l)
    (beq-is _ _ (unfold alike in same))

axis-small : (d : ℕ) → size (axis d) < 5
axis-small d = go (is_designator d) refl
  where
    known : is_designator d ≡ true → size (axis d) < 5
    known h =
        unfold axis place_in signed ascii in
        eight (λ d. size (axis d) < 5) (lit≤ tt) (lit≤ tt) (lit≤ tt) (lit≤ tt) (lit≤ tt) (lit≤ tt) (lit≤ tt) (lit≤ tt) d h

    go : (b : Bool) → is_designator d ≡ b → size (axis d) < 5
    go true h = known h
    go false h = rw (axis-unknown d h) (lit≤ tt)

-- where a letter does not pass the test its axis is 0, and the axes are no order
sized-known : (n : ℕ) (t : Bytes) → all_of (λ (x : ℤ). leb 1 (size x) && leb (size x) n) (map axis t) ≡ true → all_of is_designator t ≡ true
unfolding all_of
sized-known n [] h = refl
sized-known n (d ∷ t) h =
    let x = axis d in
    rw (go (is_designator d) refl (and_left (leb 1 (size x)) _ (and_left (leb 1 (size x) && leb (size x) n) _ h)))
    (sized-known n t (and_right (leb 1 (size x) && leb (size x) n) _ h))
  where
    go : (b : Bool) → is_designator d ≡ b → leb 1 (size (axis d)) ≡ true → b ≡ true
    go true f e = refl
    go false f e = absurd (false≢true (rw (axis-unknown d f) at e))

order-known : (t : Bytes) → is_order (map axis t) ≡ true → all_of is_designator t ≡ true
unfolding is_order
order-known t h =
    let n = length (map axis t) in
    sized-known n t (and_left _ (is_distinct (map axis t)) (and_right (leb n 4) _ (and_right (leb 1 n) _ h)))

-- four letters and an angle are read alike
module _ (a b c d angle : ℕ) where
  abbrev letters : Bytes
  letters = a ∷ b ∷ c ∷ d ∷ []

  axes-order : is_order (map axis letters) ≡ counted_once (map axis letters)
  axes-order = order-count (axis a) (axis b) (axis c) (axis d) (axis-small a) (axis-small b) (axis-small c) (axis-small d)

  four-alike : word_of (map axis letters) (Some angle) ≡ permutation angle (indices letters)
  unfolding word_of indices
  four-alike = rw (indices-are (pos 0) letters) (go (all_of is_designator letters) refl (is_order (map axis letters)) refl)
    where
      go : (known : Bool) → all_of is_designator letters ≡ known → (ordered : Bool) → is_order (map axis letters) ≡ ordered
          → cond ordered (Some (record { axes = map axis letters; angle = angle })) None ≡ permutation angle (cond known (Some (map axis letters)) None)
      go true h o e = unfold permutation counted_once in rw (← e, axes-order)
      go false h true e = absurd (false≢true (sym h ∙ order-known letters e))
      go false h false e = unfold permutation in refl

-- ---- the ending

-- texts of two lengths are not the same
other_length : (t u : Bytes) → eqb (length t) (length u) ≡ false → same t u ≡ false
other_length t u h = go (same t u) refl
  where
    go : (b : Bool) → same t u ≡ b → b ≡ false
    go true e = absurd (eqb-false (length t) (length u) h (ap length (same-is t u e)))
    go false e = refl

-- what is read of four letters, by their ending
by_ending : Option ℕ → Option (List ℤ) → Option Word
by_ending None l = None
by_ending (Some angle) l = permutation angle l

module _ (a b c d : ℕ) (l : Option (List ℤ)) where
  -- behind the letters neither nothing nor four bytes: no ending
  unended : (r : Bytes) → eqb (length r) 0 ≡ false → eqb (length r) 4 ≡ false → by_ending (ending r) l ≡ by_letters (a ∷ b ∷ c ∷ d ∷ r) l
  unfolding by_ending by_letters ending ascii
  unended r h k =
      let no : (u : Bytes) → eqb (length r) (length u) ≡ false → same r u ≡ false = other_length r in
      let n = length (a ∷ b ∷ c ∷ d ∷ r) in
      rw (no (ascii "_deg") k, no (ascii "_gon") k, no [] h, no (ascii "_rad") k, no (ascii "_any") k)
      (rw (ne_eqb n 4 (λ e. eqb-false (length r) 0 h (omega arith)), ne_eqb n 8 (λ e. eqb-false (length r) 4 k (omega arith))))

  -- four bytes: one of the four endings, or none of them
  four-behind : (p q s u : ℕ) → (let r = p ∷ q ∷ s ∷ u ∷ [] in by_ending (ending r) l ≡ by_letters (a ∷ b ∷ c ∷ d ∷ r) l)
  unfolding by_letters ending good_angular torad ends same ascii
  four-behind p q s u =
      let r : Bytes = p ∷ q ∷ s ∷ u ∷ [] in
      go (same r (ascii "_deg")) (same r (ascii "_gon")) (same r (ascii "_rad")) (same r (ascii "_any"))
    where
      go : (x y z w : Bool) → by_ending (cond x (Some 1) (cond y (Some 2) (cond (z || w) (Some 0) None))) l
          ≡ cond (not (x || (y || (z || w)))) None (permutation (cond x 1 (cond y 2 0)) l)
      go true y z w = unfold by_ending in refl
      go false true z w = unfold by_ending in refl
      go false false true w = unfold by_ending in refl
      go false false false true = unfold by_ending in refl
      go false false false false = unfold by_ending in refl

  ended : (r : Bytes) → by_ending (ending r) l ≡ by_letters (a ∷ b ∷ c ∷ d ∷ r) l
  ended [] = unfold by_ending by_letters ending torad same ascii in refl
  ended (p ∷ []) = unended (p ∷ []) refl refl
  ended (p ∷ q ∷ []) = unended (p ∷ q ∷ []) refl refl
  ended (p ∷ q ∷ s ∷ []) = unended (p ∷ q ∷ s ∷ []) refl refl
  ended (p ∷ q ∷ s ∷ u ∷ []) = four-behind p q s u
  ended (p ∷ q ∷ s ∷ u ∷ v ∷ r) =
      let t = p ∷ q ∷ s ∷ u ∷ v ∷ r in
      unended t (ne_eqb (length t) 0 (λ e. never (omega arith))) (ne_eqb (length t) 4 (λ e. never (omega arith)))

-- ---- the word

-- one that is not `pass`
plain-alike : (t : Bytes) → word_of (map axis (take 4 t)) (ending (drop 4 t)) ≡ by_letters t (indices (take 4 t))
plain-alike [] = unfold word_of ending same ascii by_letters in refl
plain-alike (a ∷ []) = unfold word_of ending same ascii by_letters in refl
plain-alike (a ∷ b ∷ []) = unfold word_of ending same ascii by_letters in refl
plain-alike (a ∷ b ∷ c ∷ []) = unfold word_of ending same ascii by_letters in refl
plain-alike (a ∷ b ∷ c ∷ d ∷ r) = go (ending r) ∙ ended a b c d (indices (a ∷ b ∷ c ∷ d ∷ [])) r
  where
    go : (o : Option ℕ) → word_of (axis a ∷ axis b ∷ axis c ∷ axis d ∷ []) o ≡ by_ending o (indices (a ∷ b ∷ c ∷ d ∷ []))
    go None = unfold word_of by_ending in refl
    go (Some angle) = unfold by_ending in four-alike a b c d angle

-- the rules read every word as the source does
pub word-is-descriptor : (t : Bytes) → word t ≡ coordinate_order_descriptor t
unfolding word coordinate_order_descriptor described by_letters
word-is-descriptor t = go (same t (ascii "pass"))
  where
    go : (b : Bool) → (let letters = cond b (ascii "enuf") t in word_of (map axis (take 4 letters)) (ending (drop 4 letters)))
        ≡ cond b (Some (record { axes = pos 1 ∷ pos 2 ∷ pos 3 ∷ pos 4 ∷ []; angle = 0 })) (by_letters t (indices (take 4 t)))
    go true = unfold word_of axis place_in signed ending same ascii is_order is_distinct all_of any_of in refl
    go false = plain-alike t
