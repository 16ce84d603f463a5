-- What each operator's file of laws owes the rest: by its name, that what its parameters choose keeps the rule on its arguments; by its
-- number, that the words of its arguments can be read, and that reading them gives the record again. And what these files share.
use Rattle.std.specs.Prelude.{◌≡◌, ℕ, suc, ◌+◌, ◌≤◌, Bool, cond, ◌&&◌, ◌||◌, ltb, ℤ, Option, None, Some}
use Rattle.std.proofs.Math.Path.{refl}
use Rattle.std.proofs.Common.{ap, lit≤}
use Prim.Native.String.{String}
use Rattle.std.proofs.Math.Bool.{true, false}
use mathlib.Core.List.{List, [], ◌∷◌, ◌++◌, map, map-append}
use native.Mathlib.Omega.{arith}
use borrow.Author.Tests.{le-ltb, ltb-false}
use Rattle.std.proofs.Math.ListN.{length, length-append, length-map}
use Rattle.rules.specs.Text.Ascii.{ascii, is}
use Rattle.rules.specs.Text.Lists.{any_of, all_of, is_none}
use Rattle.rules.specs.Text.Bytes.{Bytes, Words, same, before, behind}
use Rattle.rules.specs.Text.Split.{modifier}
use Rattle.rules.specs.Text.Refusal.{Reply, answers}
use Rattle.rules.specs.Text.Parameters.{Parameter, parameter, name, entered_all}
use Rattle.rules.specs.Text.Decimal.{pieces, series, is_whole, whole_of}
use Rattle.rules.specs.Operators.Arguments.{value_of, wholes, spelling, listing, key_value}
use Rattle.rules.specs.Operators.Descriptions.{Operator, Chosen}
use Rattle.rules.specs.Operators.Table.{is_args, is_of_mode, wording_of}
use Rattle.rules.specs.Pipeline.Record.{operator, args, nine_digits}
use Rattle.rules.specs.Pipeline.Keys.{kind_of, too_long}
use Rattle.rules.specs.Pipeline.Prepare.{judged}
use Rattle.rules.specs.Pipeline.Write.{name_word, arg_words, mark_words}
use Rattle.rules.specs.declared.Decimal.{Decimal}
use Rattle.rules.specs.declared.Mode.{Mode}
use Rattle.rules.specs.declared.Mode.TheVariants as mode-is
use Rattle.rules.specs.declared.Step.{Step}
use Rattle.rules.specs.declared.Name.{Name}
use Rattle.rules.specs.declared.Kind.TheVariants.{Series}
use Rattle.laws_lists.specs.Tests.{and_right, or_left, or_right, same-is, never, below}
use Rattle.laws_records.specs.Calm.{known, firm, so}
use Rattle.laws_records.specs.Settled.{lacks, lacking, before-none}
use Rattle.laws_records.specs.Given.{chosen, table_from}
use Rattle.laws_records.specs.Numbers.{listing-pieces, listing-series}
use Rattle.laws_records.specs.Worded.{worded}
use Rattle.laws_records.specs.Sayings.{pair-worded, listing-worded, listing-lacks, total, joined-total}
use Rattle.laws_records.specs.Series.{series-read}
use Rattle.laws_records.specs.Kept.{Kept}
use Rattle.laws_records.specs.Records.{IsMade, marks_of, mark-words}

-- ---- by its name

-- no series of its parameters is too long
abbrev pub Short : Name → List Parameter → Type 0
Short n ps = any_of (λ (p : Parameter). too_long (kind_of n p) p.value) ps ≡ false

-- what its parameters choose in a mode: an operator of that mode, and arguments that keep its rule
pub record Well (mode : Mode) (c : Chosen) : Type 0 where
  pub kept : Kept c.operator c.arguments
  pub of-mode : is_of_mode mode c.operator ≡ true

-- an operator that both modes make
pub both-modes : (o : Operator) → is_of_mode mode-is.Crate o ≡ true → is_of_mode mode-is.Documented o ≡ true → (mode : Mode) → is_of_mode mode o ≡ true
both-modes o h k mode-is.Crate = h
both-modes o h k mode-is.Documented = k

abbrev pub KeepsRule : Name → Type 0
KeepsRule n = (mode : Mode) (ps : List Parameter) → Short n ps → (c : Chosen) → (wording_of n).chosen mode ps ≡ Some c → Well mode c

-- the value of a key has passed what every parameter has passed
value-passed : (test : Parameter → Bool) (k v : Bytes) (ps : List Parameter) → value_of k ps ≡ Some v → any_of test ps ≡ false → test (record { key = k; value = v }) ≡ false
unfolding value_of any_of
value-passed test k v [] h e = absurd (never (cc h))
value-passed test k v (p ∷ ps) h e = go (same k p.key) refl (value-passed test k v ps) h
  where
    go : (b : Bool) → same k p.key ≡ b → (value_of k ps ≡ Some v → any_of test ps ≡ false → test (record { key = k; value = v }) ≡ false)
        → cond b (Some p.value) (value_of k ps) ≡ Some v → test (record { key = k; value = v }) ≡ false
    go true f ih h = let w : p.value ≡ v = cc h in rw (same-is k p.key f, ← w) (or_left (test p) (any_of test ps) e)
    go false f ih h = ih h (or_right (test p) (any_of test ps) e)

-- the numbers of a series that keep the operator's rule
module _ (n : Name) (ps : List Parameter) (short : Short n ps) where
  pub wholes-kept : (o : Operator) (key v : Bytes) → kind_of n (record { key = key; value = v }) ≡ Some Series → value_of key ps ≡ Some v
      → (l : List ℤ) → wholes (is_args o) (series v) ≡ Some l → Kept o l
  unfolding wholes too_long
  wholes-kept o key v k e l h = go (series v) refl h
    where
      few : length (pieces v) ≤ 8
      few = ltb-false 8 (length (pieces v)) (rw k at (value-passed (λ (p : Parameter). too_long (kind_of n p) p.value) key v ps e short))

      go : (r : Option (List Decimal)) → series v ≡ r → wholes (is_args o) r ≡ Some l → Kept o l
      go None f h = absurd (never (cc h))
      go (Some ds) f h = ok (all_of is_whole ds && is_args o (map whole_of ds)) refl h
        where
          ok : (b : Bool) → (all_of is_whole ds && is_args o (map whole_of ds)) ≡ b → cond b (Some (map whole_of ds)) None ≡ Some l → Kept o l
          ok false g h = absurd (never (cc h))
          ok true g h =
              let r = series-read v ds f in
              let same : map whole_of ds ≡ l = cc h in
              rw (← same)
              (record {
                fit = omega (arith, length-map ds whole_of, r.many, few);
                nines = r.nines;
                rule = and_right (all_of is_whole ds) (is_args o (map whole_of ds)) g;
              })

-- ---- by its number

-- the words of its arguments: each can be read, they are few, and with the name they are short
pub record Says (o : Operator) (l : List ℤ) : Type 0 where
  pub each : all_of worded (arg_words o l) ≡ true
  pub few : length (arg_words o l) ≤ 8
  pub short : total (name_word o ∷ arg_words o l) ≤ 39

-- what judging makes of a step's words
abbrev pub words_judged : Mode → Step → Bytes → Words → Reply Step
words_judged mode s w ws = judged mode (entered_all (name w ∷ map parameter (ws ++ mark_words s)) [])

-- a name is a word that can be read, that is no modifier, and that has no value
pub record PlainName (w : Bytes) : Type 0 where
  pub reads : worded w ≡ true
  pub no-modifier : modifier w ≡ false
  pub no_value : any_of (is "=") w ≡ false

pub record HasText (o : Operator) : Type 0 where
  pub named : PlainName (name_word o)
  pub says : (l : List ℤ) → length l ≤ 8 → all_of nine_digits l ≡ true → is_args o l ≡ true → Says o l
  -- judging the words of a record, in a mode that makes it, gives the record
  pub again : (mode : Mode) → is_of_mode mode o ≡ true → (s : Step) → IsMade s → operator s ≡ o → words_judged mode s (name_word o) (arg_words o (args s)) ≡ answers s

-- where the parameters of its own words are known
pub by-own : (mode : Mode) (s : Step) (w : Bytes) (ws : Words) (own : List Parameter) → map parameter ws ≡ own → judged mode (table_from w own (marks_of s)) ≡ answers s → words_judged mode s w ws ≡ answers s
unfolding table_from
by-own mode s w ws own e h = rw (mark-words s, map-append parameter ws (chosen (marks_of s)), e) h

-- ---- a single word

pub one-says : (o : Operator) (l : List ℤ) (w : Bytes) → arg_words o l ≡ w ∷ [] → worded w ≡ true → total (name_word o ∷ w ∷ []) ≤ 39 → Says o l
one-says o l w e h t = record { each = rw e (unfold all_of in rw h); few = rw e (lit≤ tt); short = rw e t }

-- ---- `key=value`

module _ (test : ℕ → Bool) (b : ℕ) (r : Bytes) (t : test b ≡ true) where
  any_at : (k : Bytes) → any_of test (k ++ (b ∷ r)) ≡ true
  unfolding any_of
  any_at [] = rw t
  any_at (x ∷ k) = rw (any_at k) (go (test x))
    where
      go : (c : Bool) → c || true ≡ true
      go true = refl
      go false = refl

  before_at : (k : Bytes) → any_of test k ≡ false → before test (k ++ (b ∷ r)) ≡ k
  unfolding any_of before
  before_at [] h = rw t
  before_at (x ∷ k) h = rw (or_left (test x) (any_of test k) h) (ap (λ (u : Bytes). x ∷ u) (before_at k (or_right (test x) (any_of test k) h)))

  behind-at : (k : Bytes) → any_of test k ≡ false → behind test (k ++ (b ∷ r)) ≡ r
  unfolding any_of behind
  behind-at [] h = rw t
  behind-at (x ∷ k) h = rw (or_left (test x) (any_of test k) h) (behind-at k (or_right (test x) (any_of test k) h))

-- the parameter of a key and its value
unfoldable pub keyed : String → Bytes → Parameter
keyed key v = record { key = ascii key; value = v }

pub parameter-pair : (key : String) (v : Bytes) → lacks (is "=") (ascii key) ≡ true → lacks (is "=") v ≡ true → parameter (key_value key v) ≡ keyed key v
unfolding parameter key_value keyed
parameter-pair key v h k =
    let a = lacking (is "=") (ascii key) h in
    rw (any_at (is "=") 61 v refl (ascii key), before_at (is "=") 61 v refl (ascii key) a, behind-at (is "=") 61 v refl (ascii key) a, before-none (is "=") v (lacking (is "=") v k))

-- ---- a key whose value is a list of numbers

pair-short : (w : Bytes) (key : String) (x : ℤ) (l : List ℤ) → length w + length (ascii key) ≤ 13 → total (map spelling (x ∷ l)) ≤ 24
    → total (w ∷ key_value key (listing (x ∷ l)) ∷ []) ≤ 39
unfolding total key_value listing
pair-short w key x l n h =
    let v = length (listing (x ∷ l)) in
    let e : suc v ≡ total (map spelling (x ∷ l)) = unfold listing ascii in joined-total 44 (spelling x) (map spelling l) in
    let f = length-append (ascii key) (61 ∷ listing (x ∷ l)) in
    omega arith

module _ (key : String) (x : ℤ) (l : List ℤ) (nines : all_of nine_digits (x ∷ l) ≡ true) where
  pub list-says : (o : Operator) → arg_words o (x ∷ l) ≡ key_value key (listing (x ∷ l)) ∷ [] → worded (ascii key) ≡ true → length (name_word o) + length (ascii key) ≤ 13
      → total (map spelling (x ∷ l)) ≤ 24 → Says o (x ∷ l)
  list-says o e k n t =
      one-says o (x ∷ l) (key_value key (listing (x ∷ l))) e (pair-worded key (listing (x ∷ l)) k (listing-worded x l nines)) (pair-short (name_word o) key x l n t)

  -- its series is read, and is not too long
  pub list_read : length (x ∷ l) ≤ 8 → (is_none (series (listing (x ∷ l))) || ltb 8 (length (pieces (listing (x ∷ l))))) ≡ false
  unfolding is_none
  list_read k = rw (listing-series x l nines, listing-pieces x l nines, length-map (x ∷ l) spelling, le-ltb 8 (length (x ∷ l)) k)

  pub by-list : (mode : Mode) (s : Step) (w : Bytes) → lacks (is "=") (ascii key) ≡ true → judged mode (table_from w (keyed key (listing (x ∷ l)) ∷ []) (marks_of s)) ≡ answers s
      → words_judged mode s w (key_value key (listing (x ∷ l)) ∷ []) ≡ answers s
  by-list mode s w k h =
      let n = listing-lacks x l nines (is "=") (unfold below so firm known any_of ascii in refl) refl in
      by-own mode s w (key_value key (listing (x ∷ l)) ∷ []) (keyed key (listing (x ∷ l)) ∷ []) (ap (λ (p : Parameter). p ∷ []) (parameter-pair key (listing (x ∷ l)) k n)) h

-- no list is empty that has a length
pub none_left : {A : Type 0} → 1 ≤ 0 → A
none_left h = absurd (no h)
  where
    no : 1 ≤ 0 → ⊥
    no h = omega arith
