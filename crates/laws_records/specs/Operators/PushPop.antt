-- `push` and `pop`: whichever flags are given, their axes are places that rise; and places that rise are a choice of the four axes, whose flags
-- are read as that choice.
use Rattle.std.specs.Prelude.{◌≡◌, ℕ, suc, ◌+◌, ◌*◌, ◌≤◌, ◌<◌, Bool, not, ◌&&◌, length, leb, ltb, eqb, ℤ, pos, negsuc, Option, None, Some}
use Rattle.std.proofs.Math.Path.{refl, sym, ap}
use Rattle.std.proofs.Common.{◌∙◌, arith, leb-true, ltb-true, lt-ltb, eqb-true}
use Prim.Native.String.{String}
use Rattle.std.proofs.Math.Bool.{true, false, cond}
use Rattle.std.proofs.lemmas.Bool.{false≢true, eqb-false}
use mathlib.Core.List.{List, [], ◌∷◌, ◌++◌, map}
use Rattle.std.proofs.lemmas.List.{length-map}
use Rattle.std.proofs.Math.Dec.{lit≤}
use Rattle.rules.specs.Text.Ascii.{ascii}
use Rattle.rules.specs.Text.Lists.{any_of, all_of, is_none}
use Rattle.rules.specs.Text.Bytes.{Bytes, Words, white, same}
use Rattle.rules.specs.Text.Split.{modifier}
use Rattle.rules.specs.Text.Decimal.{minus}
use Rattle.rules.specs.Text.Refusal.{answers}
use Rattle.rules.specs.Text.Parameters.{Parameter, parameter, name}
use Rattle.rules.specs.Operators.Arguments.{is_given, size, is_place}
use Rattle.rules.specs.Operators.Keys.{flag, numbered, worded, kind_in}
use Rattle.rules.specs.Operators.Descriptions.{Operator, Push, Pop, choose}
use Rattle.rules.specs.Operators.PushPop.{is_rising, axis_keys, flagged, axes, flag_of}
use Rattle.rules.specs.Operators.Table.{is_args, name_of, number_of, other_mode, is_of_mode}
use Rattle.rules.specs.Operators.Documented.{adapt_in}
use Rattle.rules.specs.Pipeline.Record.{operator, args, nine_digits}
use Rattle.rules.specs.Pipeline.Keys.{every_key, own_keys, kind_of, is_lacking, unknown, misspelt, too_long}
use Rattle.rules.specs.Pipeline.Prepare.{record_of, recorded, own_rule, named, judged}
use Rattle.rules.specs.Pipeline.Write.{name_word, arg_words}
use Rattle.rules.specs.declared.Mode.{Mode}
use Rattle.rules.specs.declared.Step.{Step}
use Rattle.rules.specs.declared.Name.{Name}
use Rattle.rules.specs.declared.Name.TheVariants as name-is
use Rattle.laws_lists.specs.Tests.{and_left, and_right, below, below_at, both, both_at}
use Rattle.laws_records.specs.Calm.{known, firm, middle, follows, quiet, end_of, calm, both as and_both}
use Rattle.laws_records.specs.Settled.{lacks}
use Rattle.laws_records.specs.Given.{Flag, chosen, bare, picked, bare_flags, latest, latest-chosen, any-chosen, faulty, table_from, look, looked, table-judged}
use Rattle.laws_records.specs.Worded as word
use Rattle.laws_records.specs.Sayings.{total}
use Rattle.laws_records.specs.Kept.{Kept}
use Rattle.laws_records.specs.Records.{IsMade, marks_of, marks-bare, Unmarked, given_back, record-again}
use Rattle.laws_records.specs.Owed.{KeepsRule, both-modes, Says, words_judged, PlainName, HasText, by-own}

-- ---- whichever flags are given, the axes keep the rule

keeps : List ℤ → Bool
keeps l = leb (length l) 8 && (all_of nine_digits l && is_rising 0 l)

flagged_on : Bool → Bool → Bool → Bool → List ℤ
flagged_on a b c d = cond a (pos 1 ∷ []) [] ++ (cond b (pos 2 ∷ []) [] ++ (cond c (pos 3 ∷ []) [] ++ cond d (pos 4 ∷ []) []))

every-axes : both (λ a. both (λ b. both (λ c. both (λ d. keeps (flagged_on a b c d))))) ≡ true
unfolding both flagged_on keeps all_of nine_digits is_rising is_place minus
every-axes = refl

axes-kept : (o : Operator) (ps : List Parameter) → ((l : List ℤ) → is_args o l ≡ is_rising 0 l) → Kept o (axes ps)
unfolding axes flagged flagged_on keeps
axes-kept o ps e =
    let k : keeps (axes ps) ≡ true = both_at _ (both_at _ (both_at _ (both_at _ every-axes (is_given "v_1" ps)) (is_given "v_2" ps)) (is_given "v_3" ps)) (is_given "v_4" ps) in
    let r = and_right (leb (length (axes ps)) 8) _ k in
    record {
      fit = leb-true (length (axes ps)) 8 (and_left (leb (length (axes ps)) 8) _ k);
      nines = and_left (all_of nine_digits (axes ps)) _ r;
      rule = rw (e (axes ps)) (and_right (all_of nine_digits (axes ps)) (is_rising 0 (axes ps)) r);
    }

pub push-keeps : KeepsRule name-is.Push
unfolding choose is_args is_of_mode number_of adapt_in other_mode
push-keeps mode ps short c h =
    let e : record { operator = Push; arguments = axes ps } ≡ c = cc h in
    rw (← e) (record { kept = axes-kept Push ps (λ l. refl); of-mode = both-modes Push refl refl mode })

pub pop-keeps : KeepsRule name-is.Pop
unfolding choose is_args is_of_mode number_of adapt_in other_mode
pop-keeps mode ps short c h =
    let e : record { operator = Pop; arguments = axes ps } ≡ c = cc h in
    rw (← e) (record { kept = axes-kept Pop ps (λ l. refl); of-mode = both-modes Pop refl refl mode })

-- ---- a choice of axes

-- each from its own list, the next behind it
unfoldable before : Bool → ℤ → List ℤ → List ℤ
before b x l = cond b (x ∷ l) l

-- places that rise from k on: k + 1 or not, and places that rise from there
record Next (k : ℕ) (l : List ℤ) : Type 0 where
  has : Bool
  rest : List ℤ
  is-it : l ≡ before has (pos (suc k)) rest
  rises : is_rising (suc k) rest ≡ true

place-pos : (x : ℤ) → is_place x ≡ true → x ≡ pos (size x)
unfolding is_place minus
place-pos (pos n) h = refl
place-pos (negsuc n) h = absurd (false≢true h)

rising-next : (k : ℕ) (l : List ℤ) → is_rising k l ≡ true → Next k l
unfolding is_rising before
rising-next k [] h = record { has = false; rest = []; is-it = refl; rises = refl }
rising-next k (x ∷ l) h = go (eqb (size x) (suc k)) refl
  where
    p : is_place x ≡ true
    p = and_left (is_place x) _ h

    r : ltb k (size x) && is_rising (size x) l ≡ true
    r = and_right (is_place x) _ h

    go : (b : Bool) → eqb (size x) (suc k) ≡ b → Next k (x ∷ l)
    go true e =
        let q : size x ≡ suc k = eqb-true (size x) (suc k) e in
        let y : x ≡ pos (suc k) = place-pos x p ∙ ap pos q in
        record { has = true; rest = l; is-it = ap (λ (z : ℤ). z ∷ l) y; rises = rw q at (and_right (ltb k (size x)) _ r) }
    go false e =
        let n = eqb-false (size x) (suc k) e in
        let m = ltb-true k (size x) (and_left (ltb k (size x)) _ r) in
        let t : suc k < size x = omega arith in
        record { has = false; rest = x ∷ l; is-it = refl; rises = rw (p, lt-ltb (suc k) (size x) t) (and_right (ltb k (size x)) _ r) }

rising-end : (l : List ℤ) → is_rising 4 l ≡ true → l ≡ []
unfolding is_rising is_place
rising-end [] h = refl
rising-end (x ∷ l) h =
    absurd (None (leb-true (size x) 4 (and_right (leb 1 (size x)) _ (and_right (not (minus x)) _ (and_left (is_place x) _ h))))
    (ltb-true 4 (size x) (and_left (ltb 4 (size x)) _ (and_right (is_place x) _ h))))
  where
    None : size x ≤ 4 → 4 < size x → ⊥
    None a b = omega arith

unfoldable axes_on : Bool → Bool → Bool → Bool → List ℤ
axes_on a b c d = before a (pos 1) (before b (pos 2) (before c (pos 3) (before d (pos 4) [])))

record Choice (l : List ℤ) : Type 0 where
  a : Bool
  b : Bool
  c : Bool
  d : Bool
  are : l ≡ axes_on a b c d

rising-choice : (l : List ℤ) → is_rising 0 l ≡ true → Choice l
unfolding axes_on
rising-choice l h =
    let n1 = rising-next 0 l h in
    let n2 = rising-next 1 n1.rest n1.rises in
    let n3 = rising-next 2 n2.rest n2.rises in
    let n4 = rising-next 3 n3.rest n3.rises in
    record {
      a = n1.has;
      b = n2.has;
      c = n3.has;
      d = n4.has;
      are =
          n1.is-it
          ∙ ap (before n1.has (pos 1))
          (n2.is-it ∙ ap (before n2.has (pos 2)) (n3.is-it ∙ ap (before n3.has (pos 3)) (n4.is-it ∙ ap (before n4.has (pos 4)) (rising-end n4.rest n4.rises))));
    }

-- ---- its flags

unfoldable axis_flag : String → Bool → Flag
axis_flag key b = record { word = ascii key; given = b }

unfoldable axis_flags : Bool → Bool → Bool → Bool → List Flag
axis_flags a b c d = axis_flag "v_1" a ∷ axis_flag "v_2" b ∷ axis_flag "v_3" c ∷ axis_flag "v_4" d ∷ []

map-before : (b : Bool) (x : ℤ) (l : List ℤ) → map flag_of (before b x l) ≡ cond b (flag_of x ∷ map flag_of l) (map flag_of l)
unfolding before
map-before true x l = refl
map-before false x l = refl

flags-choice : (a b c d : Bool) → map flag_of (axes_on a b c d) ≡ chosen (axis_flags a b c d)
unfolding axes_on axis_flags axis_flag chosen flag_of ascii
flags-choice a b c d =
    map-before a (pos 1) _
    ∙ ap (λ (w : Words). cond a (flag_of (pos 1) ∷ w) w) (map-before b (pos 2) _
    ∙ ap (λ (w : Words). cond b (flag_of (pos 2) ∷ w) w)
    (map-before c (pos 3) _ ∙ ap (λ (w : Words). cond c (flag_of (pos 3) ∷ w) w) (map-before d (pos 4) [])))

axis-bare : (a b c d : Bool) → bare_flags (axis_flags a b c d) ≡ true
unfolding bare_flags axis_flags axis_flag all_of lacks any_of ascii
axis-bare a b c d = refl

-- ---- the judgement

module _ (s : Step) (m : IsMade s) (ch : Choice (args s)) where
  abbrev flags : List Flag
  flags = axis_flags ch.a ch.b ch.c ch.d

  abbrev own : List Parameter
  own = map parameter (chosen flags)

  given-own : (k : Bytes) (r : Option Bytes) → latest k own r ≡ picked k flags r
  given-own k r = latest-chosen k flags r (axis-bare ch.a ch.b ch.c ch.d)

  unmarked : Unmarked own
  unfolding picked axis_flags axis_flag same ascii
  unmarked = record { no-inv = given-own (ascii "inv") None; no-fwd = given-own (ascii "omit_fwd") None; no-back = given-own (ascii "omit_inv") None }

  looks : (w : Bytes) (k : Bytes) → look w own (marks_of s) k ≡ picked k (marks_of s) (picked k flags (cond (same k (ascii "_name")) (Some w) None))
  unfolding look
  looks w k = ap (picked k (marks_of s)) (given-own k (cond (same k (ascii "_name")) (Some w) None))

  look-name : (w : Bytes) → look w own (marks_of s) (ascii "_name") ≡ Some w
  look-name w = looks w (ascii "_name") ∙ unfold picked marks_of axis_flags axis_flag same ascii in refl

  is-flag : (w : Bytes) (key : String) (b : Bool) → look w own (marks_of s) (ascii key) ≡ cond b (Some (ascii "true")) None → is_given key (table_from w own (marks_of s)) ≡ b
  unfolding is_given
  is-flag w key b h = rw (looked w own (marks_of s) (marks-bare s) (ascii key), h) (given_back b (ascii "true"))

  one-axis : (b : Bool) (x : ℤ) (l : List ℤ) → cond b (x ∷ []) [] ++ l ≡ before b x l
  unfolding before
  one-axis true x l = refl
  one-axis false x l = refl

  all-axes : (a b c d : Bool) → cond a (pos 1 ∷ []) [] ++ (cond b (pos 2 ∷ []) [] ++ (cond c (pos 3 ∷ []) [] ++ cond d (pos 4 ∷ []) [])) ≡ axes_on a b c d
  unfolding axes_on before
  all-axes a b c d = one-axis a (pos 1) _ ∙ ap (before a (pos 1)) (one-axis b (pos 2) _ ∙ ap (before b (pos 2)) (one-axis c (pos 3) _))

  axes-again : (w : Bytes) → axes (table_from w own (marks_of s)) ≡ args s
  unfolding axes flagged
  axes-again w =
      rw (
        is-flag w "v_1" ch.a (looks w (ascii "v_1") ∙ unfold picked marks_of axis_flags axis_flag same ascii in refl),
        is-flag w "v_2" ch.b (looks w (ascii "v_2") ∙ unfold picked marks_of axis_flags axis_flag same ascii in refl),
        is-flag w "v_3" ch.c (looks w (ascii "v_3") ∙ unfold picked marks_of axis_flags axis_flag same ascii in refl),
        is-flag w "v_4" ch.d (looks w (ascii "v_4") ∙ unfold picked marks_of axis_flags axis_flag same ascii in refl),
      )
      (all-axes ch.a ch.b ch.c ch.d ∙ sym ch.are)

  axes-judged : (mode : Mode) (n : Name) (o : Operator) (w : Bytes) → name_of w ≡ Some n → faulty n (name w) ≡ false → any_of (λ (f : Flag). faulty n (bare f.word)) flags ≡ false
      → any_of (λ (f : Flag). faulty n (bare f.word)) (marks_of s) ≡ false → ((ps : List Parameter) → own_rule mode n ps ≡ Some (record_of o ps (axes ps)))
      → operator s ≡ o → judged mode (table_from w own (marks_of s)) ≡ answers s
  unfolding named
  axes-judged mode n o w i f g k r e =
      table-judged mode w own (marks_of s) (marks-bare s) n s
      (rw (look-name w) i)
      (unfold any_of in rw f (any-chosen (faulty n) flags (axis-bare ch.a ch.b ch.c ch.d) g))
      k
      (rw (r (table_from w own (marks_of s)), axes-again w, ← e) (ap Some (record-again s w own unmarked m)))

  -- its own words are the flags of its axes
  flags-own : map parameter (map flag_of (args s)) ≡ own
  flags-own = ap (λ (k : List ℤ). map parameter (map flag_of k)) ch.are ∙ ap (map parameter) (flags-choice ch.a ch.b ch.c ch.d)

module _ (mode : Mode) (s : Step) (m : IsMade s) where
  push-again : operator s ≡ Push → words_judged mode s (name_word Push) (arg_words Push (args s)) ≡ answers s
  unfolding is_args name_word arg_words name_of any_of faulty unknown is_lacking misspelt too_long kind_of kind_in every_key own_keys axis_keys flag numbered
      worded name bare marks_of axis_flags axis_flag same ascii is_none own_rule recorded choose
  push-again e =
      let ch = rising-choice (args s) (rw e at m.keeps.rule) in
      by-own mode s (ascii "push") (map flag_of (args s)) _ (flags-own s m ch) (axes-judged s m ch mode name-is.Push Push (ascii "push") refl refl refl refl (λ ps. refl) e)

  pop-again : operator s ≡ Pop → words_judged mode s (name_word Pop) (arg_words Pop (args s)) ≡ answers s
  unfolding is_args name_word arg_words name_of any_of faulty unknown is_lacking misspelt too_long kind_of kind_in every_key own_keys axis_keys flag numbered
      worded name bare marks_of axis_flags axis_flag same ascii is_none own_rule recorded choose
  pop-again e =
      let ch = rising-choice (args s) (rw e at m.keeps.rule) in
      by-own mode s (ascii "pop") (map flag_of (args s)) _ (flags-own s m ch) (axes-judged s m ch mode name-is.Pop Pop (ascii "pop") refl refl refl refl (λ ps. refl) e)

-- ---- their words

flag-worded : (k : ℕ) → k ≤ 4 → word.worded (ascii "v_" ++ ((48 + k) ∷ [])) ≡ true
unfolding below word.worded calm firm known follows middle quiet end_of lacks white any_of ascii
flag-worded k h = below_at 5 (λ k. word.worded (ascii "v_" ++ ((48 + k) ∷ []))) refl k (omega arith)

place-small : (x : ℤ) → is_place x ≡ true → size x ≤ 4
unfolding is_place
place-small x h = leb-true (size x) 4 (and_right (leb 1 (size x)) _ (and_right (not (minus x)) _ h))

pub rising-places : (k : ℕ) (l : List ℤ) → is_rising k l ≡ true → all_of is_place l ≡ true
unfolding is_rising all_of
rising-places k [] h = refl
rising-places k (x ∷ l) h =
    and_both (is_place x) (all_of is_place l) (and_left (is_place x) _ h) (rising-places (size x) l (and_right (ltb k (size x)) _ (and_right (is_place x) _ h)))

flags-worded : (l : List ℤ) → all_of is_place l ≡ true → all_of word.worded (map flag_of l) ≡ true
unfolding all_of flag_of
flags-worded [] h = refl
flags-worded (x ∷ l) h = rw (flag-worded (size x) (place-small x (and_left (is_place x) _ h))) (flags-worded l (and_right (is_place x) _ h))

flags-total : (l : List ℤ) → total (map flag_of l) ≡ 4 * length l
unfolding total flag_of ascii
flags-total [] = refl
flags-total (x ∷ l) = omega (arith, flags-total l)

-- a short name and the flags of places that rise
flags-say : (o : Operator) (l : List ℤ) → arg_words o l ≡ map flag_of l → length (name_word o) ≤ 4 → length l ≤ 8 → is_rising 0 l ≡ true → Says o l
flags-say o l e n f r =
    record {
      each = rw e (flags-worded l (rising-places 0 l r));
      few = rw e (omega (arith, length-map l flag_of));
      short = rw e (unfold total in omega (arith, flags-total l));
    }

-- ---- what is owed

push-name : PlainName (ascii "push")
unfolding word.worded calm firm known follows middle quiet end_of lacks white modifier same any_of ascii
push-name = record { reads = refl; no-modifier = refl; no_value = refl }

pop-name : PlainName (ascii "pop")
unfolding word.worded calm firm known follows middle quiet end_of lacks white modifier same any_of ascii
pop-name = record { reads = refl; no-modifier = refl; no_value = refl }

pub push-text : HasText Push
push-text =
    record {
      named = unfold name_word in push-name;
      says = λ l f h r. flags-say Push l (unfold arg_words in refl) (unfold name_word ascii in lit≤ tt) f (unfold is_args in r);
      again = λ mode of. push-again mode;
    }

pub pop-text : HasText Pop
pop-text =
    record {
      named = unfold name_word in pop-name;
      says = λ l f h r. flags-say Pop l (unfold arg_words in refl) (unfold name_word ascii in lit≤ tt) f (unfold is_args in r);
      again = λ mode of. pop-again mode;
    }
