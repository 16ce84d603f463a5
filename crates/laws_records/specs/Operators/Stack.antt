-- `stack`: each action that is given chooses arguments that keep its rule; and an action with its numbers is read as that action alone.
use Rattle.std.specs.Prelude.{◌≡◌, true, false, not, ◌||◌, length, leb, eqb, ltb, ℤ, Option, None, Some}
use Rattle.std.proofs.Math.Path.{refl}
use Rattle.std.proofs.Common.{ap}
use Prim.Native.Nat.{ℕ, suc, ◌+◌, ◌≤◌}
use Prim.Native.String.{String}
use mathlib.Core.List.{List, [], ◌∷◌, map}
use native.Mathlib.Omega.{arith}
use borrow.Author.Tests.{eqb-true}
use Rattle.std.proofs.Math.Dec.{lit≤}
use Rattle.rules.specs.Text.Ascii.{ascii, is}
use Rattle.rules.specs.Text.Lists.{any_of, all_of, is_none}
use Rattle.rules.specs.Text.Bytes.{Bytes, white, same}
use Rattle.rules.specs.Text.Split.{modifier}
use Rattle.rules.specs.Text.Decimal.{minus, pieces, series}
use Rattle.rules.specs.Text.Refusal.{answers}
use Rattle.rules.specs.Text.Parameters.{Parameter, parameter, name}
use Rattle.rules.specs.Operators.Arguments.{value_of, size, is_place, wholes, spelling, listing, key_value}
use Rattle.rules.specs.Operators.Keys.{flag, numbered, worded, kind_in}
use Rattle.rules.specs.Operators.Descriptions.{Operator, StackPush, StackPop, StackFlip, StackRoll, StackUnroll, StackSwap, StackDrop, Chosen, choose}
use Rattle.rules.specs.Operators.Stack.{is_places, is_roll, is_nothing, action_keys, Action, actions, action_then, actions_given, exactly_one}
use Rattle.rules.specs.Operators.Table.{is_args, name_of, number_of, other_mode, is_of_mode}
use Rattle.rules.specs.Operators.Documented.{adapt_in}
use Rattle.rules.specs.Pipeline.Record.{operator, args, nine_digits}
use Rattle.rules.specs.Pipeline.Keys.{every_key, own_keys, kind_of, is_lacking, unknown, misspelt, too_long}
use Rattle.rules.specs.Pipeline.Prepare.{recorded, own_rule, named, judged}
use Rattle.rules.specs.Pipeline.Write.{name_word, arg_words}
use Rattle.rules.specs.declared.Mode.{Mode}
use Rattle.rules.specs.declared.Step.{Step}
use Rattle.rules.specs.declared.Name.TheVariants.{Stack}
use Rattle.laws_lists.specs.Lists.{Every}
use Rattle.laws_lists.specs.Tests.{and_left, and_right, never}
use Rattle.laws_records.specs.Calm.{known, firm, middle, follows, quiet, end_of, calm}
use Rattle.laws_records.specs.Settled.{lacks}
use Rattle.laws_records.specs.Given.{bare, picked, latest, faulty, table_from, look, looked, table-judged}
use Rattle.laws_records.specs.Numbers.{listing-wholes}
use Rattle.laws_records.specs.Worded as word
use Rattle.laws_records.specs.Sayings.{total, each-total, spelling-long, spelling-short}
use Rattle.laws_records.specs.Kept.{Kept}
use Rattle.laws_records.specs.Records.{IsMade, marks_of, marks-bare, Unmarked, record-again}
use Rattle.laws_records.specs.Owed.{KeepsRule, both-modes, Well, Short, wholes-kept, Says, words_judged, HasText, by-own, PlainName, one-says, keyed, list-says, list_read, by-list}

-- ---- the action that is given keeps its rule

-- a choice, if it is one, is of a mode that makes its operator, and keeps the operator's rule
abbrev IfKept : Mode → Option Chosen → Type 0
IfKept mode r = (c : Chosen) → r ≡ Some c → Well mode c

module _ (mode : Mode) where
  one_kept : (l : List (Option Chosen)) → Every (IfKept mode) l → IfKept mode (exactly_one l)
  unfolding Every exactly_one
  one_kept [] a c h = absurd (never (cc h))
  one_kept (x ∷ []) a c h = a.0 c h
  one_kept (x ∷ y ∷ l) a c h = absurd (never (cc h))

  choose-kept : (o : Operator) (r : Option (List ℤ)) → is_of_mode mode o ≡ true → ((l : List ℤ) → r ≡ Some l → Kept o l) → IfKept mode (choose o r)
  unfolding choose
  choose-kept o None f k c h = absurd (never (cc h))
  choose-kept o (Some l) f k c h = let e : record { operator = o; arguments = l } ≡ c = cc h in rw (← e) (record { kept = k l refl; of-mode = f })

  action-kept : (a : Action) (v : Option Bytes) (l : List (Option Chosen)) → is_of_mode mode a.operator ≡ true
      → ((w : Bytes) → v ≡ Some w → (m : List ℤ) → a.arguments w ≡ Some m → Kept a.operator m) → Every (IfKept mode) l → Every (IfKept mode) (action_then a v l)
  unfolding Every action_then
  action-kept a None l f h r = r
  action-kept a (Some v) l f h r = (choose-kept a.operator (a.arguments v) f (h v refl), r)

nothing-kept : (o : Operator) → is_args o [] ≡ true → (l : List ℤ) → Some [] ≡ Some l → Kept o l
unfolding all_of
nothing-kept o r l h = let e : [] ≡ l = cc h in rw (← e) (record { fit = lit≤ tt; nines = refl; rule = r })

actions-kept : (mode : Mode) (ps : List Parameter) → Short Stack ps → Every (IfKept mode) (actions_given ps actions)
unfolding Every actions_given actions is_args is_of_mode number_of adapt_in other_mode is_nothing kind_of kind_in every_key own_keys action_keys flag numbered worded
    same ascii
actions-kept mode ps short =
    action-kept mode _ (value_of (ascii "push") ps) _ (both-modes StackPush refl refl mode) (λ v e. wholes-kept Stack ps short StackPush (ascii "push") v refl e)
    (action-kept mode _ (value_of (ascii "pop") ps) _ (both-modes StackPop refl refl mode) (λ v e. wholes-kept Stack ps short StackPop (ascii "pop") v refl e)
    (action-kept mode _ (value_of (ascii "flip") ps) _ (both-modes StackFlip refl refl mode) (λ v e. wholes-kept Stack ps short StackFlip (ascii "flip") v refl e)
    (action-kept mode _ (value_of (ascii "roll") ps) _ (both-modes StackRoll refl refl mode) (λ v e. wholes-kept Stack ps short StackRoll (ascii "roll") v refl e)
    (action-kept mode _ (value_of (ascii "unroll") ps) _ (both-modes StackUnroll refl refl mode) (λ v e. wholes-kept Stack ps short StackUnroll (ascii "unroll") v refl e)
    (action-kept mode _ (value_of (ascii "swap") ps) _ (both-modes StackSwap refl refl mode) (λ v e. nothing-kept StackSwap refl)
    (action-kept mode _ (value_of (ascii "drop") ps) _ (both-modes StackDrop refl refl mode) (λ v e. nothing-kept StackDrop refl) tt))))))

pub stack-keeps : KeepsRule Stack
stack-keeps mode ps short c h = one_kept mode (actions_given ps actions) (actions-kept mode ps short) c h

-- ---- the action that a text gives

-- what the actions choose, by the values of their keys
unfoldable actions_by : (Bytes → Option Bytes) → List Action → List (Option Chosen)
actions_by f [] = []
actions_by f (a ∷ l) = action_then a (f (ascii a.key)) (actions_by f l)

actions-by : (f : Bytes → Option Bytes) (ps : List Parameter) → ((k : Bytes) → value_of k ps ≡ f k) → (l : List Action) → actions_given ps l ≡ actions_by f l
unfolding actions_by actions_given
actions-by f ps h [] = refl
actions-by f ps h (a ∷ l) = rw (h (ascii a.key), actions-by f ps h l)

module _ (s : Step) (m : IsMade s) where
  -- the table of `stack` with one parameter, and the values of its keys
  abbrev stack_table : String → Bytes → List Parameter
  stack_table key v = table_from (ascii "stack") (keyed key v ∷ []) (marks_of s)

  abbrev looks : String → Bytes → Bytes → Option Bytes
  looks key v = look (ascii "stack") (keyed key v ∷ []) (marks_of s)

  stack-given : (key : String) (v : Bytes) → actions_given (stack_table key v) actions ≡ actions_by (looks key v) actions
  stack-given key v = actions-by _ (stack_table key v) (looked (ascii "stack") (keyed key v ∷ []) (marks_of s) (marks-bare s)) actions

  stack-judged : (mode : Mode) (key : String) (v : Bytes) (o : Operator) → Unmarked (keyed key v ∷ []) → named (looks key v (ascii "_name")) ≡ Some Stack → faulty Stack (keyed key v) ≡ false
      → exactly_one (actions_by (looks key v) actions) ≡ choose o (Some (args s)) → operator s ≡ o → judged mode (stack_table key v) ≡ answers s
  unfolding own_rule any_of recorded choose
  stack-judged mode key v o u n f g e =
      table-judged mode (ascii "stack") (keyed key v ∷ []) (marks_of s) (marks-bare s) Stack s n
      (rw f (unfold faulty unknown is_lacking misspelt too_long kind_of kind_in every_key own_keys action_keys flag numbered worded name same ascii is_none in refl))
      (unfold faulty unknown is_lacking misspelt too_long kind_of kind_in every_key own_keys action_keys flag numbered worded bare marks_of same ascii is_none in refl)
      (rw (stack-given key v, g, ← e) (ap Some (record-again s (ascii "stack") (keyed key v ∷ []) u m)))

  -- ---- an action without numbers

  no-args : (l : List ℤ) → is_nothing l ≡ true → l ≡ []
  unfolding is_nothing
  no-args [] h = refl
  no-args (x ∷ l) h = absurd (None (length l) (eqb-true (suc (length l)) 0 h))
    where
      None : (n : ℕ) → suc n ≡ 0 → ⊥
      None n e = omega arith

  swap-again : (mode : Mode) → operator s ≡ StackSwap → words_judged mode s (name_word StackSwap) (arg_words StackSwap (args s)) ≡ answers s
  unfolding is_args name_word arg_words keyed latest look picked marks_of named name_of faulty unknown is_lacking misspelt too_long kind_of kind_in every_key
      own_keys action_keys flag numbered worded same ascii is_none actions_by actions action_then exactly_one
  swap-again mode e =
      by-own mode s (ascii "stack") (ascii "swap" ∷ []) (keyed "swap" (ascii "true") ∷ []) (unfold parameter any_of ascii in refl)
      (stack-judged mode "swap" (ascii "true") StackSwap (record { no-inv = refl; no-fwd = refl; no-back = refl }) refl refl (rw (no-args (args s) (rw e at m.keeps.rule))) e)

  drop-again : (mode : Mode) → operator s ≡ StackDrop → words_judged mode s (name_word StackDrop) (arg_words StackDrop (args s)) ≡ answers s
  unfolding is_args name_word arg_words keyed latest look picked marks_of named name_of faulty unknown is_lacking misspelt too_long kind_of kind_in every_key
      own_keys action_keys flag numbered worded same ascii is_none actions_by actions action_then exactly_one
  drop-again mode e =
      by-own mode s (ascii "stack") (ascii "drop" ∷ []) (keyed "drop" (ascii "true") ∷ []) (unfold parameter any_of ascii in refl)
      (stack-judged mode "drop" (ascii "true") StackDrop (record { no-inv = refl; no-fwd = refl; no-back = refl }) refl refl (rw (no-args (args s) (rw e at m.keeps.rule))) e)

  -- ---- an action with a list of numbers

  -- the key is the action's, and of the action's operator: each is computed
  record ListAction (key : String) (o : Operator) : Type 0 where
    unmarked : (v : Bytes) → Unmarked (keyed key v ∷ [])
    is-stack : (v : Bytes) → named (looks key v (ascii "_name")) ≡ Some Stack
    is-series : (v : Bytes) → (is_none (series v) || ltb 8 (length (pieces v))) ≡ false → faulty Stack (keyed key v) ≡ false
    chooses : (v : Bytes) → exactly_one (actions_by (looks key v) actions) ≡ choose o (wholes (is_args o) (series v))
    bare-key : lacks (is "=") (ascii key) ≡ true
    as-word : (l : List ℤ) → arg_words o l ≡ key_value key (listing l) ∷ []
    as-stack : name_word o ≡ ascii "stack"
    some_left : is_args o [] ≡ false

  list-again : (mode : Mode) (key : String) (o : Operator) → ListAction key o → operator s ≡ o → words_judged mode s (name_word o) (arg_words o (args s)) ≡ answers s
  list-again mode key o a e = go (args s) refl
    where
      rule : is_args o (args s) ≡ true
      rule = rw e at m.keeps.rule

      go : (l : List ℤ) → args s ≡ l → words_judged mode s (name_word o) (arg_words o (args s)) ≡ answers s
      go [] z = absurd (never (cc (rw z at rule, a.some_left)))
      go (x ∷ l) z =
          let nines : all_of nine_digits (x ∷ l) ≡ true = rw z at m.keeps.nines in
          let fit : length (x ∷ l) ≤ 8 = rw z at m.keeps.fit in
          let v = listing (x ∷ l) in
          let g : exactly_one (actions_by (looks key v) actions) ≡ choose o (Some (args s)) = rw (a.chooses v, listing-wholes x l nines (is_args o) (rw z at rule), z) in
          rw (z, a.as-stack, a.as-word (x ∷ l))
          (by-list key x l nines mode s (ascii "stack") a.bare-key (stack-judged mode key v o (a.unmarked v) (a.is-stack v) (a.is-series v (list_read key x l nines fit)) g e))

  -- each of the five
  push-list : ListAction "push" StackPush
  unfolding keyed latest look picked marks_of named name_of faulty unknown is_lacking misspelt too_long kind_of kind_in every_key own_keys action_keys flag
      numbered worded same ascii is_none actions_by actions action_then exactly_one is_args arg_words name_word is_places lacks any_of
  push-list =
      record {
        unmarked = λ v. record { no-inv = refl; no-fwd = refl; no-back = refl };
        is-stack = λ v. refl;
        is-series = λ v h. h;
        chooses = λ v. refl;
        bare-key = refl;
        as-word = λ l. refl;
        as-stack = refl;
        some_left = refl;
      }

  pop-list : ListAction "pop" StackPop
  unfolding keyed latest look picked marks_of named name_of faulty unknown is_lacking misspelt too_long kind_of kind_in every_key own_keys action_keys flag
      numbered worded same ascii is_none actions_by actions action_then exactly_one is_args arg_words name_word is_places lacks any_of
  pop-list =
      record {
        unmarked = λ v. record { no-inv = refl; no-fwd = refl; no-back = refl };
        is-stack = λ v. refl;
        is-series = λ v h. h;
        chooses = λ v. refl;
        bare-key = refl;
        as-word = λ l. refl;
        as-stack = refl;
        some_left = refl;
      }

  flip-list : ListAction "flip" StackFlip
  unfolding keyed latest look picked marks_of named name_of faulty unknown is_lacking misspelt too_long kind_of kind_in every_key own_keys action_keys flag
      numbered worded same ascii is_none actions_by actions action_then exactly_one is_args arg_words name_word is_places lacks any_of
  flip-list =
      record {
        unmarked = λ v. record { no-inv = refl; no-fwd = refl; no-back = refl };
        is-stack = λ v. refl;
        is-series = λ v h. h;
        chooses = λ v. refl;
        bare-key = refl;
        as-word = λ l. refl;
        as-stack = refl;
        some_left = refl;
      }

  roll-list : ListAction "roll" StackRoll
  unfolding keyed latest look picked marks_of named name_of faulty unknown is_lacking misspelt too_long kind_of kind_in every_key own_keys action_keys flag
      numbered worded same ascii is_none actions_by actions action_then exactly_one is_args arg_words name_word is_roll lacks any_of
  roll-list =
      record {
        unmarked = λ v. record { no-inv = refl; no-fwd = refl; no-back = refl };
        is-stack = λ v. refl;
        is-series = λ v h. h;
        chooses = λ v. refl;
        bare-key = refl;
        as-word = λ l. refl;
        as-stack = refl;
        some_left = refl;
      }

  unroll-list : ListAction "unroll" StackUnroll
  unfolding keyed latest look picked marks_of named name_of faulty unknown is_lacking misspelt too_long kind_of kind_in every_key own_keys action_keys flag
      numbered worded same ascii is_none actions_by actions action_then exactly_one is_args arg_words name_word is_roll lacks any_of
  unroll-list =
      record {
        unmarked = λ v. record { no-inv = refl; no-fwd = refl; no-back = refl };
        is-stack = λ v. refl;
        is-series = λ v h. h;
        chooses = λ v. refl;
        bare-key = refl;
        as-word = λ l. refl;
        as-stack = refl;
        some_left = refl;
      }

-- ---- its words

place-four : (x : ℤ) → is_place x ≡ true → leb (size x) 4 ≡ true
unfolding is_place
place-four x h = and_right (leb 1 (size x)) _ (and_right (not (minus x)) _ h)

module _ (l : List ℤ) where
  places-total : length l ≤ 8 → is_places l ≡ true → total (map spelling l) ≤ 24
  unfolding is_places
  places-total f h = omega (arith, each-total 2 is_place (λ x k. spelling-short x (place-four x k)) l (and_right (leb 1 (length l)) _ h))

  roll-total : all_of nine_digits l ≡ true → is_roll l ≡ true → total (map spelling l) ≤ 24
  unfolding is_roll
  roll-total h r = omega (arith, eqb-true (length l) 2 (and_left (eqb (length l) 2) _ r), each-total 10 nine_digits spelling-long l h)

-- of an action with numbers that are short together
numbers-say : (key : String) (o : Operator) → ((l : List ℤ) → arg_words o l ≡ key_value key (listing l) ∷ []) → word.worded (ascii key) ≡ true → length (name_word o) + length (ascii key) ≤ 13
    → is_args o [] ≡ false → (l : List ℤ) → total (map spelling l) ≤ 24 → all_of nine_digits l ≡ true → is_args o l ≡ true → Says o l
numbers-say key o e k n z [] t h r = absurd (never (cc (r, z)))
numbers-say key o e k n z (x ∷ l) t h r = list-says key x l h o (e (x ∷ l)) k n t

-- ---- what is owed

stack-name : PlainName (ascii "stack")
unfolding word.worded calm firm known follows middle quiet end_of lacks white modifier same any_of ascii
stack-name = record { reads = refl; no-modifier = refl; no_value = refl }

pub push-text : HasText StackPush
push-text =
    record {
      named = unfold name_word in stack-name;
      says =
          λ l f h r. numbers-say "push" StackPush (λ k. unfold arg_words in refl)
          (unfold word.worded calm firm known follows middle quiet end_of lacks white any_of ascii in refl) (unfold name_word ascii in lit≤ tt)
          (unfold is_args is_places in refl) l (places-total l f (unfold is_args in r)) h r;
      again = λ mode of s m. list-again s m mode "push" StackPush (push-list s m);
    }

pub pop-text : HasText StackPop
pop-text =
    record {
      named = unfold name_word in stack-name;
      says =
          λ l f h r. numbers-say "pop" StackPop (λ k. unfold arg_words in refl)
          (unfold word.worded calm firm known follows middle quiet end_of lacks white any_of ascii in refl) (unfold name_word ascii in lit≤ tt)
          (unfold is_args is_places in refl) l (places-total l f (unfold is_args in r)) h r;
      again = λ mode of s m. list-again s m mode "pop" StackPop (pop-list s m);
    }

pub flip-text : HasText StackFlip
flip-text =
    record {
      named = unfold name_word in stack-name;
      says =
          λ l f h r. numbers-say "flip" StackFlip (λ k. unfold arg_words in refl)
          (unfold word.worded calm firm known follows middle quiet end_of lacks white any_of ascii in refl) (unfold name_word ascii in lit≤ tt)
          (unfold is_args is_places in refl) l (places-total l f (unfold is_args in r)) h r;
      again = λ mode of s m. list-again s m mode "flip" StackFlip (flip-list s m);
    }

pub roll-text : HasText StackRoll
roll-text =
    record {
      named = unfold name_word in stack-name;
      says =
          λ l f h r. numbers-say "roll" StackRoll (λ k. unfold arg_words in refl)
          (unfold word.worded calm firm known follows middle quiet end_of lacks white any_of ascii in refl) (unfold name_word ascii in lit≤ tt)
          (unfold is_args is_roll in refl) l (roll-total l h (unfold is_args in r)) h r;
      again = λ mode of s m. list-again s m mode "roll" StackRoll (roll-list s m);
    }

pub unroll-text : HasText StackUnroll
unroll-text =
    record {
      named = unfold name_word in stack-name;
      says =
          λ l f h r. numbers-say "unroll" StackUnroll (λ k. unfold arg_words in refl)
          (unfold word.worded calm firm known follows middle quiet end_of lacks white any_of ascii in refl) (unfold name_word ascii in lit≤ tt)
          (unfold is_args is_roll in refl) l (roll-total l h (unfold is_args in r)) h r;
      again = λ mode of s m. list-again s m mode "unroll" StackUnroll (unroll-list s m);
    }

pub swap-text : HasText StackSwap
swap-text =
    record {
      named = unfold name_word in stack-name;
      says =
          λ l f h r. one-says StackSwap l (ascii "swap") (unfold arg_words in refl)
          (unfold word.worded calm firm known follows middle quiet end_of lacks white any_of ascii in refl) (unfold name_word total ascii in lit≤ tt);
      again = λ mode of s m. swap-again s m mode;
    }

pub drop-text : HasText StackDrop
drop-text =
    record {
      named = unfold name_word in stack-name;
      says =
          λ l f h r. one-says StackDrop l (ascii "drop") (unfold arg_words in refl)
          (unfold word.worded calm firm known follows middle quiet end_of lacks white any_of ascii in refl) (unfold name_word total ascii in lit≤ tt);
      again = λ mode of s m. drop-again s m mode;
    }
