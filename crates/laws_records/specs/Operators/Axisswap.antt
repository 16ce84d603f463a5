-- `axisswap`: its order, given or not, keeps its rule; the order's text is read as the order; and turning signs is multiplying by 1 and -1, as
-- the Rust has it.
use Rattle.std.specs.Prelude.{◌≡◌, ℕ, suc, ◌≤◌, Bool, cond, ◌&&◌, T, eqb, ℤ, pos, nat_abs, Float, Option, None, Some}
use Rattle.std.proofs.Math.Path.{refl, ap}
use Rattle.std.proofs.Common.{sym, ◌∙◌, arith, leb-true, le-leb}
use Rattle.std.proofs.Math.Bool.{true, false}
use mathlib.Core.List.{List, [], ◌∷◌}
use Rattle.std.proofs.Math.ListN.{length}
use Rattle.std.proofs.Math.Dec.{leb, lit≤}
use Rattle.std.specs.Float.Ieee.{binary64, mul, fits}
use Rattle.rules.specs.Text.Ascii.{ascii}
use Rattle.rules.specs.Text.Lists.{any_of, all_of, is_none}
use Rattle.rules.specs.Text.Bytes.{Bytes, white, same}
use Rattle.rules.specs.Text.Split.{modifier}
use Rattle.rules.specs.Text.Decimal.{minus}
use Rattle.rules.specs.Text.Refusal.{answers}
use Rattle.rules.specs.Text.Parameters.{Parameter, name}
use Rattle.rules.specs.Operators.Arguments.{value_of, size, is_distinct, listing, key_value, is_order}
use Rattle.rules.specs.Operators.Numbers.{number, put, turn}
use Rattle.rules.specs.Operators.Keys.{flag, numbered, worded, kind_in}
use Rattle.rules.specs.Operators.Descriptions.{Operator, Axisswap, choose}
use Rattle.rules.specs.Operators.Axisswap.{order, swap_from, unswap_from, reordered, swapped}
use Rattle.rules.specs.Operators.Table.{is_args, name_of, number_of, other_mode, is_of_mode}
use Rattle.rules.specs.Operators.Documented.{adapt_in}
use Rattle.rules.specs.Pipeline.Record.{operator, args, nine_digits}
use Rattle.rules.specs.Pipeline.Keys.{every_key, own_keys, kind_of, is_lacking, unknown, misspelt, too_long}
use Rattle.rules.specs.Pipeline.Prepare.{record_of, recorded, own_rule, named, judged}
use Rattle.rules.specs.Pipeline.Write.{name_word, arg_words}
use Rattle.rules.specs.declared.Coord.{Coord}
use Rattle.rules.specs.declared.Mode.{Mode}
use Rattle.rules.specs.declared.Step.{Step}
use Rattle.rules.specs.declared.Name.TheVariants as name-is
use Rattle.laws_lists.specs.Lists.{all_so}
use Rattle.laws_lists.specs.Tests.{and_left, and_right, never}
use Rattle.laws_records.specs.Calm.{known, firm, middle, follows, quiet, end_of, calm}
use Rattle.laws_records.specs.Settled.{lacks}
use Rattle.laws_records.specs.Given.{bare, picked, latest, faulty, table_from, look, looked, table-judged}
use Rattle.laws_records.specs.Numbers.{listing-wholes}
use Rattle.laws_records.specs.Worded as word
use Rattle.laws_records.specs.Sayings.{each-total, spelling-short}
use Rattle.laws_records.specs.Kept.{Kept}
use Rattle.laws_records.specs.Records.{IsMade, marks_of, marks-bare, record-again}
use Rattle.laws_records.specs.Ieee.{unit, turn-mul}
use Rattle.laws_records.specs.Owed.{KeepsRule, both-modes, Well, Short, wholes-kept, Says, words_judged, PlainName, HasText, keyed, list-says, list_read, by-list, none_left}

-- ---- the rule

default-kept : Kept Axisswap (pos 1 ∷ pos 2 ∷ pos 3 ∷ pos 4 ∷ [])
unfolding is_args is_order is_distinct nine_digits all_of any_of
default-kept = record { fit = lit≤ tt; nines = refl; rule = refl }

order-kept : (ps : List Parameter) → Short name-is.Axisswap ps → (o : Option Bytes) → value_of (ascii "order") ps ≡ o → (l : List ℤ) → order o ≡ Some l → Kept Axisswap l
unfolding order is_args kind_of kind_in every_key own_keys flag numbered worded same ascii
order-kept ps short None e l h = let same : pos 1 ∷ pos 2 ∷ pos 3 ∷ pos 4 ∷ [] ≡ l = cc h in rw (← same) default-kept
order-kept ps short (Some v) e l h = wholes-kept name-is.Axisswap ps short Axisswap (ascii "order") v refl e l h

pub axisswap-keeps : KeepsRule name-is.Axisswap
unfolding choose is_of_mode number_of adapt_in other_mode
axisswap-keeps mode ps short c h = go (order (value_of (ascii "order") ps)) refl h
  where
    go : (r : Option (List ℤ)) → order (value_of (ascii "order") ps) ≡ r → choose Axisswap r ≡ Some c → Well mode c
    go None e h = absurd (never (cc h))
    go (Some l) e h =
        let z : record { operator = Axisswap; arguments = l } ≡ c = cc h in
        rw (← z) (record { kept = order-kept ps short (value_of (ascii "order") ps) refl l e; of-mode = both-modes Axisswap refl refl mode })

-- ---- its text

-- at least one, at most four, of one digit
order-some : (l : List ℤ) → is_order l ≡ true → (1 ≤ length l) × (length l ≤ 4) × (all_of (λ (x : ℤ). leb (size x) 4) l ≡ true)
unfolding is_order
order-some l h =
    let r = and_right (leb 1 (length l)) _ h in
    let few = leb-true (length l) 4 (and_left (leb (length l) 4) _ r) in
    let a = and_left (all_of (λ (x : ℤ). leb 1 (size x) && leb (size x) (length l)) l) _ (and_right (leb (length l) 4) _ r) in (
      leb-true 1 (length l) (and_left (leb 1 (length l)) _ h),
      few,
      all_so (λ (x : ℤ). leb 1 (size x) && leb (size x) (length l)) (λ (x : ℤ). leb (size x) 4)
          (λ x k. let g = leb-true (size x) (length l) (and_right (leb 1 (size x)) _ k) in le-leb (size x) 4 (omega arith)) l a,
    )

order-says : (l : List ℤ) → all_of nine_digits l ≡ true → is_order l ≡ true → Says Axisswap l
order-says [] h r = none_left (order-some [] r).0
order-says (x ∷ l) h r =
    let o = order-some (x ∷ l) r in
    list-says "order" x l h Axisswap (unfold arg_words in refl) (unfold word.worded calm firm known follows middle quiet end_of lacks white any_of ascii in refl) (unfold name_word ascii in lit≤ tt)
    (omega (arith, o.1, each-total 2 (λ (x : ℤ). leb (size x) 4) spelling-short (x ∷ l) o.2))

module _ (s : Step) (m : IsMade s) where
  -- the table of the name, the order and the marks
  abbrev order_table : Bytes → List Parameter
  order_table v = table_from (ascii "axisswap") (keyed "order" v ∷ []) (marks_of s)

  order-judged : (mode : Mode) (x : ℤ) (l : List ℤ) → args s ≡ x ∷ l → operator s ≡ Axisswap → is_order (x ∷ l) ≡ true → judged mode (order_table (listing (x ∷ l))) ≡ answers s
  unfolding keyed latest look picked marks_of named name_of faulty unknown is_lacking misspelt too_long kind_of kind_in every_key own_keys flag numbered
      worded name bare any_of same ascii is_none own_rule order recorded choose
  order-judged mode x l z e r =
      let nines : all_of nine_digits (x ∷ l) ≡ true = rw z at m.keeps.nines in
      let fit : length (x ∷ l) ≤ 8 = rw z at m.keeps.fit in
      let v = listing (x ∷ l) in
      table-judged mode (ascii "axisswap") (keyed "order" v ∷ []) (marks_of s) (marks-bare s) name-is.Axisswap s refl
      (rw (list_read "order" x l nines fit)) refl
      (rw (looked (ascii "axisswap") (keyed "order" v ∷ []) (marks_of s) (marks-bare s) (ascii "order"), listing-wholes x l nines is_order r)
      (ap (λ (a : List ℤ). Some (record_of Axisswap (order_table v) a)) (sym z)
      ∙ ap (λ (o : Operator). Some (record_of o (order_table v) (args s))) (sym e)
      ∙ ap Some (record-again s (ascii "axisswap") (keyed "order" v ∷ []) (record { no-inv = refl; no-fwd = refl; no-back = refl }) m)))

  order-again : (mode : Mode) → operator s ≡ Axisswap → words_judged mode s (name_word Axisswap) (arg_words Axisswap (args s)) ≡ answers s
  unfolding is_args name_word arg_words
  order-again mode e = go (args s) refl
    where
      rule : is_order (args s) ≡ true
      rule = rw e at m.keeps.rule

      go : (l : List ℤ) → args s ≡ l → words_judged mode s (ascii "axisswap") (key_value "order" (listing (args s)) ∷ []) ≡ answers s
      go [] z = none_left (order-some [] (rw z at rule)).0
      go (x ∷ l) z =
          rw z
          (by-list "order" x l (rw z at m.keeps.nines) mode s (ascii "axisswap") (unfold lacks any_of ascii in refl) (order-judged mode x l z e (rw z at rule)))

axisswap-name : PlainName (ascii "axisswap")
unfolding word.worded calm firm known follows middle quiet end_of lacks white modifier same any_of ascii
axisswap-name = record { reads = refl; no-modifier = refl; no_value = refl }

pub axisswap-text : HasText Axisswap
axisswap-text =
    record {
      named = unfold name_word in axisswap-name;
      says = λ l f h r. order-says l h (unfold is_args in r);
      again = λ mode of s m. order-again s m mode;
    }

-- ---- what it does, as the Rust has it: each number times its sign

-- a coordinate of f64 values
pub record Held64 (t : Coord) : Type 0 where
  pub a : T (fits binary64 t.a)
  pub b : T (fits binary64 t.b)
  pub c : T (fits binary64 t.c)
  pub d : T (fits binary64 t.d)

number-held : (i : ℕ) (c : Coord) → Held64 c → T (fits binary64 (number i c))
unfolding number
number-held i c h = go (eqb i 1) (eqb i 2) (eqb i 3)
  where
    go : (x y z : Bool) → T (fits binary64 (cond x c.a (cond y c.b (cond z c.c c.d))))
    go true y z = h.a
    go false true z = h.b
    go false false true = h.c
    go false false false = h.d

unfoldable pub times : Bool → Float → Float
times b x = mul binary64 x (unit b)

module _ (c : Coord) (h : Held64 c) where
  turn-times : (b : Bool) (i : ℕ) → turn b (number i c) ≡ times b (number i c)
  unfolding times
  turn-times b i = turn-mul binary64 b (number i c) (number-held i c h)

  swap-times : (i : ℕ) (l : List ℤ) (out : Coord) → swap_from number put turn i l c out ≡ swap_from number put times i l c out
  unfolding swap_from
  swap-times i [] out = refl
  swap-times i (x ∷ l) out = rw (turn-times (minus x) (nat_abs x)) (swap-times (suc i) l (put i (times (minus x) (number (nat_abs x) c)) out))

  unswap-times : (i : ℕ) (l : List ℤ) (out : Coord) → unswap_from number put turn i l c out ≡ unswap_from number put times i l c out
  unfolding unswap_from
  unswap-times i [] out = refl
  unswap-times i (x ∷ l) out = rw (turn-times (minus x) i) (unswap-times (suc i) l (put (nat_abs x) (times (minus x) (number i c)) out))

  pub swapped-times : (back : Bool) (l : List ℤ) → swapped back l c ≡ reordered number put times back l c
  unfolding swapped reordered
  swapped-times false l = swap-times 1 l c
  swapped-times true l = unswap-times 1 l c
