-- `adapt`, in either mode: two words make arguments that keep its rule, and the two words of a record are read as its arguments. (Its
-- factors are the Rust's: Adapt/Factors. What the documented mode ties to an axis: Adapt/ByAxis.)
use Rattle.std.specs.Prelude.{◌≡◌, ◌+◌, ◌≤◌, true, not, List, [], ◌∷◌, map, ℤ, Option, None, Some}
use Rattle.std.proofs.Math.Path.{refl, ap}
use Rattle.std.proofs.Common.{sym, ◌∙◌, arith, length-append, lit≤}
use Prim.Native.String.{String}
use Rattle.std.proofs.lemmas.Bool.{false≢true}
use Rattle.std.proofs.Math.ListN.{length}
use Rattle.rules.specs.Text.Ascii.{ascii, is}
use Rattle.rules.specs.Text.Lists.{any_of, all_of, is_none}
use Rattle.rules.specs.Text.Bytes.{Bytes, white, same}
use Rattle.rules.specs.Text.Bytes as text
use Rattle.rules.specs.Text.Split.{modifier}
use Rattle.rules.specs.Text.Refusal.{answers}
use Rattle.rules.specs.Text.Parameters.{Parameter, parameter, name}
use Rattle.rules.specs.Operators.Arguments.{value_of, key_value}
use Rattle.rules.specs.Operators.Keys.{flag, numbered, worded, kind_in}
use Rattle.rules.specs.Operators.Descriptions.{Operator, choose}
use Rattle.rules.specs.Operators.Adapt.{Word, word_given, between}
use Rattle.rules.specs.Operators.Documented.{adapt_in, combined_in}
use Rattle.rules.specs.Operators.Table.{number_of, is_args, other_mode, is_of_mode, name_of}
use Rattle.rules.specs.Pipeline.Record.{operator, args}
use Rattle.rules.specs.Pipeline.Keys.{every_key, own_keys, kind_of, is_lacking, unknown, misspelt, too_long}
use Rattle.rules.specs.Pipeline.Prepare.{record_of, recorded, own_rule, named, judged}
use Rattle.rules.specs.Pipeline.Write.{name_word, arg_words}
use Rattle.rules.specs.declared.Mode.{Mode}
use Rattle.rules.specs.declared.Mode.TheVariants as mode-is
use Rattle.rules.specs.declared.Step.{Step}
use Rattle.rules.specs.declared.Name.TheVariants as name-is
use Rattle.laws_lists.specs.Tests.{never, below}
use Rattle.laws_records.specs.Calm.{known, firm, middle, follows, so, quiet, end_of, calm}
use Rattle.laws_records.specs.Settled.{lacks}
use Rattle.laws_records.specs.Given.{bare, picked, latest, faulty, table_from, look, looked, table-judged}
use Rattle.laws_records.specs.Numbers.{firm-lacks}
use Rattle.laws_records.specs.Worded as word
use Rattle.laws_records.specs.Sayings.{firm-worded, pair-worded, total}
use Rattle.laws_records.specs.Kept.{Kept}
use Rattle.laws_records.specs.Records.{IsMade, marks_of, marks-bare, record-again}
use Rattle.laws_records.specs.Owed.{KeepsRule, Well, Says, words_judged, PlainName, HasText, by-own, keyed, parameter-pair}
use Rattle.laws_records.specs.Operators.Adapt.Words.{IsWord, combined-kept, between-kept}
use Rattle.laws_records.specs.Operators.Adapt.TwoWords.{Spelt}
use Rattle.laws_records.specs.Operators.Adapt.Letters.{spelt}
use Rattle.laws_records.specs.Operators.Adapt.ByAxis.{by-axis-kept, spelt-by-axis}
pub mod Words
pub mod TwoWords
pub mod Letters
pub mod ByAxis
pub mod Factors
pub mod Restores
pub mod FactorsByAxis

-- ---- the rule

-- in either mode
in_kept : (mode : Mode) (v w : Word) → IsWord v → IsWord w → Kept (adapt_in mode) (combined_in mode v w)
unfolding adapt_in combined_in
in_kept mode-is.Crate v w p q = combined-kept v w p q
in_kept mode-is.Documented v w p q = by-axis-kept v w p q

own-mode : (mode : Mode) → is_of_mode mode (adapt_in mode) ≡ true
unfolding is_of_mode number_of adapt_in other_mode
own-mode mode-is.Crate = refl
own-mode mode-is.Documented = refl

pub adapt-keeps : KeepsRule name-is.Adapt
unfolding choose
adapt-keeps mode ps short c h = go (between (combined_in mode) (word_given (value_of (ascii "from") ps)) (word_given (value_of (ascii "to") ps))) refl h
  where
    go : (r : Option (List ℤ)) → between (combined_in mode) (word_given (value_of (ascii "from") ps)) (word_given (value_of (ascii "to") ps)) ≡ r
        → choose (adapt_in mode) r ≡ Some c → Well mode c
    go None e h = absurd (never (cc h))
    go (Some l) e h =
        let z : record { operator = adapt_in mode; arguments = l } ≡ c = cc h in
        let k = between-kept (adapt_in mode) (combined_in mode) (in_kept mode) (value_of (ascii "from") ps) (value_of (ascii "to") ps) l e in
        rw (← z) (record { kept = k; of-mode = own-mode mode })

-- ---- its text

-- the two words of its arguments, in either mode
spelt-in : (mode : Mode) (l : List ℤ) → is_args (adapt_in mode) l ≡ true → Spelt mode l
unfolding is_args adapt_in
spelt-in mode-is.Crate l h = spelt l h
spelt-in mode-is.Documented l h = spelt-by-axis l h

-- and its name
name-in : (mode : Mode) → name_word (adapt_in mode) ≡ ascii "adapt"
unfolding name_word adapt_in
name-in mode-is.Crate = refl
name-in mode-is.Documented = refl

pair-total : (key : String) (v : Bytes) (ws : text.Words) → total (key_value key v ∷ ws) ≡ length (ascii key) + length v + 2 + total ws
unfolding total key_value
pair-total key v ws = omega (arith, length-append (ascii key) (61 ∷ v))

adapt-says : (mode : Mode) (l : List ℤ) → Spelt mode l → Says (adapt_in mode) l
adapt-says mode l p =
    record {
      each = rw p.are (unfold all_of in rw (
        pair-worded "from" p.from (unfold word.worded calm firm known follows middle quiet end_of lacks white any_of ascii in refl) (firm-worded p.from p.from-firm),
        pair-worded "to" p.to (unfold word.worded calm firm known follows middle quiet end_of lacks white any_of ascii in refl) (firm-worded p.to p.to-firm),
      ));
      few = rw p.are (lit≤ tt);
      short = rw (p.are, name-in mode) (bound p.from p.to p.from-short p.to-short);
    }
  where
    bound : (v w : Bytes) → length v ≤ 8 → length w ≤ 8 → total (ascii "adapt" ∷ key_value "from" v ∷ key_value "to" w ∷ []) ≤ 39
    bound v w a b = unfold ascii total in omega (arith, pair-total "from" v (key_value "to" w ∷ []), pair-total "to" w [])

module _ (mode : Mode) (s : Step) (m : IsMade s) (p : Spelt mode (args s)) where
  abbrev own : List Parameter
  own = keyed "from" p.from ∷ keyed "to" p.to ∷ []

  abbrev adapt_table : List Parameter
  adapt_table = table_from (ascii "adapt") own (marks_of s)

  adapt-judged : operator s ≡ adapt_in mode → judged mode adapt_table ≡ answers s
  unfolding keyed latest look picked marks_of named name_of faulty unknown is_lacking misspelt too_long kind_of kind_in every_key own_keys flag numbered
      worded name bare any_of same ascii is_none own_rule word_given recorded choose
  adapt-judged e =
      table-judged mode (ascii "adapt") own (marks_of s) (marks-bare s) name-is.Adapt s refl refl refl
      (rw (looked (ascii "adapt") own (marks_of s) (marks-bare s) (ascii "from"), looked (ascii "adapt") own (marks_of s) (marks-bare s) (ascii "to"), p.again)
      (ap (λ (o : Operator). Some (record_of o adapt_table (args s))) (sym e)
      ∙ ap Some (record-again s (ascii "adapt") own (record { no-inv = refl; no-fwd = refl; no-back = refl }) m)))

  adapt-own : map parameter (arg_words (adapt_in mode) (args s)) ≡ own
  adapt-own =
      let no_sign : below 127 (λ b. so (firm b) (not (is "=" b))) ≡ true = unfold below so firm known any_of ascii in refl in
      let f = parameter-pair "from" p.from (unfold lacks any_of ascii in refl) (firm-lacks (is "=") no_sign _ p.from-firm.firmly) in
      let t = parameter-pair "to" p.to (unfold lacks any_of ascii in refl) (firm-lacks (is "=") no_sign _ p.to-firm.firmly) in
      rw (p.are, f, t)

adapt-again : (mode : Mode) (s : Step) → IsMade s → operator s ≡ adapt_in mode → words_judged mode s (name_word (adapt_in mode)) (arg_words (adapt_in mode) (args s)) ≡ answers s
adapt-again mode s m e =
    let p = spelt-in mode (args s) (rw e at m.keeps.rule) in
    rw (name-in mode) (by-own mode s (ascii "adapt") (arg_words (adapt_in mode) (args s)) _ (adapt-own mode s m p) (adapt-judged mode s m p e))

-- the other mode does not make it
only-own : (mode other : Mode) → is_of_mode other (adapt_in mode) ≡ true → other ≡ mode
unfolding is_of_mode number_of adapt_in other_mode
only-own mode-is.Crate mode-is.Crate h = refl
only-own mode-is.Crate mode-is.Documented h = absurd (false≢true h)
only-own mode-is.Documented mode-is.Crate h = absurd (false≢true h)
only-own mode-is.Documented mode-is.Documented h = refl

adapt-name : PlainName (ascii "adapt")
unfolding word.worded calm firm known follows middle quiet end_of lacks white modifier same any_of ascii
adapt-name = record { reads = refl; no-modifier = refl; no_value = refl }

pub adapt-text : (mode : Mode) → HasText (adapt_in mode)
adapt-text mode =
    record {
      named = rw (name-in mode) adapt-name;
      says = λ l f h r. adapt-says mode l (spelt-in mode l r);
      again = λ other of s m e. rw (only-own mode other of) (adapt-again mode s m e);
    }
