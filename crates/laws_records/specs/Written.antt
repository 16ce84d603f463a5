-- The words of a record: its name, its arguments, its marks. Each can be read, and together they have 61 bytes at most.
use Rattle.std.specs.Prelude.{◌≡◌, refl, suc, ◌+◌, ◌≤◌, Bool, true, false, cond, List, [], ◌∷◌, ◌++◌, map, length}
use Rattle.std.proofs.Common.{le_refl, arith}
use Rattle.std.proofs.Math.ListN.{length-append}
use Rattle.rules.specs.Text.Ascii.{ascii}
use Rattle.rules.specs.Text.Lists.{any_of, all_of}
use Rattle.rules.specs.Text.Bytes.{white, joined}
use Rattle.rules.specs.Pipeline.Record.{operator, args}
use Rattle.rules.specs.Pipeline.Write.{name_word, arg_words, operator_words, mark_words, step_words, writing}
use Rattle.rules.specs.declared.Step.{Step}
use Rattle.laws_lists.specs.Lists.{all_append}
use Rattle.laws_lists.specs.Tests.{and_left, and_right}
use Rattle.laws_records.specs.Calm.{known, firm, middle, follows, quiet, end_of, calm}
use Rattle.laws_records.specs.Settled.{lacks}
use Rattle.laws_records.specs.Given.{Flag, chosen}
use Rattle.laws_records.specs.Worded.{worded, Spoken}
use Rattle.laws_records.specs.Sayings.{total, total-append, joined-total}
use Rattle.laws_records.specs.Kept.{Kept}
use Rattle.laws_records.specs.Records.{marks_of, mark-words}
use Rattle.laws_records.specs.Owed.{Says, PlainName}
use Rattle.laws_records.specs.Operators.Table.{has-text}

-- ---- the marks

all-chosen : (fs : List Flag) → all_of (λ (f : Flag). worded f.word) fs ≡ true → all_of worded (chosen fs) ≡ true
unfolding all_of chosen
all-chosen [] h = refl
all-chosen (f ∷ fs) h = go f.given (all-chosen fs (and_right (worded f.word) _ h))
  where
    go : (b : Bool) → all_of worded (chosen fs) ≡ true → all_of worded (cond b (f.word ∷ chosen fs) (chosen fs)) ≡ true
    go true r = rw (and_left (worded f.word) _ h) r
    go false r = r

marks-worded : (s : Step) → all_of worded (mark_words s) ≡ true
marks-worded s = rw (mark-words s) (all-chosen (marks_of s) (unfold all_of marks_of worded calm firm known follows middle quiet end_of lacks white any_of ascii in refl))

-- not longer than if all were there
chosen-length : (fs : List Flag) → length (chosen fs) ≤ length fs
unfolding chosen
chosen-length [] = le_refl 0
chosen-length (f ∷ fs) = go f.given (chosen-length fs)
  where
    go : (b : Bool) → length (chosen fs) ≤ length fs → length (cond b (f.word ∷ chosen fs) (chosen fs)) ≤ suc (length fs)
    go true h = omega arith
    go false h = omega arith

chosen-total : (fs : List Flag) → total (chosen fs) ≤ total (map (λ (f : Flag). f.word) fs)
unfolding chosen total
chosen-total [] = le_refl 0
chosen-total (f ∷ fs) = go f.given (chosen-total fs)
  where
    go : (b : Bool) → total (chosen fs) ≤ total (map (λ (f : Flag). f.word) fs) → total (cond b (f.word ∷ chosen fs) (chosen fs)) ≤ suc (length f.word) + total (map (λ (f : Flag). f.word) fs)
    go true h = omega arith
    go false h = omega arith

marks-few : (s : Step) → length (mark_words s) ≤ 3
unfolding marks_of
marks-few s = rw (mark-words s) (chosen-length (marks_of s))

marks-short : (s : Step) → total (mark_words s) ≤ 22
unfolding marks_of ascii total
marks-short s = rw (mark-words s) (chosen-total (marks_of s))

-- ---- the whole step

module _ (s : Step) (k : Kept (operator s) (args s)) where
  step-says : Says (operator s) (args s)
  step-says = (has-text (operator s)).says (args s) k.fit k.nines k.rule

  step-name : PlainName (name_word (operator s))
  step-name = (has-text (operator s)).named

  pub step-spoken : Spoken (name_word (operator s)) (arg_words (operator s) (args s) ++ mark_words s)
  step-spoken =
      record {
        each = unfold all_of in rw step-name.reads (all_append worded (arg_words (operator s) (args s)) (mark_words s) step-says.each (marks-worded s));
        no-modifier = step-name.no-modifier;
        no_value = step-name.no_value;
        few = omega (arith, length-append (arg_words (operator s) (args s)) (mark_words s), step-says.few, marks-few s);
      }

  -- 64 of them, with three bytes between, have 4,096 at most
  pub writing-short : length (writing s) ≤ 61
  unfolding writing step_words operator_words joined
  writing-short =
      let a = joined-total 32 (name_word (operator s)) (arg_words (operator s) (args s) ++ mark_words s) in
      let b = total-append (name_word (operator s) ∷ arg_words (operator s) (args s)) (mark_words s) in
      omega (arith, step-says.short, marks-short s)
