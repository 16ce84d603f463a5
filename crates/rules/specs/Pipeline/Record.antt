-- Step records: one is made in one place, `step_with`, named for its reading, and told where its text stands; the records that a preparation
-- makes, by one test; and a table of them.
use Rattle.std.specs.Prelude.{ℕ, suc, ◌+◌, ◌-◌, Bool, cond, ◌&&◌, List, [], ◌∷◌, ◌++◌, length, take, drop, replicate, leb, ltb, eqb, ℤ, pos, Option, None, Some}
use Rattle.rules.specs.Text.Lists.{all_of}
use Rattle.rules.specs.Operators.Arguments.{size}
use Rattle.rules.specs.Operators.Descriptions.{Operator}
use Rattle.rules.specs.Operators.Table.{operator_of, is_args, is_of_mode, greatest}
use Rattle.rules.specs.declared.Mode.{Mode}
use Rattle.rules.specs.declared.Reading.{Reading}
use Rattle.rules.specs.declared.Reading.TheVariants.{Crate, Proj}
use Rattle.rules.specs.declared.Span.{Span}
use Rattle.rules.specs.declared.Step.{Step}
use Rattle.rules.specs.declared.Table.{Table}

-- ---- the two readings

-- by their numbers in a record, and as a number says them: 0 the crate's, any other PROJ's
unfoldable pub reading_number : Reading → ℕ
reading_number Crate = 0
reading_number Proj = 1

unfoldable pub reading_of : ℕ → Reading
reading_of number = cond (eqb number 0) Crate Proj

-- ---- spans

-- no bytes of a text
abbrev pub no_span : Span
no_span = record { from = 0; length = 0 }

-- the byte after its last
unfoldable pub span_end : Span → ℕ
span_end p = p.from + p.length

-- ---- a record

-- "A step record carries up to eight arguments in place": the operator by its number, the arguments in the first of eight slots, the
-- others zero, and the marks `inv`, `omit_fwd`, `omit_inv`, each 0 or 1. Its reading is the crate's, and it tells of no span.
unfoldable pub step_with : ℕ → List ℤ → ℕ → ℕ → ℕ → Step
unfolding reading_number
step_with number l inv fwd back =
    record {
      operator = number;
      n = length l;
      inv = inv;
      omit_fwd = fwd;
      omit_inv = back;
      reading = reading_number Crate;
      args = l ++ replicate (8 - length l) (pos 0);
      span = no_span;
    }

-- "Records name their reading.": the same record in a reading
unfoldable pub in_reading : Reading → Step → Step
in_reading r s =
    record {
      operator = s.operator;
      n = s.n;
      inv = s.inv;
      omit_fwd = s.omit_fwd;
      omit_inv = s.omit_inv;
      reading = reading_number r;
      args = s.args;
      span = s.span;
    }

-- "Each step record gains the first byte and length of its text": the same record with a span; and "spans aside"
unfoldable pub spanned : Span → Step → Step
spanned p s =
    record {
      operator = s.operator;
      n = s.n;
      inv = s.inv;
      omit_fwd = s.omit_fwd;
      omit_inv = s.omit_inv;
      reading = s.reading;
      args = s.args;
      span = p;
    }

unfoldable pub spanless : Step → Step
spanless s = spanned no_span s

-- records, each with its span
unfoldable pub with_spans : List Span → List Step → List Step
with_spans [] l = l
with_spans (p ∷ ps) [] = []
with_spans (p ∷ ps) (s ∷ l) = spanned p s ∷ with_spans ps l

-- the operator, the arguments in use, and the slots that are not
unfoldable pub operator : Step → Operator
operator s = operator_of s.operator

unfoldable pub args : Step → List ℤ
args s = take s.n s.args

unfoldable pub unused : Step → List ℤ
unused s = drop s.n s.args

-- a mark that is set
unfoldable pub is_set : ℕ → Bool
is_set mark = eqb mark 1

-- a record that a preparation in this mode can make: not one of the other mode's `adapt`
unfoldable pub of_mode : Mode → Step → Bool
of_mode m s = is_of_mode m (operator s)

-- ---- the records that a preparation makes

-- a whole number of nine digits at most
unfoldable pub nine_digits : ℤ → Bool
nine_digits x = leb (size x) 999999999

-- 18: "a step record no preparation makes" is one of which this is false, whatever its span
unfoldable pub made : Step → Bool
made s =
    leb s.operator greatest
    && (leb s.n 8
    && (leb s.inv 1
    && (leb s.omit_fwd 1
    && (leb s.omit_inv 1
    && (leb s.reading 1
    && (all_of (λ (x : ℤ). eqb (size x) 0) (unused s)
    && (all_of nine_digits (args s) && is_args (operator s) (args s))))))))

-- "18 also names the first record whose span is empty, passes byte 40,960 or starts before the last one ends": one of which this is
-- false. `end` is the byte at which the last one ends.
unfoldable pub good_span : ℕ → Span → Bool
good_span end p = ltb 0 p.length && (leb (span_end p) 40960 && leb end p.from)

-- of a table: "18 at a record whose reading is not the first's", too
unfoldable pub table_reading : List Step → ℕ
table_reading [] = 0
table_reading (s ∷ l) = s.reading

unfoldable pub good_in : ℕ → ℕ → Step → Bool
good_in reading end s = made s && (eqb s.reading reading && good_span end s.span)

-- the first bad record, counted from k, of records in that reading, behind one whose span ends there
unfoldable pub first_bad : ℕ → ℕ → ℕ → List Step → Option ℕ
first_bad reading end k [] = None
first_bad reading end k (s ∷ l) = cond (good_in reading end s) (first_bad reading (span_end s.span) (suc k) l) (Some k)

-- "18 is 0 for over 64 records, else the first bad record": the place of refusal 18, if it is given
unfoldable pub refusal18 : List Step → Option ℕ
refusal18 l = cond (ltb 64 (length l)) (Some 0) (first_bad (table_reading l) 0 1 l)

-- ---- a table by value

-- a record with nothing in it
unfoldable pub blank : Step
unfolding step_with
blank = step_with 0 [] 0 0 0

-- The records of a table: n of them. It holds 64; those past them count, and nothing else is known of them.
unfoldable pub listed : Table → List Step
listed t = take t.n t.steps ++ replicate (t.n - 64) blank
