-- The words of the release's demands: what the page of promises says of a result, and of lent storage before and after.
use Rattle.rules.specs.declared.Refusal.{Refusal}
use Rattle.rules.specs.declared.Finished.{Finished}
use Rattle.std.specs.Prelude.{◌≡◌, ℕ, ◌+◌, ◌-◌, ◌*◌, ◌^◌, ◌≤◌, ◌<◌, Bool, true, false, cond, ◌||◌, leb, eqb, length, drop, get_or, ℤ, Float, Option, Some, None, Result, Ok}
use mathlib.Core.List.{List, [], ◌∷◌, ◌++◌, map, flat_map}
use Rattle.std.specs.Float.{nan, binary64}
use Rattle.std.specs.Float.Ieee.{neg, nan_bits, of_bits}
use Rattle.rules.specs.Text.Ascii.{ascii, is}
use Rattle.rules.specs.Text.Lists.{any_of, non_empty}
use Rattle.rules.specs.Text.Decimal.{decimal, pieces, minus}
use Rattle.rules.specs.Text.Normal.{normal}
use Rattle.rules.specs.Text.Split.{turned, step_text, steps}
use Rattle.rules.specs.Text.Parameters.{parameter, value_in, table_of}
use Rattle.rules.specs.Operators.Arguments.{arg, value_of}
use Rattle.rules.specs.Operators.Numbers.{turn}
use Rattle.rules.specs.Operators.Adapt.{Word, one, angle, mult}
use Rattle.rules.specs.Operators.Documented.{carries_angle}
use Rattle.rules.specs.Pipeline.Running.{Numbered}
use Rattle.rules.specs.Pipeline.Columns.{takes, after}
use Rattle.rules.specs.Pipeline.Tuples.{acted}
use Rattle.rules.specs.Pipeline.Run.{start, done}
use Rattle.rules.specs.Pipeline.Keys.{kind_of}
use Rattle.rules.specs.Pipeline.Offsets.{cut_text}
use Rattle.rules.specs.Pipeline.Prepare.{named}
use Rattle.rules.specs.Text.Bytes.{Bytes, Words, same, words}
use Rattle.rules.specs.Text.Refusal.{Reply, Promised, Writes, refusal}
use Rattle.rules.specs.Face.Plain.{plain_written, replied}
use Rattle.rules.specs.Text.Reader.{step, next, part}
use Rattle.rules.specs.Pipeline.Record.{span_end, spanless}
use Rattle.rules.specs.declared.Span.{Span}
use Rattle.rules.specs.declared.Step.{Step}
use Rattle.rules.specs.declared.Answer.{Answer}
use Rattle.rules.specs.declared.Found.{Found}
use Rattle.rules.specs.declared.Foretold.{Foretold}
use Rattle.rules.specs.declared.Verdict.TheVariants as verdict-is
use Rattle.rules.specs.declared.Kind.{Kind}
use Rattle.rules.specs.declared.Kind.TheVariants.{Flag, Series}
use Rattle.rules.specs.declared.Name.{Name}

-- ---- demand 1

-- one of the numbers listed
abbrev pub OneOf : List ℕ → ℕ → Type 0
OneOf numbers number = any_of (eqb number) numbers ≡ true

-- "It answers, or refuses with a number from the documents' tables, and a refused call alters nothing it was lent": what a call
-- returned, and the storage that it was lent, before and after. An answer of n fits, and "writes nothing past its own end". A refusal has a
-- number and a place, and in the words of some calls an offset.
pub data Ends {A R : Type 0} (answer : ℕ → R) (refusal : ℕ → ℕ → ℕ → R) (numbers : List ℕ) (storage : List A) (result : R) (storage' : List A) : Type 0 where
  answers : (n : ℕ) → result ≡ answer n → n ≤ length storage → length storage' ≡ length storage → drop n storage' ≡ drop n storage
      → Ends answer refusal numbers storage result storage'
  refuses : (number place offset : ℕ) → result ≡ refusal number place offset → OneOf numbers number → storage' ≡ storage
      → Ends answer refusal numbers storage result storage'

-- a text call's refusal, in which there is no offset
abbrev pub text_refusal : ℕ → ℕ → ℕ → Result ℕ Refusal
text_refusal number place offset = refusal number place

-- The same of a run, which is lent a list and a store, and uses the store up to a place.
pub data RunEnds (numbers : List ℕ) (used : ℕ) (xs store : List Float) (result : Result Finished Refusal) (xs' store' : List Float) : Type 0 where
  answers : (count left : ℕ) → result ≡ done count left → length xs' ≡ length xs → length store' ≡ length store → drop used store' ≡ drop used store
      → RunEnds numbers used xs store result xs' store'
  refuses : (number place : ℕ) → result ≡ refusal number place → OneOf numbers number → xs' ≡ xs → store' ≡ store
      → RunEnds numbers used xs store result xs' store'

-- the check, which is lent nothing to write into: a pass, a step and what is wrong with it, or refusal 18
pub data CheckEnds (f : Foretold) : Type 0 where
  passes : f.verdict ≡ verdict-is.Passes → CheckEnds f
  too_few : (k : ℕ) → f.verdict ≡ verdict-is.TooFew k → CheckEnds f
  too_many : (k : ℕ) → f.verdict ≡ verdict-is.TooMany k → CheckEnds f
  refuses : (k : ℕ) → f.verdict ≡ verdict-is.Refused 18 k → CheckEnds f

-- the reader, which is lent nothing to write into: the end, or a step of at least one byte, at its place or further on
pub data NextEnds (text : Bytes) (at : ℕ) (r : Option Found) : Type 0 where
  ends : r ≡ None → NextEnds text at r
  finds : (from to : ℕ) → r ≡ step from to → at ≤ from → from < to → to ≤ length text → NextEnds text at r

-- A text call for C and Rust: behind its answer there is one of the call that it exports, with the same buffer afterwards, and number 0
-- is an answer, of that length.
abbrev pub ExportsText : (Bytes → Reply Bytes) → Type 0
ExportsText own = (text out : Bytes) (r : Answer) (out' : Bytes) → Promised replied own text out r out'
    → (w : Result ℕ Refusal) × Writes own text out w out' × (r ≡ plain_written w) × (r.number ≡ 0 → w ≡ Ok r.length)

-- ---- demand 3: the steps of a run, in running order

-- the columns that there are after these steps of a run on a list
abbrev pub depth_after : List Numbered → List Float → ℕ
depth_after l xs = length (after acted l (start xs)).columns

-- a step finds as many columns as it takes, after the steps before it, and leaves at most 64
pub record Well (xs : List Float) (before : List Numbered) (s : Numbered) : Type 0 where
  pub finds : takes s.does ≤ depth_after before xs
  pub leaves : depth_after (before ++ (s ∷ [])) xs ≤ 64

-- every step of them, wherever they are cut in two
abbrev pub EachWell : List Numbered → List Float → Type 0
EachWell l xs = (before : List Numbered) (s : Numbered) (rest : List Numbered) → l ≡ before ++ (s ∷ rest) → Well xs before s

-- a step "finds fewer columns than it takes"
pub record Few (xs : List Float) (before : List Numbered) (s : Numbered) : Type 0 where
  pub finds : depth_after before xs < takes s.does

-- or it finds enough, and "the depth exceeds 64"
pub record Many (xs : List Float) (before : List Numbered) (s : Numbered) : Type 0 where
  pub finds : takes s.does ≤ depth_after before xs
  pub leaves : 64 < depth_after (before ++ (s ∷ [])) xs

-- "the first step at fault in running order", which stands at place k of the table: all before it are well, and it is not
pub record FirstAtFault (fault : List Numbered → Numbered → Type 0) (k : ℕ) (l : List Numbered) (xs : List Float) : Type 0 where
  pub before : List Numbered
  pub step : Numbered
  pub rest : List Numbered
  pub in_order : l ≡ before ++ (step ∷ rest)
  pub well-before : EachWell before xs
  pub at_place : step.place ≡ k
  pub at-fault : fault before step

-- ---- demand 3: the bits of numbers

-- number j of tuple i of a list: tuples count from 0, places from 1
abbrev pub number_at : List Float → ℕ → ℕ → Float
number_at xs i j = get_or xs (i * 4 + (j - 1)) nan

-- 64 bits that stand for a number in storage: each number but NaN has one such pattern
pub record Bits (p : ℕ) (x : Float) : Type 0 where
  pub wide : p < 2 ^ 64
  pub reads : of_bits binary64 p ≡ x

-- bits with the sign, bit 63, turned
abbrev pub sign_turned : ℕ → ℕ
sign_turned p = cond (leb (2 ^ 63) p) (p - 2 ^ 63) (p + 2 ^ 63)

-- "sign kept or turned": the bits p of an input and q of an output, bit for bit, or NaN for NaN
pub data Alike (minus : Bool) (p q : ℕ) : Type 0 where
  bit-for-bit : q ≡ cond minus (sign_turned p) p → Alike minus p q
  nan-for-nan : nan_bits binary64 p ≡ true → nan_bits binary64 q ≡ true → Alike minus p q

-- ---- document 02, request 2

-- the sign and the angle of place i of a word: "only east, west, north and south carry an angle wherever they stand"
unfoldable pub sign_angle : Word → ℕ → Float
sign_angle w i = turn (minus (arg i w.axes)) (angle (cond (carries_angle (arg i w.axes)) w.angle 0))

-- "plus or minus one"
pub data IsUnit (x : Float) : Type 0 where
  plus_one : x ≡ one → IsUnit x
  minus_one : x ≡ neg one → IsUnit x

-- "Where every factor is plus or minus one": the four factors of an `adapt` step with these arguments
abbrev pub EachUnit : List ℤ → Type 0
EachUnit l = (i : ℕ) → 1 ≤ i → i ≤ 4 → IsUnit (mult l i)

-- ---- document 02, request 3: where refusal 12 is

-- how many bytes texts take, with a `sep` behind each
abbrev pub taken : Bytes → List Bytes → ℕ
taken sep ts = length (flat_map (λ (t : Bytes). t ++ sep) ts)

-- A word of a step's that gives a key its value, and the byte of the step's text at which the word begins, for one space stands between words. "The first
-- element, if it has no `=`, is the name"; "a repeated key takes the last value".
pub record Gives (ws : Words) (word : Bytes) (from : ℕ) : Type 0 where
  pub front : Words
  pub rest : Words
  pub in_order : ws ≡ front ++ (word ∷ rest)
  pub begins : from ≡ taken (ascii " ") front
  pub not-name : non_empty front || any_of (is "=") word ≡ true
  pub last : any_of (λ (w : Bytes). same (parameter word).key (parameter w).key) rest ≡ false

-- What refusal 12 is for, by what the word's key takes, and at which byte of the word: a flag's value that is not `true`, where the value begins; or "a series element
-- not in decimal form", behind the elements in front of it and their commas.
pub data Breaks (kind : Option Kind) (word bad : Bytes) (at : ℕ) : Type 0 where
  flag : kind ≡ Some Flag → bad ≡ (parameter word).value → (bad ≡ ascii "true" → ⊥) → at ≡ value_in word → Breaks kind word bad at
  element : kind ≡ Some Series → (front rest : List Bytes) → pieces (parameter word).value ≡ front ++ (bad ∷ rest) → decimal bad ≡ None
      → at ≡ value_in word + taken (ascii ",") front → Breaks kind word bad at

-- that there is such a fault at a byte of the step's text
pub record FaultAt (n : Name) (ws : Words) (offset : ℕ) : Type 0 where
  pub word : Bytes
  pub bad : Bytes
  pub from : ℕ
  pub at : ℕ
  pub gives : Gives ws word from
  pub breaks : Breaks (kind_of n (parameter word)) word bad at
  pub offset-is : offset ≡ from + at

-- what stands in a text, from a byte on
pub record StandsAt (text : Bytes) (offset : ℕ) (part : Bytes) : Type 0 where
  pub front : Bytes
  pub rest : Bytes
  pub in_order : text ≡ front ++ (part ++ rest)
  pub begins : offset ≡ length front

-- The offset of a refusal 12 is right: the step at that place has an operator's name, there is a fault at that byte of "the step's text as cut into parameters", and
-- none before it. What is bad stands there in the text; of a missing value it is "the byte after its key".
pub record FirstFault (text : Bytes) (place offset : ℕ) : Type 0 where
  pub before : List Bytes
  pub step : Bytes
  pub rest : List Bytes
  pub in_order : map step_text (steps text) ≡ before ++ (step ∷ rest)
  pub at_place : place ≡ length before + 1
  pub operator : Name
  pub has-name : named (value_of (ascii "_name") (table_of (words (normal step)))) ≡ Some operator
  pub at-fault : FaultAt operator (turned (words (normal step))) offset
  pub none_before : (other : ℕ) → FaultAt operator (turned (words (normal step))) other → offset ≤ other
  pub stands : any_of (is "=") at-fault.word ≡ true → StandsAt (cut_text step) offset at-fault.bad
  pub missing : any_of (is "=") at-fault.word ≡ false → (from : ℕ) × StandsAt (cut_text step) from at-fault.word × (offset ≡ from + length at-fault.word)

-- ---- document 02, request 4: where a step's text stands

-- the bytes of a text at a span
abbrev pub bytes_at : Bytes → Span → Bytes
bytes_at text p = part p.from (span_end p) text

-- "Spans of a table rise and do not overlap": each has bytes, ends by `most`, and begins where the last one ends or behind it
unfoldable pub Rise : ℕ → ℕ → List Step → Type 0
Rise most end [] = Unit {0}
Rise most end (s ∷ l) = (end ≤ s.span.from) × (0 < s.span.length) × (span_end s.span ≤ most) × Rise most (span_end s.span) l

-- The walk over the steps: from the reader's place on it finds the first record's text at its span, from there on the next one's, and behind the last one none.
unfoldable pub Walk : Bytes → ℕ → List Step → Type 0
Walk normalised at [] = next normalised at ≡ None
Walk normalised at (s ∷ l) = (next normalised at ≡ step s.span.from (span_end s.span)) × Walk normalised (span_end s.span) l

-- "differ only there": two tables with the same records, spans aside
abbrev pub SameButSpans : List Step → List Step → Type 0
SameButSpans t u = map spanless t ≡ map spanless u

-- what the check answers of the one and of the other: all that it tells is the same, but for the span
pub record SaysTheSame (f g : Foretold) : Type 0 where
  pub verdict : f.verdict ≡ g.verdict
  pub run : f.run ≡ g.run
  pub depths : f.depths ≡ g.depths
  pub deepest : f.deepest ≡ g.deepest
  pub left : f.left ≡ g.left
  pub told : f.told ≡ g.told
  pub places : f.places ≡ g.places
