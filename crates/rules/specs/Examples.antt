-- Document 01's examples, input beside outcome: P1 to P13 in one table, the line below them in a second, what the program `steps`
-- prints in a third, what `write` answers in a fourth; document 02's, of the reading named PROJ, of the documented mode, of offsets and of spans, in four more; and a few of
-- the words in which the demands are said. That every row of them holds is the one statement of specs/ExamplesHold.antt.
use Rattle.std.specs.Prelude.{◌≡◌, ℕ, true, false, take, drop, replicate, ℤ, pos, Float}
use Prim.Native.String.{String}
use mathlib.Core.List.{List, [], ◌∷◌, ◌++◌, map, flat_map}
use Rattle.std.specs.Float.{binary64}
use Rattle.std.specs.Float.Ieee.{of_int, to_bits}
use Rattle.rules.specs.Text.Ascii.{ascii}
use Rattle.rules.specs.Text.Bytes.{Bytes}
use Rattle.rules.specs.Text.Refusal.{Reply, answers, refuses, refuses12, tested}
use Rattle.rules.specs.Text.Normal.{normalise}
use Rattle.rules.specs.Text.Split.{line, split}
use Rattle.rules.specs.Text.Parameters.{parameters}
use Rattle.rules.specs.Text.Reader.{define}
use Rattle.rules.specs.Proj.Translate.{translate}
use Rattle.rules.specs.Text.Decimal.{signed}
use Rattle.rules.specs.Pipeline.Offsets.{cut_text}
use Rattle.rules.specs.Pipeline.Prepare.{prepare, prepare_as}
use Rattle.rules.specs.Operators.Acts.{Act, pushes, pops_all, flips, rolls, swaps, drops, orders}
use Rattle.rules.specs.Pipeline.Record.{no_span, args, with_spans}
use Rattle.rules.specs.Pipeline.Running.{act}
use Rattle.rules.specs.Pipeline.Run.{Outcome, runs}
use Rattle.rules.specs.Pipeline.Check.{plus, four, check}
use Rattle.rules.specs.Pipeline.Write.{write}
use Rattle.rules.specs.Face.Shown.{shown}
use Rattle.rules.specs.Face.Demands.{number_at, sign_turned}
use Rattle.rules.specs.declared.Mode.{Mode}
use Rattle.rules.specs.declared.Mode.TheVariants as mode
use Rattle.rules.specs.declared.Reading.{Reading}
use Rattle.rules.specs.declared.Reading.TheVariants.{Crate, Proj}
use Rattle.rules.specs.declared.Span.{Span}
use Rattle.rules.specs.declared.Step.{Step}
use Rattle.rules.specs.declared.Direction.{Direction}
use Rattle.rules.specs.declared.Direction.TheVariants.{Forward, Inverse}
use Rattle.rules.specs.declared.Verdict.{Verdict}
use Rattle.rules.specs.declared.Foretold.{Foretold}
use Rattle.rules.specs.declared.Verdict.TheVariants.{Passes, TooFew, TooMany, Refused}

-- a row: its mark, what is asked, and the outcome
pub data Example : Type 1 where
  says : {A : Type 0} → String → A → A → Example

-- ---- what is asked

-- a call on a text, "1, 2, then their own"
unfoldable pub on : {A : Type 0} → (Bytes → Reply A) → String → Reply A
on call text = tested call (ascii text)

-- the number that refuses, 0 if none does
unfoldable pub refusal : {A : Type 0} → Reply A → ℕ
refusal (answers x) = 0
refusal (refuses number place) = number
refusal (refuses12 place offset) = 12

-- and its offset
unfoldable pub refusal_of : {A : Type 0} → Reply A → ℕ × ℕ
refusal_of (answers x) = (0, 0)
refusal_of (refuses number place) = (number, 0)
refusal_of (refuses12 place offset) = (12, offset)

-- the records of an answer
unfoldable pub records : Reply (List Step) → List Step
records (answers l) = l
records (refuses number place) = []
records (refuses12 place offset) = []

-- a run of a definition, with no store or with one; the check's verdict on a definition
unfoldable pub ran : Direction → String → List Float → List Float → Outcome
ran d text xs store = runs d (records (on prepare text)) xs store

unfoldable pub verdict_on : Direction → String → Verdict
verdict_on d text = (check d (records (on prepare text))).verdict

-- whole numbers as f64, and -1
unfoldable pub floats : List ℤ → List Float
floats l = map (of_int binary64) l

abbrev pub minus1 : ℤ
minus1 = signed true 1

abbrev pub one_to_four : List Float
one_to_four = floats (pos 1 ∷ pos 2 ∷ pos 3 ∷ pos 4 ∷ [])

-- ---- the table

-- (P3 normalises twice, and P11 and P12 say two things each: they take two rows. P12's columns a, b, c are those that a
-- push of 1, 2, 3 makes; the store shows them bottom first.)
unfoldable pub examples : List Example
examples =
    says "P1" (on normalise "a : b $ c") (answers (ascii "a:b $c"))
    ∷ says "P2" (on normalise "a > b < c") (answers (ascii "a|omit_inv b|omit_fwd c"))
    ∷ says "P3" (on normalise ": : a") (answers (ascii ":a"))
    ∷ says "P3" (on normalise ":a") (answers (ascii "a"))
    ∷ says "P4" (on split "inv a x=1 | | b") (answers (ascii "a x=1 inv\nb\n"))
    ∷ says "P5" (on split "a >") (refuses 6 2)
    ∷ says "P6" (on parameters "a k=1 k=2 f b=c=d") (answers (ascii "_name=a\nb=c\nf=true\nk=2\n"))
    ∷ says "P7" (on translate "proj=x step step") (answers (ascii "x | step"))
    ∷ says "P8" (on translate "b=1 c=2 proj=x a=7 rf=9 k=3") (answers (ascii "x c=2 b=1 k_0=3 ellps=7,9"))
    ∷ says "P9" (on translate "proj=x step inv") (refuses 5 2)
    ∷ says "P10" (on translate "proj=pipeline inv step proj=x step inv") (answers (ascii "| x inv"))
    ∷ says "P11" (ran Forward "axisswap order=2,-1" one_to_four []).list (floats (pos 2 ∷ minus1 ∷ pos 3 ∷ pos 4 ∷ []))
    ∷ says "P11" (ran Inverse "axisswap order=2,-1" (floats (pos 2 ∷ minus1 ∷ pos 3 ∷ pos 4 ∷ [])) []).list one_to_four
    ∷ says "P12" (ran Forward "push v_1 v_2 v_3 | stack roll=3,2" one_to_four (replicate 3 (of_int binary64 (pos 0)))).store (floats (pos 2 ∷ pos 3 ∷ pos 1 ∷ []))
    ∷ says "P12" (ran Forward "push v_1 v_2 v_3 | stack roll=3,-2" one_to_four (replicate 3 (of_int binary64 (pos 0)))).store (floats (pos 3 ∷ pos 1 ∷ pos 2 ∷ []))
    ∷ says "P13" (verdict_on Forward "pop inv v_3 | push inv v_3") (TooFew 1)
    ∷ []

-- eight pushes of eight columns
abbrev pub sixty_four : Bytes
sixty_four = flat_map (λ (i : ℕ). ascii "stack push=1,2,3,4,1,2,3,4|") (replicate 8 0)

unfoldable pub deep : Bytes → Foretold
deep text = check Forward (records (tested prepare text))

-- the line "Also" below the table, and two of the "Slips to keep out" (the third, rotating `proj=`, is P8)
unfoldable pub also : List Example
also =
    says "4,096 bytes pass" (tested translate (replicate 4096 97)) (answers (replicate 4096 97))
    ∷ says "4,097 do not" (tested translate (replicate 4097 97)) (refuses 1 0)
    ∷ says "roll 1,0 passes" (refusal (on prepare "stack roll=1,0")) 0
    ∷ says "3,3 .." (on prepare "stack roll=3,3") (refuses 14 1)
    ∷ says "and 0,0 do not" (on prepare "stack roll=0,0") (refuses 14 1)
    ∷ says "order `1` .." (refusal (on prepare "axisswap order=1")) 0
    ∷ says "and `1.0,2` pass" (refusal (on prepare "axisswap order=1.0,2")) 0
    ∷ says "`2`" (on prepare "axisswap order=2") (refuses 14 1)
    ∷ says "`1,1`" (on prepare "axisswap order=1,1") (refuses 14 1)
    ∷ says "`1.5`" (on prepare "axisswap order=1.5") (refuses 14 1)
    ∷ says "`-0` do not" (on prepare "axisswap order=-0") (refuses 14 1)
    ∷ says "eight arguments pass" (refusal (on prepare "stack push=1,2,3,4,1,2,3,4")) 0
    ∷ says "nine do not" (on prepare "stack push=1,2,3,4,1,2,3,4,1") (refuses 13 1)
    ∷ says "depth 64 passes" (deep sixty_four).verdict Passes
    ∷ says "and 64 is the deepest there" (deep sixty_four).deepest 64
    ∷ says "65 does not" (deep (sixty_four ++ ascii "push v_1")).verdict (TooMany 9)
    ∷ says "adapt" (ran Forward "adapt from=nwuf" one_to_four []).list (floats (pos 2 ∷ minus1 ∷ pos 3 ∷ pos 4 ∷ []))
    ∷ says "a slip: modifiers" (on prepare "push | :inv") (refuses 6 2)
    ∷ says "a slip: undoing flip=1,1" (ran Inverse "stack flip=1,1 | pop v_1 v_3" one_to_four (replicate 2 (of_int binary64 (pos 0)))).store (floats (pos 3 ∷ pos 1 ∷ []))
    ∷ []

-- ---- the program `steps`: what is read, and the lines that are printed, "each line ended by a newline"

unfoldable pub prints_as : Reading → Mode → String → List String → Example
prints_as r m text lines = says text (shown r m (ascii text)) (flat_map (λ (l : String). line (ascii l)) lines)

unfoldable pub prints : String → List String → Example
prints text lines = prints_as Crate mode.Crate text lines

unfoldable pub printed : List Example
printed =
    prints "+proj=pipeline +step +proj=push +v_3 +step +proj=axisswap +order=2,1 +step +proj=pop +v_3" (
    "translated: push v_3 | axisswap order=2,1 | pop v_3"
    ∷ "step 1: push v_3"
    ∷ "step 2: axisswap order=2,1"
    ∷ "step 3: pop v_3"
    ∷ "forward: deepest 1 left 0 places 2,1,3,4"
    ∷ "inverse: deepest 1 left 0 places 2,1,3,4"
    ∷ []
    )
    ∷ prints "" (
    "translated: "
    ∷ "forward: deepest 0 left 0 places 1,2,3,4"
    ∷ "inverse: deepest 0 left 0 places 1,2,3,4"
    ∷ []
    )
    ∷ prints "pop inv v_3 | push inv v_3" (
    "translated: pop inv v_3 | push inv v_3"
    ∷ "step 1: pop inv v_3"
    ∷ "step 2: push inv v_3"
    ∷ "forward: step 1 too few"
    ∷ "inverse: step 2 too few"
    ∷ []
    )
    ∷ prints "adapt from=nwuf | axisswap order=2,-1 omit_fwd" (
    "translated: adapt from=nwuf | axisswap order=2,-1 omit_fwd"
    ∷ "step 1: adapt from=nwuf"
    ∷ "step 2: axisswap order=2,-1 omit_fwd"
    ∷ "forward: deepest 0 left 0"
    ∷ "inverse: deepest 0 left 0"
    ∷ []
    )
    ∷ prints "adapt from=nwuf omit_inv | axisswap order=2,-1" (
    "translated: adapt from=nwuf omit_inv | axisswap order=2,-1"
    ∷ "step 1: adapt from=nwuf omit_inv"
    ∷ "step 2: axisswap order=2,-1"
    ∷ "forward: deepest 0 left 0"
    ∷ "inverse: deepest 0 left 0 places -2,1,3,4"
    ∷ []
    )
    ∷ prints "push v_1 | inv" ("translated: push v_1 | inv" ∷ "refused 6 2" ∷ [])
    ∷ prints "push v_1 | :inv" ("translated: push v_1 | :inv" ∷ "step 1: push v_1" ∷ "step 2: :inv" ∷ "refused 6 2" ∷ [])
    ∷ prints "proj=x step inv" ("refused 5 2" ∷ [])
    ∷ prints_as Proj mode.Crate "pop inv v_3 | push inv v_3" (
    "translated: pop inv v_3 | push inv v_3"
    ∷ "step 1: pop inv v_3"
    ∷ "step 2: push inv v_3"
    ∷ "forward: deepest 1 left 0 places 1,2,3,4"
    ∷ "inverse: deepest 1 left 0 places 1,2,3,4"
    ∷ []
    )
    ∷ prints_as Crate mode.Documented "adapt from=nwuf | push v_1" (
    "translated: adapt from=nwuf | push v_1"
    ∷ "step 1: adapt from=nwuf"
    ∷ "step 2: push v_1"
    ∷ "forward: deepest 1 left 1"
    ∷ "inverse: step 2 too few"
    ∷ []
    )
    ∷ []

-- ---- the call `write`: a text, and the one that the records it prepares to are written as

unfoldable pub rewrites : String → String → Example
rewrites text again = says text (write (records (on prepare text))) (answers (ascii again))

unfoldable pub rewritten : List Example
rewritten =
    rewrites "push" "push"
    ∷ rewrites "inv pop v_3 v_1 omit_inv" "pop v_1 v_3 inv omit_inv"
    ∷ rewrites "> stack push=1,02,3.0" "stack push=1,2,3 omit_inv"
    ∷ rewrites "stack roll=999999999,-10 inv" "stack roll=999999999,-10 inv"
    ∷ rewrites "stack unroll=1,-0 | stack drop" "stack unroll=1,0 | stack drop"
    ∷ rewrites "axisswap" "axisswap order=1,2,3,4"
    ∷ rewrites "axisswap order=2,-1 omit_fwd" "axisswap order=2,-1 omit_fwd"
    ∷ rewrites "adapt from=nwuf" "adapt from=enuf to=nwuf"
    ∷ rewrites "adapt from=neuf_deg to=pass" "adapt from=enuf_deg to=neuf"
    ∷ rewrites "adapt from=wsdp_gon to=pden_deg" "adapt from=enuf_gon to=fuws_deg"
    ∷ []

-- ---- document 02, request 1: the reading named PROJ

-- the check of a definition in a reading, what its steps do, and its records, the first k in a reading and the others in another
unfoldable pub check_on : Reading → Direction → String → Foretold
check_on r d text = check d (records (on (prepare_as r mode.Crate) text))

unfoldable pub does_on : Reading → Direction → String → List Act
does_on r d text = map (act d) (records (on (prepare_as r mode.Crate) text))

unfoldable pub mixed : Reading → Reading → ℕ → String → List Step
mixed r q k text = take k (records (on (prepare_as r mode.Crate) text)) ++ drop k (records (on (prepare_as q mode.Crate) text))

abbrev pub pair : String
pair = "pop inv v_3 | push inv v_3"

unfoldable pub readings : List Example
readings =
    says "that pair passes forward" (check_on Proj Forward pair).verdict Passes
    ∷ says "with deepest 1" (check_on Proj Forward pair).deepest 1
    ∷ says "none left" (check_on Proj Forward pair).left 0
    ∷ says "places 1,2,3,4" (check_on Proj Forward pair).places (four (plus 1) (plus 2) (plus 3) (plus 4))
    ∷ says "in the crate's reading it is turned down" (check_on Crate Forward pair).verdict (TooFew 1)
    ∷ says "and inverse, as an upright pair does" (check_on Proj Inverse pair).verdict Passes
    ∷ says "`stack push=1,2 inv` pops 2, then 1" (does_on Proj Forward "stack push=1,2 inv") (pops_all (2 ∷ 1 ∷ []) ∷ [])
    ∷ says "and pushes 1, then 2, in an inverse run" (does_on Proj Inverse "stack push=1,2 inv") (pushes (1 ∷ 2 ∷ []) ∷ [])
    ∷ says "in the crate's reading it pushes" (does_on Crate Forward "stack push=1,2 inv") (pushes (1 ∷ 2 ∷ []) ∷ [])
    ∷ says "`stack roll=3,1 inv` is unroll" (does_on Proj Forward "stack roll=3,1 inv | stack unroll=3,1") (rolls 3 2 ∷ rolls 3 2 ∷ [])
    ∷ says "flip, swap and drop are unchanged by it" (does_on Proj Forward "stack flip=1,2 inv | stack swap inv | stack drop inv") (flips (1 ∷ 2 ∷ []) ∷ swaps ∷ drops ∷ [])
    ∷ says "`axisswap` is turned in both" (does_on Proj Forward "axisswap order=2,-1 inv") (orders true (pos 2 ∷ minus1 ∷ []) ∷ [])
    ∷ says "as in the crate's" (does_on Crate Forward "axisswap order=2,-1 inv") (orders true (pos 2 ∷ minus1 ∷ []) ∷ [])
    ∷ says "18 at a record whose reading is not the first's" (check Forward (mixed Proj Crate 1 "push v_1 | pop v_1")).verdict (Refused 18 2)
    ∷ says "whichever is the first's" (check Inverse (mixed Crate Proj 2 "push v_1 | pop v_1 | push v_1")).verdict (Refused 18 3)
    ∷ says "a text in either reading" (write (records (on (prepare_as Proj mode.Crate) pair))) (answers (ascii "pop v_3 inv | push v_3 inv"))
    ∷ []

-- ---- document 02, request 2: the documented mode

-- the records of a definition in a mode, a run of them, and the operators and arguments of records
unfoldable pub made_in : Mode → String → List Step
made_in m text = records (on (prepare_as Crate m) text)

unfoldable pub ran_in : Mode → Direction → String → List Float → List Float
ran_in m d text xs = (runs d (made_in m text) xs []).list

unfoldable pub records_in : Mode → String → List (ℕ × List ℤ)
records_in m text = map (λ (s : Step). (s.operator, args s)) (made_in m text)

unfoldable pub rewrites_in : Mode → String → String → Example
rewrites_in m text again = says text (write (made_in m text)) (answers (ascii again))

abbrev pub outputs : ℤ → ℤ → ℤ → ℤ → ℕ → ℕ → ℕ → ℕ → List ℤ
outputs a b c d e f g h = a ∷ b ∷ c ∷ d ∷ pos e ∷ pos f ∷ pos g ∷ pos h ∷ []

unfoldable pub modes : List Example
modes =
    says "`from=nwuf` sends 1,2,3,4 to -2,1,3,4" (ran_in mode.Documented Forward "adapt from=nwuf" one_to_four) (floats (signed true 2 ∷ pos 1 ∷ pos 3 ∷ pos 4 ∷ []))
    ∷ says "in the crate's mode to 2,-1,3,4" (ran_in mode.Crate Forward "adapt from=nwuf" one_to_four) (floats (pos 2 ∷ minus1 ∷ pos 3 ∷ pos 4 ∷ []))
    ∷ says "the inverse sends each number back" (ran_in mode.Documented Inverse "adapt from=nwuf" (floats (signed true 2 ∷ pos 1 ∷ pos 3 ∷ pos 4 ∷ []))) one_to_four
    ∷ says "and so does `inv`" (ran_in mode.Documented Forward "adapt from=nwuf | adapt from=nwuf inv" one_to_four) one_to_four
    ∷ says "in the crate's mode it does not" (ran_in mode.Crate Forward "adapt from=nwuf | adapt from=nwuf inv" one_to_four) (floats (minus1 ∷ signed true 2 ∷ pos 3 ∷ pos 4 ∷ []))
    ∷ says "of the word `unef_deg` places 2 and 3 carry the angle" (records_in mode.Documented "adapt to=unef_deg") ((11, outputs (pos 3) (pos 2) (pos 1) (pos 4) 0 1 1 0) ∷ [])
    ∷ says "in the crate's mode 1 and 2" (records_in mode.Crate "adapt to=unef_deg") ((10, outputs (pos 3) (pos 2) (pos 1) (pos 4) 1 1 0 0) ∷ [])
    ∷ says "up and down, future and past carry none" (records_in mode.Documented "adapt from=dpsw_gon") ((11, outputs (signed true 4) (signed true 3) (signed true 1) (signed true 2) 6 6 0 0) ∷ [])
    ∷ says "no other record changes" (records_in mode.Documented "push v_1 | axisswap order=2,1") ((0, pos 1 ∷ []) ∷ (9, pos 2 ∷ pos 1 ∷ []) ∷ [])
    ∷ says "letters as in document 01" (on (prepare_as Crate mode.Documented) "adapt from=entu") (refuses 14 1)
    ∷ says "tables that mix both are accepted" (check Forward (made_in mode.Crate "adapt" ++ made_in mode.Documented "|||||adapt")).verdict Passes
    ∷ says "no places are told" (check Forward (made_in mode.Documented "adapt")).told false
    ∷ rewrites_in mode.Documented "adapt from=nwuf" "adapt from=enuf to=seuf"
    ∷ rewrites_in mode.Documented "adapt from=unef_deg" "adapt from=uenf_deg to=neuf"
    ∷ rewrites_in mode.Documented "adapt from=dpsw_gon to=wsdp_deg inv" "adapt from=ufen_gon to=neuf_deg inv"
    ∷ []

-- ---- the offset of refusal 12

-- what is refused of one step, and the step's text, in which the offset is counted
unfoldable pub refused_at : String → ℕ → ℕ → Example
refused_at text place offset = says text (on prepare text) (refuses12 place offset)

unfoldable pub offsets : List Example
offsets =
    refused_at "inv axisswap order=x" 1 15
    ∷ says "leading modifiers are turned to the end" (cut_text (ascii "inv axisswap order=x")) (ascii "axisswap order=x inv")
    ∷ refused_at "push v_1 | :inv axisswap order=1,x" 2 17
    ∷ refused_at "stack push=1,2,x,y" 1 15
    ∷ refused_at "stack push=1,,2" 1 13
    ∷ refused_at "stack push=" 1 11
    ∷ refused_at "stack push" 1 10
    ∷ refused_at "push v_1=no v_2=x" 1 9
    ∷ refused_at "push v_1=" 1 9
    ∷ refused_at "axisswap order=1,2,x inv=no" 1 19
    ∷ refused_at "axisswap inv=no order=1,2,x" 1 13
    ∷ prints "push v_1 | inv axisswap order=x" (
    "translated: push v_1 | inv axisswap order=x"
    ∷ "step 1: push v_1"
    ∷ "step 2: axisswap order=x inv"
    ∷ "refused 12 2 15"
    ∷ []
    )
    ∷ says "of a repeated key only the last is judged" (map refusal_of (on prepare "push v_1=no v_1" ∷ on prepare "push v_1 v_1=no" ∷ [])) ((0, 0) ∷ (12, 13) ∷ [])
    ∷ []

-- ---- document 02, request 4: where a step's text stands

-- the spans of a definition's records; and what the check says of two records with these spans
unfoldable pub spans_on : String → List Span
spans_on text = map (λ (s : Step). s.span) (records (on prepare text))

abbrev pub span : ℕ → ℕ → Span
span from length = record { from = from; length = length }

unfoldable pub with_two : Span → Span → Verdict
with_two p q = (check Forward (with_spans (p ∷ q ∷ []) (records (on prepare "push v_1 | pop v_1")))).verdict

unfoldable pub underlined : List Example
underlined =
    says "before leading modifiers are turned to the end" (spans_on "inv push v_1 | pop v_1") (span 0 12 ∷ span 13 7 ∷ [])
    ∷ says "in the normalised definition" (on define "inv push v_1 | pop v_1 # c") (answers (ascii "inv push v_1|pop v_1"))
    ∷ says "a separator brings its modifier" (spans_on "> push v_1 < pop v_1") (span 1 17 ∷ span 19 16 ∷ [])
    ∷ says "comments and empty steps aside" (spans_on " | :push v_1 | | pop v_1 # c") (span 1 9 ∷ span 12 7 ∷ [])
    ∷ says "the check returns the span with its step" (check_on Crate Inverse "axisswap | inv push v_1").span (span 9 12)
    ∷ says "of the first step at fault in running order" (check_on Crate Forward "inv pop v_1 | pop v_2").span (span 0 11)
    ∷ says "a pass names none" (check_on Crate Forward "push v_1 | pop v_1").span no_span
    ∷ says "18 where a span is empty" (with_two (span 0 0) (span 9 7)) (Refused 18 1)
    ∷ says "or passes byte 40,960" (with_two (span 0 8) (span 40954 7)) (Refused 18 2)
    ∷ says "or starts before the last one ends" (with_two (span 0 8) (span 7 7)) (Refused 18 2)
    ∷ says "nothing else of spans is judged" (with_two (span 0 1) (span 1 40959)) Passes
    ∷ []

-- ---- the words of the demands

unfoldable pub demanded : List Example
demanded =
    says "the sign of 1 turned: the bits of -1" (sign_turned (to_bits binary64 (of_int binary64 (pos 1)))) (to_bits binary64 (of_int binary64 minus1))
    ∷ says "and back" (sign_turned (to_bits binary64 (of_int binary64 minus1))) (to_bits binary64 (of_int binary64 (pos 1)))
    ∷ says "number 2 of tuple 1" (number_at (floats (pos 1 ∷ pos 2 ∷ pos 3 ∷ pos 4 ∷ pos 5 ∷ pos 6 ∷ pos 7 ∷ pos 8 ∷ [])) 1 2) (of_int binary64 (pos 6))
    ∷ []

-- ---- the statement

-- a row holds if what is asked is the outcome
unfoldable pub Holds : Example → Type 0
Holds (says mark asked outcome) = asked ≡ outcome

unfoldable pub AllHold : List Example → Type 0
AllHold [] = Unit {0}
AllHold (e ∷ es) = Holds e × AllHold es
