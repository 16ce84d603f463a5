-- The record is a faithful picture of a step: every record that passes `made` has its text, and preparing that text gives the
-- record again, with the span of that text; so `made` holds of exactly the records that preparations make. The same of a whole table.
use Rattle.std.specs.Prelude.{◌≡◌, ℕ, suc, ◌+◌, ◌*◌, ◌≤◌, true, List, [], ◌∷◌, ◌++◌, map, length, leb}
use Rattle.std.proofs.Math.Path.{refl, ap}
use Rattle.std.proofs.Common.{sym, ◌∙◌, le_refl, mul-suc, arith, le-ltb, leb-true, le-leb, length-append}
use Rattle.std.proofs.lemmas.List.{length-map}
use Rattle.rules.specs.Text.Ascii.{ascii}
use Rattle.rules.specs.Text.Lists.{all_of}
use Rattle.rules.specs.Text.Bytes.{Bytes, in_domain, after_each, joined_by, joined}
use Rattle.rules.specs.Text.Refusal.{answers, and_then, tested}
use Rattle.rules.specs.Text.Reader.{spans}
use Rattle.rules.specs.Pipeline.Record.{reading_number, in_reading, spanned, spanless, with_spans, operator, of_mode, made}
use Rattle.rules.specs.Pipeline.Prepare.{prepare_step, prepare_split, prepare_in, prepare_as}
use Rattle.rules.specs.Pipeline.Write.{operator_words, step_words, writing, table_writing, spans_in_turn, written_spans}
use Rattle.rules.specs.declared.Mode.{Mode}
use Rattle.rules.specs.declared.Reading.{Reading}
use Rattle.rules.specs.declared.Reading.TheVariants.{Crate}
use Rattle.rules.specs.declared.Span.{Span}
use Rattle.rules.specs.declared.Step.{Step}
use Rattle.laws_lists.specs.Lists.{Every}
use Rattle.laws_lists.specs.Tests.{and_left, and_right, never}
use Rattle.laws_steps.specs.Aside.{writing-aside}
use Rattle.laws_records.specs.Worded.{step-prepared}
use Rattle.laws_records.specs.Whole.{Speaks, spaced, spaced-spans, spaced-prepared, spaced-domain, Prepared, Each, end, also, all-prepared}
use Rattle.laws_records.specs.Readings.{InIt, all_named, writing-named, all-made-named, all-mode-named}
use Rattle.laws_records.specs.Spanned.{made-aside, mode-aside, all-aside}
use Rattle.laws_records.specs.Records.{IsMade, made-keeps, made-is}
use Rattle.laws_records.specs.Operators.Table.{has-text}
use Rattle.laws_records.specs.Written.{step-spoken, writing-short}

-- ---- one step

-- preparing the text of a record of the crate's reading without a span, at any place, in a mode that makes it, gives the record
pub step-again : (mode : Mode) (s : Step) → IsMade s → of_mode mode s ≡ true → (place : ℕ) → prepare_step mode place (writing s) ≡ answers s
unfolding writing step_words operator_words of_mode
step-again mode s m of place =
    step-prepared (step-spoken s m.keeps) mode place s (omega (arith, writing-short s m.keeps))
    ((has-text (operator s)).again mode of s m refl)

-- a record of the code has eight slots
abbrev pub Slots : Step → Type 0
Slots s = length s.args ≡ 8

-- ---- a whole table

-- records of one reading and of one mode that are each made, and have their slots
pub record AllMade (r : Reading) (mode : Mode) (l : List Step) : Type 0 where
  pub each : all_of made l ≡ true
  pub slots : Every Slots l
  pub alike : Every (InIt (reading_number r)) l
  pub of-mode : all_of (of_mode mode) l ≡ true

made_each : (mode : Mode) (l : List Step) → AllMade Crate mode l → Every IsMade (map spanless l)
unfolding Every all_of spanless spanned
made_each mode [] h = tt
made_each mode (s ∷ l) h =
    let rest : AllMade Crate mode l = record { each = and_right (made s) _ h.each; slots = h.slots.1; alike = h.alike.1; of-mode = and_right (of_mode mode s) _ h.of-mode } in
    (made-is (spanless s) h.slots.0 (made-aside s ∙ and_left (made s) _ h.each) h.alike.0 refl, made_each mode l rest)

all-speak : (l : List Step) → Every IsMade l → Every Speaks (map step_words l)
unfolding Every step_words operator_words Speaks
all-speak [] h = tt
all-speak (s ∷ l) h = (step-spoken s h.0.keeps, all-speak l h.1)

all-again : (mode : Mode) (l : List Step) → Every IsMade l → all_of (of_mode mode) l ≡ true → Each mode (map joined (map step_words l)) l
unfolding Every Prepared writing all_of
all-again mode [] h f = end
all-again mode (s ∷ l) h f =
    also (λ place. step-again mode s h.0 (and_left (of_mode mode s) _ f) place) (all-again mode l h.1 (and_right (of_mode mode s) _ f))

writings : (l : List Step) → map writing l ≡ map joined (map step_words l)
unfolding writing
writings [] = refl
writings (s ∷ l) = ap (λ (ts : List Bytes). joined (step_words s) ∷ ts) (writings l)

-- its text is the text of its steps' words
table-spaced : (l : List Step) → table_writing l ≡ spaced (map step_words l)
unfolding table_writing spaced
table-spaced l = ap (joined_by (ascii " | ")) (writings l)

split-crates : (mode : Mode) (l : List Step) → Every IsMade l → all_of (of_mode mode) l ≡ true → length l ≤ 64 → prepare_split mode (table_writing l) ≡ answers l
split-crates mode l h f few =
    ap (prepare_split mode) (table-spaced l)
    ∙ spaced-prepared mode (map step_words l) (all-speak l h) (omega (arith, length-map l step_words))
    ∙ all-prepared (all-again mode l h f) 1

-- and its steps stand where these words stand
spans-crates : (l : List Step) → Every IsMade l → spans (table_writing l) ≡ written_spans l
unfolding written_spans
spans-crates l h = ap spans (table-spaced l) ∙ spaced-spans (map step_words l) (all-speak l h) ∙ ap (spans_in_turn 0) (sym (writings l))

-- it is a text that every call takes: short, and in the domain
apart-length : (n : ℕ) (ts : List Bytes) → all_of (λ (t : Bytes). leb (length t) n) ts ≡ true → length (after_each (ascii " | ") ts) ≤ (3 + n) * length ts
unfolding all_of after_each ascii
apart-length n [] h = omega arith
apart-length n (t ∷ ts) h =
    let a = leb-true (length t) n (and_left (leb (length t) n) _ h) in
    let b = apart-length n ts (and_right (leb (length t) n) _ h) in
    let c = length-append t (after_each (ascii " | ") ts) in
    rw (mul-suc (3 + n) (length ts)) (omega arith)

joined-less : (sep : Bytes) (ts : List Bytes) → length (joined_by sep ts) ≤ length (after_each sep ts)
unfolding joined_by after_each
joined-less sep [] = le_refl 0
joined-less sep (t ∷ ts) = omega (arith, length-append sep (t ++ after_each sep ts))

all_short : (l : List Step) → all_of made l ≡ true → all_of (λ (t : Bytes). leb (length t) 61) (map writing l) ≡ true
unfolding all_of
all_short [] h = refl
all_short (s ∷ l) h = rw (le-leb (length (writing s)) 61 (writing-short s (made-keeps s (and_left (made s) _ h)))) (all_short l (and_right (made s) _ h))

pub table-short : (l : List Step) → all_of made l ≡ true → length l ≤ 64 → length (table_writing l) ≤ 4096
unfolding table_writing
table-short l h few =
    let a = joined-less (ascii " | ") (map writing l) in
    let b = apart-length 61 (map writing l) (all_short l h) in
    omega (arith, length-map l writing)

crates-domain : (l : List Step) → Every IsMade l → in_domain (table_writing l) ≡ true
crates-domain [] h = unfold table_writing joined_by in_domain in refl
crates-domain (s ∷ l) h =
    let k = all-speak (s ∷ l) h in
    rw (table-spaced (s ∷ l)) (spaced-domain (step_words s) (map step_words l) k)

-- ---- in either reading, with any spans: the text is that of the same records in the crate's, without a span

pub slots-named : (r : Reading) (l : List Step) → Every Slots l → Every Slots (map (in_reading r) l)
unfolding Every in_reading
slots-named r [] h = tt
slots-named r (s ∷ l) h = (h.0, slots-named r l h.1)

abbrev bare : List Step → List Step
bare l = map spanless (map (in_reading Crate) l)

bare-made : (r : Reading) (mode : Mode) (l : List Step) → AllMade r mode l → Every IsMade (bare l)
bare-made r mode l h =
    made_each mode (map (in_reading Crate) l)
    (record { each = all-made-named Crate l h.each; slots = slots-named Crate l h.slots; alike = all_named Crate l; of-mode = all-mode-named Crate mode l h.of-mode })

bare-mode : (r : Reading) (mode : Mode) (l : List Step) → AllMade r mode l → all_of (of_mode mode) (bare l) ≡ true
bare-mode r mode l h = all-aside (of_mode mode) (mode-aside mode) (map (in_reading Crate) l) ∙ all-mode-named Crate mode l h.of-mode

bare-texts : (l : List Step) → map writing (bare l) ≡ map writing l
bare-texts [] = refl
bare-texts (s ∷ l) = rw (writing-aside (in_reading Crate s), writing-named Crate s, bare-texts l)

bare-text : (l : List Step) → table_writing (bare l) ≡ table_writing l
unfolding table_writing
bare-text l = ap (joined_by (ascii " | ")) (bare-texts l)

pub table-domain : (r : Reading) (mode : Mode) (l : List Step) → AllMade r mode l → in_domain (table_writing l) ≡ true
table-domain r mode l h = rw (← bare-text l) (crates-domain (bare l) (bare-made r mode l h))

-- the records again, with spans
bare-again : (r : Reading) (ps : List Span) (l : List Step) → length ps ≡ length l → Every (InIt (reading_number r)) l → map (in_reading r) (with_spans ps (bare l)) ≡ with_spans ps l
unfolding Every with_spans in_reading spanned spanless
bare-again r [] [] e h = refl
bare-again r [] (s ∷ l) e h = absurd (never (cc e))
bare-again r (p ∷ ps) [] e h = refl
bare-again r (p ∷ ps) (s ∷ l) e h = rw (h.0, bare-again r ps l (omega (arith, e)) h.1)

in-turn-many : (place : ℕ) (ts : List Bytes) → length (spans_in_turn place ts) ≡ length ts
unfolding spans_in_turn
in-turn-many place [] = refl
in-turn-many place (t ∷ ts) = ap suc (in-turn-many (place + suc (length t)) ts)

pub written-many : (l : List Step) → length (written_spans l) ≡ length l
unfolding written_spans
written-many l = in-turn-many 0 (map writing l) ∙ length-map l writing

pub prepare-again : (r : Reading) (mode : Mode) (l : List Step) → AllMade r mode l → length l ≤ 64 → prepare_as r mode (table_writing l) ≡ answers (with_spans (written_spans l) l)
unfolding prepare_as prepare_in and_then
prepare-again r mode l h few =
    let m = bare-made r mode l h in
    let many : length (bare l) ≤ 64 = omega (arith, length-map (map (in_reading Crate) l) spanless, length-map l (in_reading Crate)) in
    let records : prepare_split mode (table_writing l) ≡ answers (bare l) = ap (prepare_split mode) (sym (bare-text l)) ∙ split-crates mode (bare l) m (bare-mode r mode l h) many in
    let places : spans (table_writing l) ≡ written_spans l =
    ap spans (sym (bare-text l)) ∙ spans-crates (bare l) m ∙ unfold written_spans in ap (spans_in_turn 0) (bare-texts l) in
    rw (records, places, bare-again r (written_spans l) l (written-many l) h.alike)

-- A table of at most 64 records of one reading and of one mode that pass `made` has its text, of at most 4,096 bytes: preparing it in that
-- reading and mode gives exactly these records, with the spans of that text.
pub table-again : (r : Reading) (mode : Mode) (l : List Step) → AllMade r mode l → length l ≤ 64 → tested (prepare_as r mode) (table_writing l) ≡ answers (with_spans (written_spans l) l)
unfolding tested
table-again r mode l h few =
    rw (le-ltb 4096 (length (table_writing l)) (table-short l h.each few), table-domain r mode l h) (prepare-again r mode l h few)
