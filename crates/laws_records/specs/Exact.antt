-- `made` holds of exactly the records that preparations make, and each of them has its text: what is promised of writing.
use Rattle.rules.specs.declared.Refusal.{Refusal}
use Rattle.std.specs.Prelude.{◌≡◌, ◌≤◌, Bool, false, ◌↔◌, List, [], ◌∷◌, ◌++◌, map, length, drop, eqb, ℕ, Result, Ok}
use Rattle.std.proofs.Math.Path.{refl, ap, sym}
use Rattle.std.proofs.Common.{◌∙◌, arith, eqb-true, lit≤}
use Rattle.std.proofs.Math.Bool.{true}
use Rattle.rules.specs.Text.Lists.{all_of}
use Rattle.rules.specs.Text.Bytes.{Bytes}
use Rattle.rules.specs.Text.Refusal.{Reply, answers, refuses, refuses12, and_then, tested, outcome, prepared}
use Rattle.rules.specs.Text.Reader.{spans}
use Rattle.rules.specs.Operators.Descriptions.{Operator}
use Rattle.rules.specs.Operators.Table.{number_of, other_mode, is_of_mode}
use Rattle.rules.specs.Operators.Documented.{adapt_in}
use Rattle.rules.specs.Pipeline.Record.{reading_number, reading_of, in_reading, spanned, with_spans, operator, of_mode, made}
use Rattle.rules.specs.Pipeline.Prepare.{prepare_split, prepare_in, prepare, prepare_as, Prepares, PreparesAs}
use Rattle.rules.specs.Face.Demands.{SameButSpans}
use Rattle.rules.specs.declared.Mode.{Mode}
use Rattle.rules.specs.declared.Mode.TheVariants as mode-is
use Rattle.rules.specs.declared.Reading.{Reading}
use Rattle.rules.specs.declared.Reading.TheVariants.{Crate}
use Rattle.rules.specs.declared.Step.{Step}
use Rattle.laws_text.specs.Entry.{answered}
use Rattle.laws_records.specs.Made.{split-made, prepared-in, prepared-as, prepare-as-made, tested-answers}
use Rattle.rules.specs.Pipeline.Write.{table_writing, written_spans}
use Rattle.laws_lists.specs.Lists.{Every}
use Rattle.laws_lists.specs.Tests.{and_left}
use Rattle.laws_records.specs.Faithful.{Slots, AllMade, slots-named, prepare-again, table-short, table-domain, table-again}
use Rattle.laws_records.specs.MadeSo.{made_so}
use Rattle.laws_records.specs.Slotted.{split-slotted}
use Rattle.laws_records.specs.Readings.{InIt, number-again, named-all}
use Rattle.laws_records.specs.Spanned.{made-aside, mode-aside, same-spanned, same_length, same_test, same-every}

-- ---- one record

-- in its reading, and in a mode that makes it
alone : (mode : Mode) (s : Step) → Slots s → made s ≡ true → of_mode mode s ≡ true → AllMade (reading_of s.reading) mode (s ∷ [])
unfolding all_of Every
alone mode s e h f = record { each = rw h; slots = (e, tt); alike = (number-again s.reading (made_so s h).reading, tt); of-mode = rw f }

-- ---- a lent table

-- Where at most 64 records of one reading and of one mode each pass `made`, and a step table has room for them, the call `prepare_as` in that
-- reading and mode brings exactly these records of their text, with its spans, to its front and leaves the rest.
pub table-prepares : (r : Reading) (mode : Mode) (l table : List Step) → AllMade r mode l → length l ≤ 64 → length l ≤ length table
    → PreparesAs r mode (table_writing l) table (Ok (length l)) (with_spans (written_spans l) l ++ drop (length l) table)
unfolding prepared
table-prepares r mode l table h few room =
    let many = same_length (with_spans (written_spans l) l) l (same-spanned (written_spans l) l) in
    answered (table-short l h.each few) (table-domain r mode l h) (prepare-again r mode l h few) (omega (arith, many, room)) (sym many) refl

-- ---- the other half: the records that a preparation makes

-- spans aside: what differs only there is made too
but-spans : (r : Reading) (mode : Mode) (l m : List Step) → SameButSpans l m → AllMade r mode l × (length l ≤ 64) → AllMade r mode m × (length m ≤ 64)
but-spans r mode l m same h = (
  record {
    each = sym (same_test made made-aside l m same) ∙ h.0.each;
    slots = same-every Slots (λ p s e. unfold spanned in e) l m same h.0.slots;
    alike = same-every (InIt (reading_number r)) (λ p s e. unfold spanned in e) l m same h.0.alike;
    of-mode = sym (same_test (of_mode mode) (mode-aside mode) l m same) ∙ h.0.of-mode;
  },
  omega (arith, same_length l m same, h.1),
)

-- The records of every text that is prepared in a mode pass `made`, have their slots, are of the crate's reading and of the mode, and are at
-- most 64.
split-all : (mode : Mode) (t : Bytes) (l : List Step) → prepare_split mode t ≡ answers l → AllMade Crate mode l × (length l ≤ 64)
split-all mode t l p =
    let m = split-made mode t l p in
    let k = split-slotted mode t l p m.0.each in
    (record { each = m.0.each; slots = k.0; alike = k.1; of-mode = m.0.of-mode }, m.1)

crates-all : (mode : Mode) (t : Bytes) (l : List Step) → prepare_in mode t ≡ answers l → AllMade Crate mode l × (length l ≤ 64)
crates-all mode t l h =
    let p = prepared-in mode t l h in
    rw (← p.2) (but-spans Crate mode p.0 (with_spans (spans t) p.0) (sym (same-spanned (spans t) p.0)) (split-all mode t p.0 p.1))

-- The same of every text that is prepared in a reading.
pub prepared-all : (r : Reading) (mode : Mode) (t : Bytes) (l : List Step) → tested (prepare_as r mode) t ≡ answers l → AllMade r mode l × (length l ≤ 64)
prepared-all r mode t l h =
    let e = tested-answers (prepare_as r mode) t l h in
    let k = prepare-as-made r mode t l e in
    let p = prepared-as r mode t l e in
    let slots : Every Slots (map (in_reading r) p.0) = slots-named r p.0 (crates-all mode t p.0 p.1).0.slots in
    (record { each = k.0; slots = rw p.2 at slots; alike = k.2; of-mode = k.3 }, k.1)

-- `prepare` is the case of `prepare_as` for the crate's reading and mode.
pub prepare-is-crates : (t : Bytes) → prepare_as Crate mode-is.Crate t ≡ prepare t
unfolding prepare_as prepare
prepare-is-crates t = go (prepare_in mode-is.Crate t) refl
  where
    go : (o : Reply (List Step)) → prepare_in mode-is.Crate t ≡ o → and_then o (λ l. answers (map (in_reading Crate) l)) ≡ o
    go (answers l) e = unfold and_then in ap answers (named-all Crate l (crates-all mode-is.Crate t l e).0.alike)
    go (refuses number place) e = unfold and_then in refl
    go (refuses12 place offset) e = unfold and_then in refl

-- ---- both halves

-- some text prepares to these records, spans aside, in a reading and a mode
pub record Texted (r : Reading) (mode : Mode) (l : List Step) : Type 0 where
  pub text : Bytes
  pub records : List Step
  pub prepares : tested (prepare_as r mode) text ≡ answers records
  pub same : SameButSpans records l

-- A table has a text that prepares to it, spans aside, in a reading and a mode exactly when its records are at most 64, of that reading and mode,
-- each of eight slots, and each passes `made`.
pub tables-exactly : (r : Reading) (mode : Mode) (l : List Step) → (AllMade r mode l × (length l ≤ 64)) ↔ Texted r mode l
tables-exactly r mode l = (
  λ h. record { text = table_writing l; records = with_spans (written_spans l) l; prepares = table-again r mode l h.0 h.1; same = same-spanned (written_spans l) l },
  λ t. but-spans r mode t.records l t.same (prepared-all r mode t.text t.records t.prepares),
)

-- A record of eight slots, as every record of the code is, passes `made`, and is of a mode, exactly when some text prepares to it, its span aside,
-- in its reading and that mode.
pub made-exactly : (mode : Mode) (s : Step) → Slots s → ((made s ≡ true) × (of_mode mode s ≡ true)) ↔ Texted (reading_of s.reading) mode (s ∷ [])
made-exactly mode s e = (
  λ h. (tables-exactly (reading_of s.reading) mode (s ∷ [])).0 (alone mode s e h.0 h.1, lit≤ tt),
  λ t. let k = ((tables-exactly (reading_of s.reading) mode (s ∷ [])).1 t).0 in (first made k.each, first (of_mode mode) k.of-mode),
)
  where
    first : (test : Step → Bool) → all_of test (s ∷ []) ≡ true → test s ≡ true
    first test h = unfold all_of in and_left (test s) true h

-- every operator is of some mode: what is not of the crate's is documented `adapt`
pub some-mode : (o : Operator) → (mode : Mode) × (is_of_mode mode o ≡ true)
unfolding is_of_mode number_of adapt_in other_mode
some-mode o = go (eqb (number_of o) 11) refl
  where
    go : (b : Bool) → eqb (number_of o) 11 ≡ b → (mode : Mode) × (is_of_mode mode o ≡ true)
    go true e = (mode-is.Documented, rw (eqb-true (number_of o) 11 e) refl)
    go false e = (mode-is.Crate, rw e refl)

-- So a record passes `made` exactly when some text prepares to it, its span aside, in its reading and some mode.
pub made-somehow : (s : Step) → Slots s → (made s ≡ true) ↔ ((mode : Mode) × Texted (reading_of s.reading) mode (s ∷ []))
made-somehow s e = (
  λ h. let m = some-mode (operator s) in (m.0, (made-exactly m.0 s e).0 (h, unfold of_mode in m.1)),
  λ t. ((made-exactly t.0 s e).1 t.1).0,
)

-- so what is promised of the one is promised of the other
pub crates-alike : (t : Bytes) (table : List Step) → outcome prepared (prepare_as Crate mode-is.Crate) t table ≡ outcome prepared prepare t table
unfolding outcome tested
crates-alike t table = rw (prepare-is-crates t) refl

pub crates-prepare : {t : Bytes} {table : List Step} {answer : Result ℕ Refusal} {table' : List Step} → PreparesAs Crate mode-is.Crate t table answer table' ↔ Prepares t table answer table'
crates-prepare {t} {table} {answer} {table'} = (
  λ p. record { exactly = p.exactly ∙ crates-alike t table },
  λ p. record { exactly = p.exactly ∙ sym (crates-alike t table) },
)
