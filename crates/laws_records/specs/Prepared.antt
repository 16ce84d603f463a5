-- A prepared table: each record's span is where its text stands, and refusal 18 does not apply, so no check and no run of it is refused 18.
use Rattle.rules.specs.declared.Refusal.{Refusal}
use Rattle.std.specs.Prelude.{◌≡◌, ℕ, ◌≤◌, Bool, true, false, cond, List, [], ◌∷◌, ◌++◌, map, length, take, drop, ltb, Float, None, Result, Ok}
use Rattle.std.proofs.Common.{ap, sym, ◌∙◌, le_trans}
use Rattle.std.proofs.Math.Seq.{take-append_seam}
use Rattle.rules.specs.Text.Bytes.{Bytes, joined}
use Rattle.rules.specs.Text.Refusal.{Reply, answers, refuses, refuses12, tested, lent, outcome, prepared, refusal_at}
use Rattle.rules.specs.Text.Split.{steps, split_steps}
use Rattle.rules.specs.Text.Reader.{definition}
use Rattle.rules.specs.Pipeline.Record.{reading_number, span_end, refusal18}
use Rattle.rules.specs.Pipeline.Prepare.{prepare_steps, prepare_split, prepare_in, prepare_as, PreparesAs}
use Rattle.rules.specs.Pipeline.Run.{runs}
use Rattle.rules.specs.Pipeline.Check.{check}
use Rattle.rules.specs.Face.Demands.{bytes_at, Rise, Walk}
use Rattle.rules.specs.declared.Mode.{Mode}
use Rattle.rules.specs.declared.Reading.{Reading}
use Rattle.rules.specs.declared.Step.{Step}
use Rattle.rules.specs.declared.Direction.{Direction}
use Rattle.rules.specs.declared.Verdict.TheVariants as verdict-is
use Rattle.laws_lists.specs.Tests.{never}
use Rattle.laws_text.specs.Spans.{spans-count, definition-length, walk-rises, spans-walk, reading-walks}
use Rattle.laws_text.specs.Texts.{split-worded, walk-texts}
use Rattle.laws_steps.specs.Foretold.{check-refused}
use Rattle.laws_steps.specs.Runs.{run-refused}
use Rattle.laws_records.specs.Accepted.{not-18, one-reading}
use Rattle.laws_records.specs.Made.{then-answers, split-made, prepared-in, prepared-as, prepare-as-made, tested-short, tested-answers}

-- ---- spans

-- The spans of the records are where the reader of the normalised definition finds the steps,
prepare-walks : (mode : Mode) (t : Bytes) (l : List Step) → prepare_in mode t ≡ answers l → Walk (definition t) 0 l
prepare-walks mode t l h =
    let p = prepared-in mode t l h in
    let k = split-made mode t p.0 p.1 in
    rw (← p.2) (spans-walk t p.0 (k.0.many ∙ sym (spans-count t)))

-- in either reading.
pub prepared-walks : (r : Reading) (mode : Mode) (t : Bytes) (l : List Step) → tested (prepare_as r mode) t ≡ answers l → Walk (definition t) 0 l
prepared-walks r mode t l h =
    let p = prepared-as r mode t l (tested-answers (prepare_as r mode) t l h) in
    rw (← p.2) (reading-walks r (definition t) 0 p.0 (prepare-walks mode t p.0 p.1))

-- The bytes there are the step's words with one space between: splitting gave the steps, so none has modifiers alone.
pub prepared-bytes : (r : Reading) (mode : Mode) (t : Bytes) (l : List Step) → tested (prepare_as r mode) t ≡ answers l
    → map (λ (s : Step). bytes_at (definition t) s.span) l ≡ map joined (steps t)
unfolding prepare_split
prepared-bytes r mode t l h =
    let a = prepared-as r mode t l (tested-answers (prepare_as r mode) t l h) in
    let p = prepared-in mode t a.0 a.1 in
    let f = then-answers (split_steps (steps t)) (prepare_steps mode 1) p.0 p.1 in
    walk-texts t l (split-worded (steps t) f.0 f.1) (prepared-walks r mode t l h)

-- spans that rise up to a byte rise up to any behind it
rise-within : (most more end : ℕ) (l : List Step) → most ≤ more → Rise most end l → Rise more end l
unfolding Rise
rise-within most more end [] h r = tt
rise-within most more end (s ∷ l) h r = (r.0, r.1, le_trans r.2 h, rise-within most more (span_end s.span) l h r.3)

-- The normalised definition of a text that is prepared has 40,960 bytes at most, so the spans of its records rise up to there.
pub prepared-short : (r : Reading) (mode : Mode) (t : Bytes) (l : List Step) → tested (prepare_as r mode) t ≡ answers l → length (definition t) ≤ 40960
prepared-short r mode t l h = definition-length t (tested-short (prepare_as r mode) t l h)

pub prepared-rise : (r : Reading) (mode : Mode) (t : Bytes) (l : List Step) → tested (prepare_as r mode) t ≡ answers l → Rise 40960 0 l
prepared-rise r mode t l h =
    rise-within (length (definition t)) 40960 0 l (prepared-short r mode t l h) (walk-rises (definition t) 0 l (prepared-walks r mode t l h))

-- ---- refusal 18

-- It does not apply to them,
pub never-18 : (r : Reading) (mode : Mode) (t : Bytes) (l : List Step) → tested (prepare_as r mode) t ≡ answers l → refusal18 l ≡ None
never-18 r mode t l h =
    let k = prepare-as-made r mode t l (tested-answers (prepare_as r mode) t l h) in
    (not-18 l).1 (k.0, k.1, one-reading (reading_number r) l k.2, prepared-rise r mode t l h)

-- so no check of them is refused
pub check-never-18 : (r : Reading) (mode : Mode) (t : Bytes) (l : List Step) → tested (prepare_as r mode) t ≡ answers l
    → (d : Direction) (number place : ℕ) → (check d l).verdict ≡ verdict-is.Refused number place → ⊥
check-never-18 r mode t l h d number place e = never (cc (never-18 r mode t l h, (check-refused d l number place e).1))

-- and no run of them is refused 18.
pub run-never-18 : (r : Reading) (mode : Mode) (t : Bytes) (l : List Step) → tested (prepare_as r mode) t ≡ answers l
    → (d : Direction) (xs store : List Float) (place offset : ℕ) → (runs d l xs store).answer ≡ refusal_at 18 place offset → ⊥
run-never-18 r mode t l h d xs store place offset e = never (cc (never-18 r mode t l h, run-refused d l xs store place offset e))

-- ---- a lent table

-- what the promise of preparing says where it answers: the records stand at the front of the table
lent-answers : (r : Reply (List Step)) (table table' : List Step) (n : ℕ)
    → ◌≡◌ {A = Result ℕ Refusal × List Step} (Ok n, table') (lent prepared r table) → r ≡ answers (take n table')
unfolding lent prepared
lent-answers (refuses number place) table table' n h = absurd (never (cc (ap (λ (x : Result ℕ Refusal × List Step). x.0) h)))
lent-answers (refuses12 place offset) table table' n h = absurd (never (cc (ap (λ (x : Result ℕ Refusal × List Step). x.0) h)))
lent-answers (answers l) table table' n h = go (ltb (length table) (length l)) h
  where
    go : (b : Bool) → ◌≡◌ {A = Result ℕ Refusal × List Step} (Ok n, table') (cond b (refusal_at 7 0 0, table) (Ok (length l), l ++ drop (length l) table))
        → answers l ≡ answers (take n table')
    go true h = absurd (never (cc (ap (λ (x : Result ℕ Refusal × List Step). x.0) h)))
    go false h =
        let e : n ≡ length l = cc (ap (λ (x : Result ℕ Refusal × List Step). x.0) h) in
        let f : table' ≡ l ++ drop (length l) table = ap (λ (x : Result ℕ Refusal × List Step). x.1) h in
        rw (e, f, take-append_seam l (drop (length l) table))

-- Of a table that preparing answered into, the records that it counts are those of the text. So they are not refused 18.
pub table-tested : (r : Reading) (mode : Mode) {t : Bytes} {table table' : List Step} {n : ℕ} → PreparesAs r mode t table (Ok n) table'
    → tested (prepare_as r mode) t ≡ answers (take n table')
unfolding outcome
table-tested r mode {t} {table} {table'} {n} p = lent-answers (tested (prepare_as r mode) t) table table' n p.exactly

pub table-prepared : (r : Reading) (mode : Mode) {t : Bytes} {table table' : List Step} {n : ℕ} → PreparesAs r mode t table (Ok n) table'
    → prepare_as r mode t ≡ answers (take n table')
table-prepared r mode {t} {table} {table'} {n} p = tested-answers (prepare_as r mode) t (take n table') (table-tested r mode p)

pub table-never-18 : (r : Reading) (mode : Mode) {t : Bytes} {table table' : List Step} {n : ℕ} → PreparesAs r mode t table (Ok n) table'
    → refusal18 (take n table') ≡ None
table-never-18 r mode {t} {table} {table'} {n} p = never-18 r mode t (take n table') (table-tested r mode p)
