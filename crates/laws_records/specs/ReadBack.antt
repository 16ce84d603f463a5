-- What was written is read back: whatever preparing in the table's reading and mode leaves of a text that the call `write` answered, it is
-- the table, with the spans of that text. (A table that mixes both modes has no such mode: each of its records has a text of its own.)
use Rattle.rules.specs.declared.Refusal.{Refusal}
use Rattle.std.specs.Prelude.{◌≡◌, ◌↔◌, ℕ, ◌≤◌, Bool, true, false, cond, List, [], ◌∷◌, ◌++◌, length, take, drop, leb, ltb, Option, None, Some, Result, Ok}
use Rattle.std.proofs.Math.Path.{refl}
use Rattle.std.proofs.Common.{ap}
use Rattle.std.proofs.Math.Seq.{take-append_seam}
use Rattle.rules.specs.Text.Lists.{all_of}
use Rattle.rules.specs.Text.Bytes.{Bytes}
use Rattle.rules.specs.Text.Refusal.{Reply, answers, refuses, refuses12, lent, written, Lends, refusal}
use Rattle.rules.specs.Pipeline.Record.{reading_number, reading_of, with_spans, of_mode, made, table_reading, refusal18}
use Rattle.rules.specs.Pipeline.Prepare.{PreparesAs}
use Rattle.rules.specs.Face.Demands.{Rise}
use Rattle.rules.specs.declared.Mode.{Mode}
use Rattle.rules.specs.declared.Reading.{Reading}
use Rattle.rules.specs.declared.Step.{Step}
use Rattle.laws_text.specs.Once.{once}
use Rattle.rules.specs.Pipeline.Write.{table_writing, written_spans, written_unless18, write}
use Rattle.laws_lists.specs.Lists.{Every}
use Rattle.laws_lists.specs.Tests.{and_left, never, and_right}
use Rattle.laws_records.specs.MadeSo.{made_so}
use Rattle.laws_records.specs.Readings.{InIt, number-again}
use Rattle.laws_records.specs.Faithful.{Slots}
use Rattle.laws_records.specs.Accepted.{not-18, one-reading}
use Rattle.laws_records.specs.Exact.{table-prepares, Texted, tables-exactly, made-somehow}

-- ---- an answer of `write`

-- it stands at the front of the buffer
lent-front : (reply : Reply Bytes) (out : Bytes) (r : ℕ) (out' : Bytes) → ◌≡◌ {A = Result ℕ Refusal × Bytes} (Ok r, out') (lent written reply out) → reply ≡ answers (take r out')
unfolding lent written
lent-front (refuses number place) out r out' h = absurd (never (cc (ap (λ (x : Result ℕ Refusal × Bytes). x.0) h)))
lent-front (refuses12 place offset) out r out' h = absurd (never (cc (ap (λ (x : Result ℕ Refusal × Bytes). x.0) h)))
lent-front (answers t) out r out' h = go (ltb (length out) (length t)) h
  where
    go : (b : Bool) → ◌≡◌ {A = Result ℕ Refusal × Bytes} (Ok r, out') (cond b (refusal 7 0, out) (Ok (length t), t ++ drop (length t) out))
        → answers t ≡ answers (take r out')
    go true h = absurd (never (cc (ap (λ (x : Result ℕ Refusal × Bytes). x.0) h)))
    go false h =
        let e : r ≡ length t = cc (ap (λ (x : Result ℕ Refusal × Bytes). x.0) h) in
        let f : out' ≡ t ++ drop (length t) out = ap (λ (x : Result ℕ Refusal × Bytes). x.1) h in
        rw (e, f, take-append_seam t (drop (length t) out))

-- a table that is not refused 18: its records are all of one of the two readings
table-alike : (l : List Step) → refusal18 l ≡ None → Every (InIt (reading_number (reading_of (table_reading l)))) l
table-alike l h = let k = (not-18 l).0 h in rw (number-again (table_reading l) (small l k.0)) k.2
  where
    small : (l : List Step) → all_of made l ≡ true → leb (table_reading l) 1 ≡ true
    small [] h = unfold table_reading in refl
    small (s ∷ l) h = unfold table_reading all_of in (made_so s (and_left (made s) _ h)).reading

-- it is the text of the table, which is not refused 18
pub record IsText (l : List Step) (text : Bytes) : Type 0 where
  pub all_made : all_of made l ≡ true
  pub few : length l ≤ 64
  pub alike : Every (InIt (reading_number (reading_of (table_reading l)))) l
  pub is : text ≡ table_writing l

write-answers : (l : List Step) (t : Bytes) → write l ≡ answers t → IsText l t
unfolding write written_unless18
write-answers l t h = go (refusal18 l) refl h
  where
    go : (o : Option ℕ) → refusal18 l ≡ o → written_unless18 o (table_writing l) ≡ answers t → IsText l t
    go None e h =
        let k = (not-18 l).0 e in
        record { all_made = k.0; few = k.1; alike = table-alike l e; is = cc h }
    go (Some place) e h = absurd (never (cc h))

pub lends_writes : (l : List Step) {out : Bytes} {r : ℕ} {out' : Bytes} → Lends (write l) out (Ok r) out' → IsText l (take r out')
lends_writes l {out} {r} {out'} p = write-answers l (take r out') (lent-front (write l) out r out' p.exactly)

-- ---- read back

-- Where `write` answered r bytes of a table of one mode, preparing these bytes in the table's reading and in that mode into any step table
-- with room for its records can only answer how many they are, with exactly these records at the front, with the spans of the text, and the rest as it was.
pub written-returns : (mode : Mode) (l : List Step) → Every Slots l → all_of (of_mode mode) l ≡ true → {out : Bytes} {r : ℕ} {out' : Bytes}
    → Lends (write l) out (Ok r) out'
    → (table : List Step) → length l ≤ length table → {answer : Result ℕ Refusal} {table' : List Step} → PreparesAs (reading_of (table_reading l)) mode (take r out') table answer table'
    → (answer ≡ Ok (length l)) × (table' ≡ with_spans (written_spans l) l ++ drop (length l) table)
written-returns mode l e f {out} {r} {out'} w table room {answer} {table'} p =
    let k = lends_writes l w in
    once p (rw k.is (table-prepares (reading_of (table_reading l)) mode l table (record { each = k.all_made; slots = e; alike = k.alike; of-mode = f }) k.few room))

-- ---- refusal 18, exactly

-- A table of one mode, of records with eight slots, as every record of the code has, is not refused 18 exactly when its spans rise up to byte
-- 40,960 and some text prepares to it, spans aside, in that mode, in some reading.
pub not-18-exactly : (mode : Mode) (l : List Step) → Every Slots l → all_of (of_mode mode) l ≡ true → (refusal18 l ≡ None) ↔ (Rise 40960 0 l × ((r : Reading) × Texted r mode l))
not-18-exactly mode l slots f = (
  λ h.
      let k = (not-18 l).0 h in
      let r = reading_of (table_reading l) in
      (k.3, (r, (tables-exactly r mode l).0 (record { each = k.0; slots = slots; alike = table-alike l h; of-mode = f }, k.1))),
  λ t.
      let r = t.1.0 in
      let k = (tables-exactly r mode l).1 t.1.1 in
      (not-18 l).1 (k.0.each, k.1, one-reading (reading_number r) l k.0.alike, t.0),
)

-- Any table, of one mode or mixed: it is not refused 18 exactly when it has 64 records at most, all of its first one's reading, its spans rise up
-- to byte 40,960, and each record alone has a text that prepares to it, its span aside, in some mode.
abbrev pub TextedAlone : Step → Type 0
TextedAlone s = (mode : Mode) × Texted (reading_of s.reading) mode (s ∷ [])

each-texted : (l : List Step) → Every Slots l → all_of made l ≡ true → Every TextedAlone l
unfolding Every all_of
each-texted [] e h = tt
each-texted (s ∷ l) e h = ((made-somehow s e.0).0 (and_left (made s) _ h), each-texted l e.1 (and_right (made s) _ h))

each-made : (l : List Step) → Every Slots l → Every TextedAlone l → all_of made l ≡ true
unfolding Every all_of
each-made [] e h = refl
each-made (s ∷ l) e h = rw ((made-somehow s e.0).1 h.0) (each-made l e.1 h.1)

pub not-18-each : (l : List Step) → Every Slots l → (refusal18 l ≡ None) ↔ ((length l ≤ 64) × Every (InIt (table_reading l)) l × Rise 40960 0 l × Every TextedAlone l)
not-18-each l slots = (
  λ h. let k = (not-18 l).0 h in (k.1, k.2, k.3, each-texted l slots k.0),
  λ h. (not-18 l).1 (each-made l slots h.3, h.0, h.1, h.2),
)
