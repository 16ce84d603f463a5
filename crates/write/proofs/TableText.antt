-- A record's text in its parts, a table's texts, and the two public calls.
use Rattle.rules.specs.declared.Refusal.{Refusal}
use Rattle.std.specs.Prelude.{Option, None, Some, Result}
use mathlib.Core.Path.{◌≡◌, refl, sym, ap, ◌∙◌}
use mathlib.Core.Bool.{Bool, true, false, cond}
use mathlib.Core.List.{List, [], ◌∷◌, ◌++◌, map, append-nil}
use Prim.Native.Nat.{ℕ, ◌+◌, ◌≤◌, ◌<◌}
use native.Mathlib.Omega.{arith}
use borrow.Author.Tests.{lt-ltb, le-ltb}
use lib.ListN.{length, take, get_or}
use lib.Seq.{get_or-take}
use lib.Dec.{ltb}
use Rattle.rules.specs.Text.Ascii.{ascii}
use Rattle.rules.specs.Text.Bytes.{Bytes, after_each, joined_by, joined}
use Rattle.rules.specs.Text.Refusal.{Reply, answers, Lends, refusal}
use Rattle.rules.specs.Pipeline.Record.{operator, args, made, table_reading, good_in, first_bad, refusal18, listed}
use Rattle.rules.specs.declared.Step.{Step}
use Rattle.rules.specs.declared.Table.{Table}
use Rattle.laws_text.specs.Entry.{lends-refusal}
use Rattle.text.specs.Wrote.{Wrote, WroteAt}
use Rattle.text.proofs.Wrote.{wrote-front, wrote-fits, wrote-counts}
use Rattle.record.proofs.SoundTable.{Sound}
use Rattle.rules.specs.Pipeline.Write.{operator_words, writing, table_writing, written_unless18, write}
use Rattle.laws_lists.specs.Tests.{and_left}
use Rattle.laws_records.specs.Records.{made-keeps}
use Rattle.laws_records.specs.Written.{writing-short}
use Rattle.laws_records.specs.Faithful.{table-short}
use Rattle.laws_records.specs.Accepted.{not-18}
use Rattle.numbers.specs.Parts.{Room, rest}
use Rattle.write.specs.Parts.{mark_text, parted}
use Rattle.numbers.proofs.InTurn.{room_as, as_written, first-room, then-room, both-written}
use Rattle.numbers.proofs.Listed.{put_written}
use Rattle.numbers.proofs.EachInTurn.{Going, going-room, going-turn}
use Rattle.write.proofs.Marks.{step_is}

-- ---- a record

-- it has room in 64 bytes
pub step_fits : (s : Step) → made s ≡ true → (dst : Bytes) → length dst ≡ 64 → Room (writing s) 0 dst
step_fits s h dst e = record { fits = omega (arith, writing-short s (made-keeps s h)) }

module _ (s : Step) {dst : Bytes} {at : ℕ} (h : Room (writing s) at dst) where
  front : Bytes
  front = joined (operator_words (operator s) (args s))

  marked : Bytes
  marked = mark_text s.inv s.omit_fwd s.omit_inv

  parts-room : Room (front ++ marked) at dst
  unfolding front marked
  parts-room = room_as (sym (step_is s)) h

  pub words-room : Room (joined (operator_words (operator s) (args s))) at dst
  unfolding front
  words-room = first-room front marked parts-room

  module _ {r : ℕ} {last : Bytes} (v : WroteAt (joined (operator_words (operator s) (args s))) dst at r last) where
    pub marks-room : Room (mark_text s.inv s.omit_fwd s.omit_inv) r last
    unfolding front marked
    marks-room = then-room front marked parts-room v

    pub step-written : {r' : ℕ} {last' : Bytes} → WroteAt (mark_text s.inv s.omit_fwd s.omit_inv) last r r' last' → WroteAt (writing s) dst at r' last'
    unfolding front marked
    step-written x = as_written (step_is s) (both-written front marked parts-room v x)

-- ---- a table

module _ (s : Step) {i : ℕ} {dst : Bytes} {at : ℕ} (h : Room (parted (ltb 0 i) s) at dst) where
  module _ (l : 0 < i) where
    later-is : parted (ltb 0 i) s ≡ (32 ∷ 124 ∷ 32 ∷ []) ++ writing s
    unfolding parted
    later-is = rw (lt-ltb 0 i l)

    later-room : Room ((32 ∷ 124 ∷ 32 ∷ []) ++ writing s) at dst
    later-room = room_as (sym later-is) h

    pub bar-room : at + 3 ≤ length dst
    bar-room = (first-room (32 ∷ 124 ∷ 32 ∷ []) (writing s) later-room).fits

    module _ {r : ℕ} {last : Bytes} (w : Wrote (take at dst ++ (32 ∷ 124 ∷ 32 ∷ [])) dst r last) where
      pub after-bar : Room (writing s) r last
      after-bar = then-room (32 ∷ 124 ∷ 32 ∷ []) (writing s) later-room (put_written w)

      pub later-parted : {r' : ℕ} {last' : Bytes} → WroteAt (writing s) last r r' last' → WroteAt (parted (ltb 0 i) s) dst at r' last'
      later-parted v = as_written later-is (both-written (32 ∷ 124 ∷ 32 ∷ []) (writing s) later-room (put_written w) v)

  module _ (l : i ≤ 0) where
    first-is : parted (ltb 0 i) s ≡ writing s
    unfolding parted
    first-is = rw (le-ltb 0 i l)

    pub first_step : Room (writing s) at dst
    first_step = room_as (sym first-is) h

    pub first-parted : {r : ℕ} {last : Bytes} → WroteAt (writing s) dst at r last → WroteAt (parted (ltb 0 i) s) dst at r last
    first-parted w = as_written first-is w

after-rest : (l : List Step) → after_each (32 ∷ 124 ∷ 32 ∷ []) (map writing l) ≡ rest parted true l
unfolding after_each rest parted
after-rest [] = refl
after-rest (s ∷ l) = ap (λ (t : Bytes). 32 ∷ 124 ∷ 32 ∷ (writing s ++ t)) (after-rest l)

table-rest : (l : List Step) → table_writing l ≡ rest parted false l
unfolding table_writing joined_by rest parted ascii
table-rest [] = refl
table-rest (s ∷ l) = ap (λ (t : Bytes). writing s ++ t) (after-rest l)

pub rows-rest : {t : Table} → Sound t → table_writing (listed t) ≡ rest parted false (take t.n t.steps)
rows-rest {t} s = ap table_writing s.rows ∙ table-rest (take t.n t.steps)

module _ {t : Table} (s : Sound t) {whole dst₀ : Bytes} {at i o : ℕ} {dst : Bytes} (g : Going parted whole (take t.n t.steps) dst₀ at i o dst) (h : i < t.n) (d : Step) where
  same_row : get_or (take t.n t.steps) i d ≡ get_or t.steps i d
  same_row = get_or-take t.n t.steps i d h

  inside : i < length (take t.n t.steps)
  inside = omega (arith, s.many)

  pub row_room : Room (parted (ltb 0 i) (get_or t.steps i d)) o dst
  row_room = rw (← same_row) (going-room g d inside)

  pub row-turn : {r : ℕ} {last : Bytes} → WroteAt (parted (ltb 0 i) (get_or t.steps i d)) dst o r last → Going parted whole (take t.n t.steps) dst₀ at (i + 1) r last
  row-turn w = going-turn g d inside (rw (← same_row) at w)

pub rows_end : {t : Table} {i : ℕ} → Sound t → t.n ≤ i → length (take t.n t.steps) ≤ i
rows_end s h = omega (arith, s.many)

-- ---- the public calls

-- one that stands in a buffer of one's own
module _ {text own : Bytes} {n : ℕ} {last : Bytes} (w : WroteAt text own 0 n last) where
  pub own-fits : n ≤ length last
  own-fits = wrote-fits w.wrote

  pub own-counts : n ≡ length (take n last)
  own-counts = wrote-counts w.wrote

  pub own-lent : {reply : Reply Bytes} {out : Bytes} {r : Result ℕ Refusal} {out' : Bytes} → reply ≡ answers text → Lends (answers (take n last)) out r out' → Lends reply out r out'
  own-lent e p = let f : take n last ≡ text = wrote-front w.wrote in rw e (rw f at p)

-- one record
module _ (s : Step) where
  -- in its own reading, behind no other
  bad-one : (b : Bool) → good_in s.reading 0 s ≡ b → first_bad (table_reading (s ∷ [])) 0 1 (s ∷ []) ≡ cond b None (Some 1)
  unfolding first_bad table_reading
  bad-one b e = rw e refl

  pub one-bad : {out : Bytes} → good_in s.reading 0 s ≡ false → Lends (write (s ∷ [])) out (refusal 18 1) out
  unfolding write written_unless18 refusal18
  one-bad h = lends-refusal (rw (bad-one false h))

  pub one-good : good_in s.reading 0 s ≡ true → write (s ∷ []) ≡ answers (writing s)
  unfolding write written_unless18 refusal18
  one-good h = rw (bad-one true h) (unfold table_writing joined_by after_each in ap answers (append-nil (writing s)))

  pub good-made : good_in s.reading 0 s ≡ true → made s ≡ true
  unfolding good_in
  good-made h = and_left (made s) _ h

-- a table
pub table-bad : (l : List Step) {b : Option ℕ} {k : ℕ} {out : Bytes} → b ≡ refusal18 l → b ≡ Some k → Lends (write l) out (refusal 18 k) out
unfolding write written_unless18
table-bad l e f = lends-refusal (rw (sym e ∙ f))

pub table-good : (l : List Step) → refusal18 l ≡ None → write l ≡ answers (table_writing l)
unfolding write written_unless18
table-good l h = rw h

-- it has room in 4,096 bytes
pub table_fits : (l : List Step) (dst : Bytes) → refusal18 l ≡ None → length dst ≡ 4096 → Room (table_writing l) 0 dst
table_fits l dst h e = let k = (not-18 l).0 h in record { fits = omega (arith, table-short l k.0 k.1) }
