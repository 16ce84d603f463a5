-- The globals, word by word; and a step's text as a whole.
use Rattle.std.proofs.Common.{◌≡◌, refl, sym, ap, ◌∙◌, Bool, true, false, cond, [], ◌∷◌, ◌++◌, ℕ, ◌≤◌, length, drop, append-nil, append_assoc, MatchOption, Option, Some, None, arith, Bor}
use mathlib.Core.Bool.{xor}
use Rattle.rules.specs.Text.Lists.{kept}
use Rattle.rules.specs.Text.Bytes.{Bytes, Words, words, after_each, joined_by, joined}
use Rattle.rules.specs.Proj.Words.{exchanged, tidied}
use Rattle.rules.specs.Proj.Translate.{is_inv, not_inv, with_globals, step_of}
use Rattle.text.specs.Wrote.{Wrote}
use Rattle.proj_steps.specs.Adds.{limit, Room, Adds, gapped}
use Rattle.proj_steps.proofs.Added.{adds-nothing, adds-length, adds-wrote, first-room, then-room, adds-both, room_as, adds-as, adds-by}
use Rattle.laws_proj.specs.Flowing.{flow, more}
use Rattle.laws_proj.specs.Step.{Global, step-text}
use Rattle.laws_proj.specs.Bounds.{globals_of, globals-length}
use Rattle.proj_words.specs.Facts.{IsMarks}
use Rattle.proj_words.specs.declared.exchange.Marks.{Marks}
use Rattle.proj_steps.specs.Pens.{Worded, RoomForAll, PensAll}
use Rattle.proj_steps.specs.Pipelines.{pipeline_of}
use Rattle.proj_steps.specs.declared.pen.Pen.{Pen}

-- ---- the globals

-- those that are left, in text
pub left : Bool → Words → Bytes
left begun ws = cond begun (after_each (32 ∷ []) (kept not_inv ws)) (joined (kept not_inv ws))

left-none : (begun : Bool) → left begun [] ≡ []
unfolding left kept after_each joined joined_by
left-none true = refl
left-none false = refl

left-inv : (begun : Bool) (w : Bytes) (ws : Words) → is_inv w ≡ true → left begun (w ∷ ws) ≡ left begun ws
unfolding left kept not_inv
left-inv begun w ws e = rw e

left_word : (begun : Bool) (w : Bytes) (ws : Words) → is_inv w ≡ false → left begun (w ∷ ws) ≡ gapped begun w ++ left true ws
unfolding left kept not_inv gapped after_each joined joined_by
left_word true w ws e = rw e
left_word false w ws e = rw e

-- of the globals of a step's words, those of `rest` are left
pub record Gathering (s : Bytes) (dst₀ : Bytes) (pen : Pen) (rest : Words) (dst : Bytes) : Type 0 where
  pub done : Bytes
  pub adds : Adds true done dst₀ 0 pen.at dst
  pub write : pen.write ≡ true
  pub right : done ++ left pen.begun rest ≡ globals_of (words s)
  pub room : length s ≤ length dst₀

-- behind the first word
pub gathering-start : {s : Bytes} (dst : Bytes) {us rest : Words} (first : Option (Bor Bytes)) → us ≡ exchanged (words s) → MatchOption first ((us ≡ []) × (rest ≡ [])) (λ x. us ≡ x.now ∷ rest)
    → length s ≤ length dst → Gathering s dst (record { write = true; at = 0; begun = false; owed = false }) rest dst
unfolding left globals_of
gathering-start {s} dst {us} {rest} first e o r = record {
  done = [];
  adds = adds-nothing dst 0 true;
  write = refl;
  right = ap (λ (ws : Words). joined (kept not_inv ws)) (behind first o) ∙ ap (λ (ws : Words). joined (kept not_inv (drop 1 ws))) e;
  room = r;
}
  where
    behind : (f : Option (Bor Bytes)) → MatchOption f ((us ≡ []) × (rest ≡ [])) (λ x. us ≡ x.now ∷ rest) → rest ≡ drop 1 us
    behind (Some x) h = sym (ap (drop 1) h)
    behind None h = h.1 ∙ sym (ap (drop 1) h.0)

module _ {s : Bytes} {dst₀ : Bytes} {pen : Pen} {rest : Words} {dst : Bytes} (i : Gathering s dst₀ pen rest dst) where
  whole_room : Room true (i.done ++ left pen.begun rest) 0 dst₀
  unfolding limit
  whole_room = record { fits = rw i.right (omega (arith, globals-length s, i.room)) }

  pub gathering-kept : length dst ≡ length dst₀
  gathering-kept = adds-length (first-room i.done (left pen.begun rest) whole_room) i.adds

  pub gathering-end : rest ≡ [] → Wrote (globals_of (words s)) dst₀ pen.at dst
  gathering-end e =
      let t : i.done ≡ globals_of (words s) = sym (append-nil i.done) ∙ ap (λ (u : Bytes). i.done ++ u) (sym (ap (left pen.begun) e ∙ left-none pen.begun)) ∙ i.right in
      done-wrote (adds-as t i.adds)
    where
      done-wrote : Adds true (globals_of (words s)) dst₀ 0 pen.at dst → Wrote (globals_of (words s)) dst₀ pen.at dst
      done-wrote a = (adds-wrote (omega (arith, globals-length s, i.room)) a).wrote

  module _ {w : Bytes} {more : Words} (e : rest ≡ w ∷ more) where
    pub gathering-inv : is_inv w ≡ true → Gathering s dst₀ pen more dst
    gathering-inv z = record {
      done = i.done;
      adds = i.adds;
      write = i.write;
      right = ap (λ (u : Bytes). i.done ++ u) (sym (ap (left pen.begun) e ∙ left-inv pen.begun w more z)) ∙ i.right;
      room = i.room;
    }

    module _ (z : is_inv w ≡ false) where
      left_is : left pen.begun rest ≡ gapped pen.begun w ++ left true more
      left_is = ap (left pen.begun) e ∙ left_word pen.begun w more z

      more_room : Room true (gapped pen.begun w ++ left true more) pen.at dst
      more_room = room_as left_is (then-room i.done (left pen.begun rest) whole_room i.adds)

      pub gathering-room : Room pen.write (gapped pen.begun w) pen.at dst
      gathering-room = rw i.write (first-room (gapped pen.begun w) (left true more) more_room)

      split-right : (i.done ++ gapped pen.begun w) ++ left true more ≡ i.done ++ left pen.begun rest
      split-right = append_assoc i.done (gapped pen.begun w) (left true more) ∙ ap (λ (u : Bytes). i.done ++ u) (sym left_is)

      pub gathering-word : {r : Pen} {dst' : Bytes} → Worded w pen dst r dst' → Gathering s dst₀ r more dst'
      gathering-word a = record {
        done = i.done ++ gapped pen.begun w;
        adds =
            adds-both i.done (gapped pen.begun w)
            (first-room (i.done ++ gapped pen.begun w) (left true more) (room_as (sym split-right) whole_room)) i.adds (adds-by i.write a.adds);
        write = a.write ∙ i.write;
        right = rw a.begun (split-right ∙ i.right);
        room = i.room;
      }

-- ---- a step's text

module _ (s g : Bytes) {inverted : Bool} {us : Words} (u : us ≡ exchanged (words s)) {m : Marks} {d : Bool} (k : IsMarks us m) (e : d ≡ xor m.inv inverted) (f : Global (pipeline_of g inverted)) where
  text-is : step_of (pipeline_of g inverted) (words s) ≡ more false (flow d (with_globals (pipeline_of g true) (tidied (words s))))
  unfolding with_globals
  text-is = step-text (pipeline_of g inverted) s f ∙ rw (← u, ← k.inv, ← e)

  module _ {write : Bool} {at : ℕ} {dst₀ : Bytes} where
    pub step_room : Room write (step_of (pipeline_of g inverted) (words s)) at dst₀
        → RoomForAll (with_globals (pipeline_of g true) (tidied (words s))) (record { write = write; at = at; begun = false; owed = d }) dst₀
    step_room r = record { fits = record { room = room_as text-is r } }

    pub step-done : {r : Pen} {dst : Bytes}
        → PensAll (with_globals (pipeline_of g true) (tidied (words s))) (record { write = write; at = at; begun = false; owed = d }) dst₀ r dst
        → Adds write (step_of (pipeline_of g inverted) (words s)) dst₀ at r.at dst
    step-done a = adds-as (sym text-is) a.adds
