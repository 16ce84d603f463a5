-- A record that a preparation makes has its arguments in eight slots, and is of the crate's reading.
use Rattle.std.specs.Prelude.{◌≡◌, ℕ, ◌-◌, Bool, true, false, cond, List, [], ◌∷◌, ◌++◌, leb, ltb, ℤ, pos, Option, None, Some}
use Rattle.std.proofs.Math.Path.{ap}
use Rattle.std.proofs.Common.{arith}
use borrow.Author.Tests.{leb-true}
use Rattle.std.proofs.Math.ListN.{length, replicate, length-append, length-replicate}
use Rattle.rules.specs.Text.Ascii.{ascii}
use Rattle.rules.specs.Text.Lists.{any_of, all_of}
use Rattle.rules.specs.Text.Bytes.{Bytes}
use Rattle.rules.specs.Text.Refusal.{Reply, answers, refuses, refuses12, and_then}
use Rattle.rules.specs.Text.Split.{steps, split_steps}
use Rattle.rules.specs.Text.Parameters.{Parameter, parameters_of}
use Rattle.rules.specs.Operators.Arguments.{value_of}
use Rattle.rules.specs.Operators.Descriptions.{Operator, Chosen}
use Rattle.rules.specs.Operators.Table.{wording_of, greatest}
use Rattle.rules.specs.Pipeline.Record.{reading_number, step_with, made}
use Rattle.rules.specs.Pipeline.Keys.{kind_of, unknown, misspelt, too_long}
use Rattle.rules.specs.Pipeline.Prepare.{record_of, recorded, own_rule, judged14, judged11, named, judged10, judged, offset_in, at_step}
use Rattle.rules.specs.Pipeline.Prepare.{prepare_step, prepare_steps, prepare_split}
use Rattle.rules.specs.declared.Mode.{Mode}
use Rattle.rules.specs.declared.Reading.TheVariants.{Crate}
use Rattle.rules.specs.declared.Step.{Step}
use Rattle.rules.specs.declared.Name.{Name}
use Rattle.laws_records.specs.Made.{then-answers}
use Rattle.laws_lists.specs.Lists.{Every}
use Rattle.laws_lists.specs.Tests.{and_left, and_right, never}
use Rattle.laws_records.specs.Faithful.{Slots}
use Rattle.laws_records.specs.Readings.{InIt}

-- a record with its arguments in its slots
record Slotted (s : Step) : Type 0 where
  slotted-by : Operator
  given : List Parameter
  listed : List ℤ
  same-as : record_of slotted-by given listed ≡ s

-- whatever the operator's own rule chose
own-slotted : (mode : Mode) (n : Name) (ps : List Parameter) (s : Step) → own_rule mode n ps ≡ Some s → Slotted s
unfolding own_rule
own-slotted mode n ps s h = go ((wording_of n).chosen mode ps) h
  where
    go : (c : Option Chosen) → recorded ps c ≡ Some s → Slotted s
    go None h = unfold recorded in absurd (never (cc h))
    go (Some c) h = unfold recorded in record { slotted-by = c.operator; given = ps; listed = c.arguments; same-as = cc h }

judged-slotted : (mode : Mode) (ps : List Parameter) (s : Step) → judged mode ps ≡ answers s → Slotted s
unfolding judged judged10 judged11 judged14
judged-slotted mode ps s h = by10 (named (value_of (ascii "_name") ps)) h
  where
    by14 : (o : Option Step) → ((r : Step) → o ≡ Some r → Slotted r) → judged14 o ≡ answers s → Slotted s
    by14 None f h = absurd (never (cc h))
    by14 (Some r) f h = f s (cc h)

    by13 : (n : Name) (a b c : Bool) → cond a (refuses 11 0) (cond b (refuses12 0 0) (cond c (refuses 13 0) (judged14 (own_rule mode n ps)))) ≡ answers s → Slotted s
    by13 n true b c h = absurd (never (cc h))
    by13 n false true c h = absurd (never (cc h))
    by13 n false false true h = absurd (never (cc h))
    by13 n false false false h = by14 (own_rule mode n ps) (own-slotted mode n ps) h

    by10 : (o : Option Name) → judged10 mode o ps ≡ answers s → Slotted s
    by10 None h = absurd (never (cc h))
    by10 (Some n) h =
        by13 n (any_of (unknown n) ps) (any_of (λ (p : Parameter). misspelt (kind_of n p) p.value) ps) (any_of (λ (p : Parameter). too_long (kind_of n p) p.value) ps) h

step-slotted : (mode : Mode) (place : ℕ) (t : Bytes) (s : Step) → prepare_step mode place t ≡ answers s → Slotted s
unfolding prepare_step at_step
step-slotted mode place t s h = go (ltb 4096 (length t)) h
  where
    at : (r : Reply Step) → at_step place (offset_in t) r ≡ answers s → r ≡ answers s
    at (answers x) h = h
    at (refuses n p) h = absurd (never (cc h))
    at (refuses12 p o) h = absurd (never (cc h))

    go : (b : Bool) → at_step place (offset_in t) (cond b (refuses 1 0) (and_then (parameters_of t) (judged mode))) ≡ answers s → Slotted s
    go true h = absurd (never (cc h))
    go false h = let f = then-answers (parameters_of t) (judged mode) s (at _ h) in judged-slotted mode f.0 s f.2

steps-slotted : (mode : Mode) (place : ℕ) (ts : List Bytes) (l : List Step) → prepare_steps mode place ts ≡ answers l → Every Slotted l
unfolding prepare_steps Every
steps-slotted mode place [] l h = let e : [] ≡ l = cc h in rw (← e) tt
steps-slotted mode place (t ∷ ts) l h =
    let f = then-answers (prepare_step mode place t) _ l h in
    let g = then-answers (prepare_steps mode _ ts) _ l f.2 in
    let e : f.0 ∷ g.0 ≡ l = cc g.2 in
    rw (← e) (step-slotted mode place t f.0 f.1, steps-slotted mode _ ts g.0 g.1)

-- such a record that passes `made` has its eight slots
slotted-eight : (s : Step) → Slotted s → made s ≡ true → Slots s
slotted-eight s h m = go h.slotted-by h.given h.listed h.same-as
  where
    few : leb s.n 8 ≡ true
    few = unfold made in and_left (leb s.n 8) _ (and_right (leb s.operator greatest) _ m)

    go : (o : Operator) (ps : List Parameter) (l : List ℤ) → record_of o ps l ≡ s → Slots s
    go o ps l e =
        let n : length l ≡ s.n = unfold record_of step_with in ap (λ (r : Step). r.n) e in
        let a : length (l ++ replicate (8 - length l) (pos 0)) ≡ length s.args = unfold record_of step_with in ap (λ (r : Step). length r.args) e in
        omega (arith, length-append l (replicate (8 - length l) (pos 0)), length-replicate {A = ℤ} (8 - length l) (pos 0), leb-true s.n 8 few)

eight-each : (l : List Step) → all_of made l ≡ true → Every Slotted l → Every Slots l
unfolding all_of Every
eight-each [] h k = tt
eight-each (s ∷ l) h k =
    let m = and_left (made s) (all_of made l) h in
    (slotted-eight s k.0 m, eight-each l (and_right (made s) (all_of made l) h) k.1)

-- and it is of the crate's reading
slotted-crates : (l : List Step) → Every Slotted l → Every (InIt (reading_number Crate)) l
unfolding Every record_of step_with
slotted-crates [] k = tt
slotted-crates (s ∷ l) k = (ap (λ (r : Step). r.reading) k.0.same-as, slotted-crates l k.1)

-- The records of a text's steps that pass `made` have their slots, and are of the crate's reading.
pub split-slotted : (mode : Mode) (t : Bytes) (l : List Step) → prepare_split mode t ≡ answers l → all_of made l ≡ true
    → Every Slots l × Every (InIt (reading_number Crate)) l
unfolding prepare_split
split-slotted mode t l p h =
    let f = then-answers (split_steps (steps t)) (prepare_steps mode 1) l p in
    let k = steps-slotted mode 1 f.0 l f.2 in
    (eight-each l h k, slotted-crates l k)
