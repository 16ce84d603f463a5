use Rattle.std.specs.Prelude.{None}
use lib.ListN.{length}
use mathlib.Core.Path.{◌≡◌}
use mathlib.Core.Path.{refl, sym, ap, ◌∙◌}
use mathlib.Core.Bool.{Bool, ◌||◌}
use mathlib.Core.List.{List}
use native.Mathlib.Omega.{arith}
use Rattle.rules.specs.Pipeline.Running.{running}
use Rattle.rules.specs.Pipeline.Check.{verdict, begin, checked}
use Rattle.rules.specs.declared.Step.{Step}
use Rattle.record.proofs.SoundTable.{Sound, sound-so, turn-so}
use Rattle.foretell.specs.Steps.{sofar}
use Rattle.foretell.proofs.CheckSoFar.{begun, checking-none, checking-few, checking-many, checking-goes, checking-omitted, answers-few, answers-many, told-so, answers-told, ready-so}
use Rattle.foretell.proofs.SpanNamed.{span-named}
use borrow.Author.Rules.{Fits-under, rules}
use Rattle.foretell.proofs.checked.Goals as goal
use Rattle.foretell.proofs.checked.Goals.{Start}

-- the table is one that no refusal 18 is given for
sound : (c : Start) → Sound c.args.table
sound c = sound-so c.args.table (let e : length c.args.table.steps ≡ 64 = search rules in e) c.requires

pub loop-k-init : goal.loop-k-init
loop-k-init c = checking-none _ _ (begun c.begun-t.ensures)

pub offset_bounds-table-i : goal.offset_bounds-table-i
offset_bounds-table-i c =
    let snd = sound (goal.at.offset_bounds-table-i c).Start in
    Fits-under _ _ 4000 (omega (arith, c.visited_of-i.ensures.1, snd.few)) tt

pub bounds-table-i : goal.bounds-table-i
bounds-table-i c =
    let snd = sound (goal.at.bounds-table-i c).Start in
    omega (arith, c.visited_of-i.ensures.1, snd.few)

pub act_of-d-requires : goal.act_of-d-requires
act_of-d-requires c =
    let snd = sound (goal.at.act_of-d-requires c).Start in
    let u = turn-so _ snd c.loop-k-test.true c.visited_of-i.ensures.0 c.visited_of-i.ensures.1 in
    u.made-is

pub overflow_sub-t : goal.overflow_sub-t
overflow_sub-t c = c.loop-k.invariant.gathered.whole.within

pub returns-in-Err-Few : goal.returns-in-Err-Few
returns-in-Err-Few c =
    let snd = sound (goal.at.returns-in-Err-Few c).Start in
    let u = turn-so _ snd c.loop-k-test.true c.visited_of-i.ensures.0 c.visited_of-i.ensures.1 in
    c.only.ensures
    ∙ answers-few _ _ _ _ (span-named _ snd c.visited_of-i.ensures.1) (ap (λ (l : List Step). verdict (running c.args.direction l) begin) snd.rows
    ∙ checking-few c.loop-k.invariant u.within _ _ _ u.at u.is (sym c.is_omitted.ensures ∙ c.if-is_omitted.false) _ c.act_of-d.ensures.same
    (sym c.judge.ensures ∙ rw c.in-Err-Few.field-0-is at c.in-Err-Few.is))

pub returns-in-Err-Many : goal.returns-in-Err-Many
returns-in-Err-Many c =
    let snd = sound (goal.at.returns-in-Err-Many c).Start in
    let u = turn-so _ snd c.loop-k-test.true c.visited_of-i.ensures.0 c.visited_of-i.ensures.1 in
    c.only-in-Err-Many.ensures
    ∙ answers-many _ _ _ _ (span-named _ snd c.visited_of-i.ensures.1) (ap (λ (l : List Step). verdict (running c.args.direction l) begin) snd.rows
    ∙ checking-many c.loop-k.invariant u.within _ _ _ u.at u.is (sym c.is_omitted.ensures ∙ c.if-is_omitted.false) _ c.act_of-d.ensures.same
    (sym c.judge.ensures ∙ rw c.in-Err-Many.field-0-is at c.in-Err-Many.is))

pub step-t-requires : goal.step-t-requires
step-t-requires c = record { ready = ready-so c.act_of-d.ensures c.loop-k.invariant.gathered.whole (sym c.judge.ensures ∙ c.in-Ok.is); n_bound = c.act_of-d.ensures.slots }

pub offset_bounds-depths-run : goal.offset_bounds-depths-run
offset_bounds-depths-run c =
    let snd = sound (goal.at.offset_bounds-depths-run c).Start in
    Fits-under _ _ 512 (omega (arith, c.loop-k.invariant.gathered.run, c.loop-k.invariant.behind, c.loop-k-test.true, snd.few)) tt

pub bounds-depths-run : goal.bounds-depths-run
bounds-depths-run c =
    let snd = sound (goal.at.bounds-depths-run c).Start in
    omega (arith, c.loop-k.invariant.gathered.run, c.loop-k.invariant.behind, c.loop-k-test.true, snd.few)

pub overflow_add-run : goal.overflow_add-run
overflow_add-run c =
    let snd = sound (goal.at.overflow_add-run c).Start in
    Fits-under _ _ 65 (omega (arith, c.loop-k.invariant.gathered.run, c.loop-k.invariant.behind, c.loop-k-test.true, snd.few)) tt

pub loop-k-preserved : goal.loop-k-preserved
loop-k-preserved c =
    let snd = sound (goal.at.loop-k-preserved c).Start in
    let u = turn-so _ snd c.loop-k-test.true c.visited_of-i.ensures.0 c.visited_of-i.ensures.1 in
    checking-goes c.loop-k.invariant u.within _ _ _ u.at u.is (sym c.is_omitted.ensures ∙ c.if-is_omitted.false) _ c.act_of-d.ensures.same (omega (arith, snd.many, snd.few))
    (sym c.judge.ensures ∙ c.in-Ok.is) (record
    { traced = c.step-t.ensures; run = refl; depths = refl; deepest = search rules; adapts = ap (λ (b : Bool). c.loop-k.adapts || b) c.is_adapting-adapts.ensures })

pub loop-k-preserved-then-is_omitted : goal.loop-k-preserved-then-is_omitted
loop-k-preserved-then-is_omitted c =
    let snd = sound (goal.at.loop-k-preserved-then-is_omitted c).Start in
    let u = turn-so _ snd c.loop-k-test.true c.visited_of-i.ensures.0 c.visited_of-i.ensures.1 in
    checking-omitted c.loop-k.invariant u.within _ _ _ u.at u.is (sym c.is_omitted.ensures ∙ c.if-is_omitted.true)

pub overflow_sub-result : goal.overflow_sub-result
overflow_sub-result c = c.loop-k.invariant.gathered.whole.within

pub returns : goal.returns
returns c =
    let snd = sound (goal.at.returns c).Start in
    told-so (sofar c.loop-k.t c.loop-k.run c.loop-k.depths c.loop-k.deepest c.loop-k.adapts) c.told_places.ensures
    ∙ answers-told c.loop-k.invariant (omega (arith, c.loop-k-test.false, snd.many)) ∙ ap (λ (l : List Step). checked None l (running c.args.direction l)) (sym snd.rows)
