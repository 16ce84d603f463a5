use mathlib.Core.Path.{◌≡◌, refl, sym, ◌∙◌}
use Prim.Native.Nat.{◌/◌}
use native.Mathlib.Nat.{mul-le-mul_right}
use native.Mathlib.Omega.{arith}
use lib.ListN.{length, take}
use Rattle.rules.specs.Pipeline.Record.{blank, listed}
use Rattle.rules.specs.Pipeline.Running.{running}
use Rattle.laws_lists.specs.Tests.{not_so, not_left}
use Rattle.pipeline.proofs.Outcomes.{tuples-few, used-few, refuses-15, refuses-16, refuses-17, refuses-18, past-15, past-16, past-18, finishes}
use Rattle.pipeline.proofs.RunSoFar.{table_none, table_before, table-after, table_step, table-ends}
use Rattle.pipeline.proofs.PlannedDepths.{no_room, plan-none, table-made, table-turn, table-over, table-end}
use Rattle.pipeline.proofs.OneStep.{count-is, count-few}
use Rattle.pipeline.proofs.FirstBad.{check-none, check-long, check-turn, check-bad, check-end}
use borrow.Author.Rules.{rules}
use Rattle.pipeline.proofs.run.Goals as goal
use Rattle.pipeline.proofs.run.Goals.{Start}

-- the table holds 64 records
full : (c : Start) → length c.args.table.steps ≡ 64
full c = (let e : length c.args.table.steps ≡ 64 = search rules in e)

pub returns-then-n-gt64 : goal.returns-then-n-gt64
returns-then-n-gt64 c =
    refuses-18 c.args.direction (listed c.args.table) c.args.tuples.now c.args.columns.now 0 (check-long c.args.table (full (goal.at.returns-then-n-gt64 c).Start) c.if-n-gt64.true)

pub loop-i-init : goal.loop-i-init
loop-i-init c =
    check-none _ (take c.args.table.n c.args.table.steps)

pub returns-then-not-good_in : goal.returns-then-not-good_in
returns-then-not-good_in c =
    let bad = sym c.good_in.ensures ∙ not_so c.if-not-good_in.true-raw in
    refuses-18 c.args.direction (listed c.args.table) c.args.tuples.now c.args.columns.now _ (check-bad c.args.table (full (goal.at.returns-then-not-good_in c).Start) c.if-n-gt64.false _ c.loop-i.end c.loop-i.i _ c.loop-i.invariant c.loop-i-test.true bad)

pub loop-i-preserved : goal.loop-i-preserved
loop-i-preserved c =
    let good = sym c.good_in.ensures ∙ not_left c.if-not-good_in.false-raw in
    check-turn c.args.table (full (goal.at.loop-i-preserved c).Start) c.if-n-gt64.false _ c.loop-i.end c.loop-i.i _ c.loop-i.invariant c.loop-i-test.true good c.end_of-end.ensures

pub returns-then-is_bad_list : goal.returns-then-is_bad_list
returns-then-is_bad_list c =
    past-18 c.args.direction (listed c.args.table) c.args.tuples.now c.args.columns.now _ _ _ (check-end c.args.table (full (goal.at.returns-then-is_bad_list c).Start) c.if-n-gt64.false _ c.loop-i.end c.loop-i.i c.loop-i.invariant c.loop-i-test.false)
    (refuses-15 (running c.args.direction (listed c.args.table)) c.args.tuples.now c.args.columns.now (sym c.is_bad_list.ensures ∙ c.if-is_bad_list.true))

pub loop-i-2-init : goal.loop-i-2-init
loop-i-2-init c =
    (check-end c.args.table (full (goal.at.loop-i-2-init c).Start) c.if-n-gt64.false _ c.loop-i.end c.loop-i.i c.loop-i.invariant c.loop-i-test.false, sym c.is_bad_list.ensures ∙ c.if-is_bad_list.false, plan-none c.args.direction (take c.args.table.n c.args.table.steps), refl, refl)

pub visited_of-k-requires : goal.visited_of-k-requires
visited_of-k-requires c = omega arith

pub offset_bounds-steps-k : goal.offset_bounds-steps-k
offset_bounds-steps-k c = omega (arith, c.if-n-gt64.false, c.visited_of-k.ensures.1)

pub bounds-steps-k : goal.bounds-steps-k
bounds-steps-k c =
    omega (arith, c.if-n-gt64.false, c.visited_of-k.ensures.1)

pub run_step-stood-requires : goal.run_step-stood-requires
run_step-stood-requires c = record { depth_bound = c.loop-i-2.invariant.2.within; s_value = table-made c.args.table (full (goal.at.run_step-stood-requires c).Start) c.loop-i-2.invariant.0 _ _ c.visited_of-k.ensures.1; tuples_in_bounds = no_room _ c.loop-i-2.no_tuples c.loop-i-2.no_columns c.loop-i-2.invariant.3; tuples_in_bounds_2 = no_room _ c.loop-i-2.no_tuples c.loop-i-2.no_columns c.loop-i-2.invariant.3 }

pub returns-then-depth-gt64 : goal.returns-then-depth-gt64
returns-then-depth-gt64 c =
    past-18 c.args.direction (listed c.args.table) c.args.tuples.now c.args.columns.now _ _ _ c.loop-i-2.invariant.0
    (past-15 (running c.args.direction (listed c.args.table)) c.args.tuples.now c.args.columns.now _ _ _ c.loop-i-2.invariant.1
    (refuses-16 (running c.args.direction (listed c.args.table)) c.args.tuples.now c.args.columns.now _
    (table-over c.args.table (full (goal.at.returns-then-depth-gt64 c).Start) c.loop-i-2.invariant.0 c.args.direction c.loop-i-2.depth c.loop-i-2.deepest c.loop-i-2.i _ _ c.loop-i-2.invariant.2 c.loop-i-2-test.true c.visited_of-k.ensures.0 c.visited_of-k.ensures.1 _ c.run_step-stood.ensures.deep
    c.if-depth-gt64.true)))

pub loop-i-2-preserved : goal.loop-i-2-preserved
loop-i-2-preserved c = (
  c.loop-i-2.invariant.0,
  c.loop-i-2.invariant.1,
  table-turn c.args.table (full (goal.at.loop-i-2-preserved c).Start) c.loop-i-2.invariant.0 c.args.direction c.loop-i-2.depth c.loop-i-2.deepest c.loop-i-2.i _ _ c.loop-i-2.invariant.2 c.loop-i-2-test.true c.visited_of-k.ensures.0 c.visited_of-k.ensures.1 _ c.run_step-stood.ensures.deep _
      c.if-depth-gt64.false (search rules),
  c.run_step-stood.auto.tuples ∙ c.loop-i-2.invariant.3,
  c.run_step-stood.auto.columns ∙ c.loop-i-2.invariant.4,
)

pub overflow_mul-used : goal.overflow_mul-used
overflow_mul-used c =
    let e = table-end c.args.table (full (goal.at.overflow_mul-used c).Start) c.loop-i-2.invariant.0 c.args.direction c.loop-i-2.depth c.loop-i-2.deepest c.loop-i-2.i c.loop-i-2.invariant.2 c.loop-i-2-test.false in
    omega (arith, used-few (running c.args.direction (listed c.args.table)) c.loop-i-2.deepest _ e.0 e.1 (tuples-few c.args.tuples.now c.loop-i-2.invariant.1))

pub returns-then-columns-used : goal.returns-then-columns-used
returns-then-columns-used c =
    let e = table-end c.args.table (full (goal.at.returns-then-columns-used c).Start) c.loop-i-2.invariant.0 c.args.direction c.loop-i-2.depth c.loop-i-2.deepest c.loop-i-2.i c.loop-i-2.invariant.2 c.loop-i-2-test.false in
    past-18 c.args.direction (listed c.args.table) c.args.tuples.now c.args.columns.now _ _ _ c.loop-i-2.invariant.0
    (past-15 (running c.args.direction (listed c.args.table)) c.args.tuples.now c.args.columns.now _ _ _ c.loop-i-2.invariant.1
    (past-16 (running c.args.direction (listed c.args.table)) c.args.tuples.now c.args.columns.now c.loop-i-2.deepest _ _ _ e.0 e.1
    (refuses-17 (running c.args.direction (listed c.args.table)) c.args.tuples.now c.args.columns.now _ c.if-columns-used.true)))

pub loop-i-3-init : goal.loop-i-3-init
loop-i-3-init c =
    let e = table-end c.args.table (full (goal.at.loop-i-3-init c).Start) c.loop-i-2.invariant.0 c.args.direction c.loop-i-2.depth c.loop-i-2.deepest c.loop-i-2.i c.loop-i-2.invariant.2 c.loop-i-2-test.false in
    (c.loop-i-2.invariant.0, c.loop-i-2.invariant.1, e.0, e.1, table_none c.args.table (full (goal.at.loop-i-3-init c).Start) c.loop-i-2.invariant.0 c.args.direction c.loop-i-2.deepest c.args.tuples.now c.args.columns.now e.0 e.1)

pub visited_of-k-requires-in-loop-i-3 : goal.visited_of-k-requires-in-loop-i-3
visited_of-k-requires-in-loop-i-3 c = omega arith

pub offset_bounds-steps-k-in-loop-i-3 : goal.offset_bounds-steps-k-in-loop-i-3
offset_bounds-steps-k-in-loop-i-3 c =
    omega (arith, c.if-n-gt64.false, c.visited_of-k-in-loop-i-3.ensures.1)

pub bounds-steps-k-in-loop-i-3 : goal.bounds-steps-k-in-loop-i-3
bounds-steps-k-in-loop-i-3 c =
    omega (arith, c.if-n-gt64.false, c.visited_of-k-in-loop-i-3.ensures.1)

pub run_step-stood-requires-in-loop-i-3 : goal.run_step-stood-requires-in-loop-i-3
run_step-stood-requires-in-loop-i-3 c = record {
  depth_bound = c.loop-i-3.invariant.4.within;
  s_value = table-made c.args.table (full (goal.at.run_step-stood-requires-in-loop-i-3 c).Start) c.loop-i-3.invariant.0 _ _ c.visited_of-k-in-loop-i-3.ensures.1;
  tuples_in_bounds = table_before c.args.table (full (goal.at.run_step-stood-requires-in-loop-i-3 c).Start) c.loop-i-3.invariant.0 c.args.direction c.loop-i-2.deepest c.args.tuples.now c.args.columns.now c.loop-i-3.tuples c.loop-i-3.columns c.loop-i-3.count c.loop-i-3.left c.loop-i-3.i _ blank
      c.loop-i-3.invariant.4 c.loop-i-3-test.true c.visited_of-k-in-loop-i-3.ensures.0 c.visited_of-k-in-loop-i-3.ensures.1 c.if-columns-used.false;
  tuples_in_bounds_2 = table-after c.args.table (full (goal.at.run_step-stood-requires-in-loop-i-3 c).Start) c.loop-i-3.invariant.0 c.args.direction c.loop-i-2.deepest c.args.tuples.now c.args.columns.now c.loop-i-3.tuples c.loop-i-3.columns c.loop-i-3.count c.loop-i-3.left c.loop-i-3.i _ _ c.loop-i-3.invariant.4
      c.loop-i-3-test.true c.visited_of-k-in-loop-i-3.ensures.0 c.visited_of-k-in-loop-i-3.ensures.1 c.if-columns-used.false;
}

pub loop-i-3-preserved : goal.loop-i-3-preserved
loop-i-3-preserved c =
    let counts = count-is c.args.direction _ c.loop-i-3.left (length c.args.tuples.now / 4) c.loop-i-3.count c.loop-i-3.invariant.4.few c.run_step-stood-in-loop-i-3.result.none c.run_step-stood-in-loop-i-3.ensures.counts in (
      c.loop-i-3.invariant.0,
      c.loop-i-3.invariant.1,
      c.loop-i-3.invariant.2,
      c.loop-i-3.invariant.3,
      table_step c.args.table (full (goal.at.loop-i-3-preserved c).Start) c.loop-i-3.invariant.0 c.args.direction c.loop-i-2.deepest c.args.tuples.now c.args.columns.now c.loop-i-3.tuples c.loop-i-3.columns c.loop-i-3.count c.loop-i-3.left c.loop-i-3.i _
          _ c.loop-i-3.invariant.4 c.loop-i-3-test.true c.visited_of-k-in-loop-i-3.ensures.0 c.visited_of-k-in-loop-i-3.ensures.1 _ _ _ _ c.run_step-stood-in-loop-i-3.ensures.leaves c.run_step-stood-in-loop-i-3.auto.tuples c.run_step-stood-in-loop-i-3.auto.columns (c.counted-count.ensures ∙ counts)
          (omega (arith, c.counted-count.ensures, count-few (length c.args.tuples.now / 4) c.loop-i-3.count c.loop-i-3.invariant.4.few c.run_step-stood-in-loop-i-3.result.none)) c.run_step-stood-in-loop-i-3.ensures.deep,
    )

pub overflow_mul-left : goal.overflow_mul-left
overflow_mul-left c =
    omega (
      arith,
      used-few (running c.args.direction (listed c.args.table)) c.loop-i-2.deepest _ c.loop-i-3.invariant.2 c.loop-i-3.invariant.3 (tuples-few c.args.tuples.now c.loop-i-3.invariant.1),
      mul-le-mul_right {m = c.loop-i-3.left} {n = c.loop-i-2.deepest} (length c.args.tuples.now / 4)
          (table-ends c.args.table (full (goal.at.overflow_mul-left c).Start) c.loop-i-3.invariant.0 c.args.direction c.loop-i-2.deepest c.args.tuples.now c.args.columns.now c.loop-i-3.tuples c.loop-i-3.columns c.loop-i-3.count c.loop-i-3.left c.loop-i-3.i c.loop-i-3.invariant.4
          c.loop-i-3-test.false).low,
    )

pub zero_rest-requires : goal.zero_rest-requires
zero_rest-requires c = record {
  from_le_to = mul-le-mul_right {m = c.loop-i-3.left} {n = c.loop-i-2.deepest} (length c.args.tuples.now / 4)
      (table-ends c.args.table (full (goal.at.zero_rest-requires c).Start) c.loop-i-3.invariant.0 c.args.direction c.loop-i-2.deepest c.args.tuples.now c.args.columns.now c.loop-i-3.tuples c.loop-i-3.columns c.loop-i-3.count c.loop-i-3.left c.loop-i-3.i c.loop-i-3.invariant.4
      c.loop-i-3-test.false).low;
  to_in_bounds = omega (arith, c.loop-i-3.invariant.4.store_length, c.if-columns-used.false);
}

pub shape_of-tuples : goal.shape_of-tuples
shape_of-tuples c = c.loop-i-3.invariant.4.list_length

pub shape_of-columns : goal.shape_of-columns
shape_of-columns c = c.zero_rest.auto.store ∙ c.loop-i-3.invariant.4.store_length

pub returns : goal.returns
returns c =
    past-18 c.args.direction (listed c.args.table) c.args.tuples.now c.args.columns.now _ _ _ c.loop-i-3.invariant.0
    (past-15 (running c.args.direction (listed c.args.table)) c.args.tuples.now c.args.columns.now _ _ _ c.loop-i-3.invariant.1
    (past-16 (running c.args.direction (listed c.args.table)) c.args.tuples.now c.args.columns.now c.loop-i-2.deepest _ _ _ c.loop-i-3.invariant.2 c.loop-i-3.invariant.3
    (finishes (running c.args.direction (listed c.args.table)) c.loop-i-2.deepest c.args.tuples.now c.args.columns.now _ _ _ c.loop-i-3.count c.loop-i-3.left c.loop-i-3.invariant.1 c.loop-i-3.invariant.4.list_length
    c.loop-i-3.invariant.4.store_length c.if-columns-used.false
    (table-ends c.args.table (full (goal.at.returns c).Start) c.loop-i-3.invariant.0 c.args.direction c.loop-i-2.deepest c.args.tuples.now c.args.columns.now c.loop-i-3.tuples c.loop-i-3.columns c.loop-i-3.count c.loop-i-3.left c.loop-i-3.i c.loop-i-3.invariant.4
    c.loop-i-3-test.false) c.zero_rest.ensures)))
