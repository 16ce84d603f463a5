-- `run_step`: an omitted step leaves all as it is, and so do the rules. Any other does its act; the depth and the count after it are asked
-- for before the act, since they hang on the depth before.
use mathlib.Core.Path.{sym, ◌∙◌, subst}
use Prim.Native.Nat.{ℕ, ◌*◌, ◌/◌, ◌≤◌}
use lib.ListN.{length}
use Rattle.pipeline.proofs.OneStep.{own, depth_is, depth-omitted, depth-run, none-omitted, none-run, step-omitted, step_run}
use Rattle.pipeline.proofs.run_step.Goals as goal

pub returns-then-is_omitted : goal.returns-then-is_omitted
returns-then-is_omitted c =
    let o = sym c.is_omitted.ensures ∙ c.if-is_omitted.true in
    record {
      deep = depth-omitted c.args.direction c.args.s c.args.depth o;
      counts = none-omitted c.args.direction c.args.s c.args.depth o;
      leaves = step-omitted c.args.direction c.args.s c.args.depth c.args.tuples.now c.args.columns.now o;
    }

pub run_act-requires : goal.run_act-requires
run_act-requires c =
    let e = depth_is c.args.direction c.args.s c.args.depth (sym c.is_omitted.ensures ∙ c.if-is_omitted.false) c.act_of-d.ensures.same in record { depth_bound = c.requires.depth_bound; does = own c.act_of-d.ensures; tuples_in_bounds = c.requires.tuples_in_bounds; tuples_in_bounds_2 = subst (λ (z : ℕ). z * (length c.args.tuples.now / 4) ≤ length c.args.columns.now) (sym e) c.requires.tuples_in_bounds_2 }

pub returns : goal.returns
returns c =
    let o = sym c.is_omitted.ensures ∙ c.if-is_omitted.false in
    record {
      deep = depth-run c.args.direction c.args.s c.args.depth _ o c.act_of-d.ensures.same c.depth_after.ensures;
      counts = none-run c.args.direction c.args.s c.args.depth _ o c.act_of-d.ensures.same c.counts_none.ensures;
      leaves = step_run c.args.direction c.args.s c.args.depth c.args.tuples.now c.args.columns.now _ _ o c.act_of-d.ensures.same c.run_act.ensures;
    }

pub act_of-d-requires : goal.act_of-d-requires
act_of-d-requires c = c.requires.s_value

pub depth_after-requires : goal.depth_after-requires
depth_after-requires c = record { depth_bound = c.requires.depth_bound; n_bound = c.act_of-d.ensures.slots }

pub counts_none-requires : goal.counts_none-requires
counts_none-requires c = c.act_of-d.ensures.slots

pub shape_of-tuples : goal.shape_of-tuples
shape_of-tuples c = c.run_act.auto.tuples

pub shape_of-columns : goal.shape_of-columns
shape_of-columns c = c.run_act.auto.columns
