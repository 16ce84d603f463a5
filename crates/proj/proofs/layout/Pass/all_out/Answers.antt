use Rattle.std.proofs.Common.{refl, sym, ap, ◌∙◌}
use Rattle.proj.proofs.Laid.{laying-start, laying-end, laying-skip, laying-small, laying-spot, laying-next, took-as, ended-as}
use Rattle.proj.proofs.layout.Pass.all_out.Goals as goal

pub loop-step-init : goal.loop-step-init
loop-step-init c =
    rw c.into_iter-step-iterator.ensures.into_iter_gives
    (tt, tt, refl, laying-start c.requires.n_len_bound c.requires.g_len_bound c.args.pipe.global c.requires.ready)

pub part_out-put-requires-clause-s_len_bound : goal.part_out-put-requires-clause-s_len_bound
part_out-put-requires-clause-s_len_bound c = laying-small c.loop-step.invariant.3 (took-as c.loop-step.invariant.2 c.in-Some.ensures.steps.0)

pub part_out-put-requires-clause-spot : goal.part_out-put-requires-clause-spot
part_out-put-requires-clause-spot c =
    laying-spot c.loop-step.invariant.3 (took-as c.loop-step.invariant.2 c.in-Some.ensures.steps.0) (sym c.is_written.ensures ∙ c.if-is_written.true)

pub loop-step-preserved-then-is_written : goal.loop-step-preserved-then-is_written
loop-step-preserved-then-is_written c = (
  tt,
  tt,
  ap (λ t. t.now) c.in-Some.ensures.steps.1 ∙ c.loop-step.invariant.2,
  laying-next c.loop-step.invariant.3 (took-as c.loop-step.invariant.2 c.in-Some.ensures.steps.0) (sym c.is_written.ensures ∙ c.if-is_written.true) c.part_out-put.ensures,
)

pub loop-step-preserved : goal.loop-step-preserved
loop-step-preserved c = (
  tt,
  tt,
  ap (λ t. t.now) c.in-Some.ensures.steps.1 ∙ c.loop-step.invariant.2,
  laying-skip c.loop-step.invariant.3 (took-as c.loop-step.invariant.2 c.in-Some.ensures.steps.0) (sym c.is_written.ensures ∙ c.if-is_written.false),
)

pub returns : goal.returns
returns c = laying-end c.loop-step.invariant.3 (ended-as _ c.loop-step.invariant.2 c.in-None.ensures.steps.0)
