use Rattle.std.proofs.Common.{sym, ◌∙◌}
use Rattle.proj_steps.proofs.Globals.{gathering-start, gathering-end, gathering-inv, gathering-room, gathering-word}
use Rattle.proj_steps.proofs.step.globals_into.Goals as goal

pub loop-word-init : goal.loop-word-init
loop-word-init c =
    (tt, tt, rw c.into_iter-word-iterator.ensures.into_iter_gives (gathering-start c.args.dst.now c.next.result c.requires.head.words c.next.ensures.steps c.requires.s_in_bounds))

pub word-requires : goal.word-requires
word-requires c = gathering-room c.loop-word.invariant.2 c.in-Some.ensures.steps (sym c.is_inv.ensures ∙ c.if-not-is_inv.true)

pub loop-word-preserved-then-not-is_inv : goal.loop-word-preserved-then-not-is_inv
loop-word-preserved-then-not-is_inv c =
    (tt, tt, gathering-word c.loop-word.invariant.2 c.in-Some.ensures.steps (sym c.is_inv.ensures ∙ c.if-not-is_inv.true) c.word.ensures)

pub loop-word-preserved : goal.loop-word-preserved
loop-word-preserved c = (tt, tt, gathering-inv c.loop-word.invariant.2 c.in-Some.ensures.steps (sym c.is_inv.ensures ∙ c.if-not-is_inv.false))

pub returns : goal.returns
returns c = gathering-end c.loop-word.invariant.2 c.in-None.ensures.steps.0
