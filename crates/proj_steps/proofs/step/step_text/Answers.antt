use Rattle.rules.specs.Text.Bytes.{words}
use Rattle.proj_steps.proofs.Plans.{differ}
use Rattle.proj_steps.proofs.Emitted.{telling-start, telling-room, telling-own, telling-last, telling-end}
use Rattle.proj_steps.proofs.Globals.{step_room, step-done}
use Rattle.proj_steps.proofs.step.step_text.Goals as goal

pub loop-word-init : goal.loop-word-init
loop-word-init c =
    let head = c.head_of-head.ensures in (
      tt,
      tt,
      rw c.into_iter-word-iterator.ensures.into_iter_gives (telling-start (words c.args.step.text.now) head.words c.ellipsoid_of-ellipsoid.ensures c.args.step.worded c.of-ahead.ensures
          (step_room c.args.step.text.now c.args.pipe.globals.now head.words c.marks_of.ensures (differ c.marks_of.result.inv c.args.pipe.inverted) c.args.pipe.global c.requires)),
    )

pub own-requires : goal.own-requires
own-requires c = rw c.take.ensures.value (telling-room c.loop-word.invariant.2 c.in-Some.ensures.steps c.pass.ensures c.in-Some-pass.is)

pub loop-word-preserved-in-Some-pass : goal.loop-word-preserved-in-Some-pass
loop-word-preserved-in-Some-pass c =
    (tt, tt, rw c.take.ensures.after (telling-own c.loop-word.invariant.2 c.in-Some.ensures.steps c.pass.ensures c.in-Some-pass.is (rw c.take.ensures.value at c.own.ensures)))

pub finish-requires : goal.finish-requires
finish-requires c = telling-last c.loop-word.invariant.2 c.in-None.ensures.steps.0

pub returns : goal.returns
returns c =
    step-done c.args.step.text.now c.args.pipe.globals.now c.head_of-head.ensures.words c.marks_of.ensures (differ c.marks_of.result.inv c.args.pipe.inverted) c.args.pipe.global
    (telling-end c.loop-word.invariant.2 c.in-None.ensures.steps.0 c.finish.ensures)
