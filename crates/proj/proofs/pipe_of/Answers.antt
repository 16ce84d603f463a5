-- `pipe_of`: the first step is looked at: if it is the pipeline's, its globals are written and its `inv` is told; else, or with no step,
-- there are none, and nothing is inverted.
use Rattle.std.proofs.Common.{arith, ap, length}
use Rattle.text.proofs.Wrote.{wrote-front}
use Rattle.laws_proj.specs.Bounds.{globals-length}
use Rattle.proj.proofs.Pipes.{nothing-global, pipe-none, pipe-other, pipe-here, pipe-global}
use Rattle.proj.proofs.pipe_of.Goals as goal

pub invariant_of-result : goal.invariant_of-result
invariant_of-result c = record { global = nothing-global }

pub returns-in_default : goal.returns-in_default
returns-in_default c = record { few = omega arith; is = pipe-none c.in_default.ensures.steps.0 }

pub invariant_of-result-then-not-head : goal.invariant_of-result-then-not-head
invariant_of-result-then-not-head c = record { global = nothing-global }

pub returns-then-not-head : goal.returns-then-not-head
returns-then-not-head c = record { few = omega arith; is = pipe-other c.in-Some.step.text.now c.in-Some.ensures.steps.0.here c.head_of-head.ensures c.if-not-head.true }

pub invariant_of-result-2 : goal.invariant_of-result-2
invariant_of-result-2 c = record {
  global = pipe-global c.in-Some.step.text.now c.in-Some.ensures.steps.0.here c.head_of-head.ensures c.if-not-head.false c.marks_of.ensures (wrote-front c.globals_into-m.ensures);
}

pub returns : goal.returns
returns c = record {
  few = omega (arith, ap length (wrote-front c.globals_into-m.ensures), globals-length c.in-Some.step.text.now, c.in-Some.ensures.steps.0.short);
  is = pipe-here c.in-Some.step.text.now c.in-Some.ensures.steps.0.here c.head_of-head.ensures c.if-not-head.false c.marks_of.ensures (wrote-front c.globals_into-m.ensures);
}
