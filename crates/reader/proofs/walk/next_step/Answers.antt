use mathlib.Core.Path.{sym, ◌∙◌}
use native.Mathlib.Omega.{arith}
use Rattle.reader.proofs.Walks.{walks-none, walks-over, walks-here, walks-end}
use Rattle.reader.proofs.walk.next_step.Goals as goal

pub loop-from-init : goal.loop-from-init
loop-from-init c = walks-none _ _

pub slice_bounds-is_blank-count : goal.slice_bounds-is_blank-count
slice_bounds-is_blank-count c = c.run_end-to.ensures.ahead

pub returns-then-not-is_blank : goal.returns-then-not-is_blank
returns-then-not-is_blank c = walks-here c.loop-from.invariant c.run_end-to.ensures (sym c.is_blank.ensures ∙ c.if-not-is_blank.true)

pub overflow_add-from : goal.overflow_add-from
overflow_add-from c = omega (arith, c.run_end-to.ensures.within)

pub loop-from-smaller : goal.loop-from-smaller
loop-from-smaller c = omega (arith, c.run_end-to.ensures.ahead, c.loop-from-test.true)

pub loop-from-preserved : goal.loop-from-preserved
loop-from-preserved c = walks-over c.loop-from.invariant c.run_end-to.ensures (sym c.is_blank.ensures ∙ c.if-not-is_blank.false)

pub returns : goal.returns
returns c = walks-end c.loop-from.invariant c.loop-from-test.false
