use native.Mathlib.Omega.{arith}
use Rattle.rules.specs.Text.Normal.{replacements}
use Rattle.laws_text.specs.Sizes.{replacements-light}
use Rattle.normalise.proofs.Replacements.{running-start, running_more, running-last, running-asks, running-next, running-end}
use Rattle.normalise.proofs.normal.run_all.Goals as goal

pub loop-at-init : goal.loop-at-init
loop-at-init c = running-start replacements c.requires.rules_value replacements-light c.requires.n_in_bounds c.requires.a_in_bounds c.requires.a_in_bounds_2

pub bounds-rules-at-in-loop-at : goal.bounds-rules-at-in-loop-at
bounds-rules-at-in-loop-at c = running_more c.loop-at.invariant c.loop-at-test.true

pub slice_bounds-rewrite-end : goal.slice_bounds-rewrite-end
slice_bounds-rewrite-end c = omega (arith, running-last c.loop-at.invariant c.loop-at-test.true)

pub slice_bounds-rewrite-end-in-loop-at : goal.slice_bounds-rewrite-end-in-loop-at
slice_bounds-rewrite-end-in-loop-at c = omega (arith, running-last c.loop-at.invariant c.loop-at-test.true)

pub rewrite-m-requires : goal.rewrite-m-requires
rewrite-m-requires c = let all = running-asks c.loop-at.invariant c.loop-at-test.true in record { nonzero = all.0; n_in_bounds = all.1.0; a_in_bounds = all.1.1.0; a_in_bounds_2 = all.1.1.1 }

pub loop-at-preserved : goal.loop-at-preserved
loop-at-preserved c =
    running-next c.loop-at.invariant c.loop-at-test.true c.rewrite-m.ensures c.rewrite-m.auto.a c.rewrite-m.auto.b

pub returns : goal.returns
returns c = running-end c.loop-at.invariant c.loop-at-test.false
