use native.Mathlib.Omega.{arith}
use Rattle.rules.specs.Text.Ascii.{ascii}
use Rattle.rules.specs.Face.Shown.{heading}
use Rattle.show.proofs.HeadedLines.{heading-start, heading-kept, heading-done, heading-room, heading-said, heading-place, heading-next, heading-byte, less-heading}
use borrow.Author.Rules.{rules}
use Rattle.show.proofs.pieces.say_steps.Goals as goal

pub loop-i-init : goal.loop-i-init
loop-i-init c = heading-start _ _ _ c.requires

pub bounds-out-o : goal.bounds-out-o
bounds-out-o c = (heading-place c.loop-i.invariant c.loop-i-test.true c.if-begun.true).0

pub overflow_add-o : goal.overflow_add-o
overflow_add-o c = let h = (heading-place c.loop-i.invariant c.loop-i-test.true c.if-begun.true).1 in search rules

pub loop-i-smaller-then-b-eq10 : goal.loop-i-smaller-then-b-eq10
loop-i-smaller-then-b-eq10 c = omega (arith, c.loop-i-test.true)

pub loop-i-preserved-then-b-eq10 : goal.loop-i-preserved-then-b-eq10
loop-i-preserved-then-b-eq10 c = heading-next c.loop-i.invariant c.loop-i-test.true c.if-begun.true c.if-b-eq10.true

pub loop-i-smaller-else-b-eq10 : goal.loop-i-smaller-else-b-eq10
loop-i-smaller-else-b-eq10 c = omega (arith, c.loop-i-test.true)

pub loop-i-preserved-else-b-eq10 : goal.loop-i-preserved-else-b-eq10
loop-i-preserved-else-b-eq10 c = heading-byte c.loop-i.invariant c.loop-i-test.true c.if-begun.true c.if-b-eq10.false

pub say_step-o-requires : goal.say_step-o-requires
unfolding heading ascii
say_step-o-requires c = heading-room c.loop-i.invariant c.loop-i-test.true c.if-begun.false

pub loop-i-smaller : goal.loop-i-smaller
loop-i-smaller c = less-heading _ _ c.if-begun.false

pub loop-i-preserved : goal.loop-i-preserved
unfolding heading ascii
loop-i-preserved c =
    heading-said c.loop-i.invariant c.loop-i-test.true
    c.if-begun.false c.say_step-o.ensures

pub shape_of-out : goal.shape_of-out
shape_of-out c = heading-kept c.loop-i.invariant

pub returns : goal.returns
returns c = heading-done c.loop-i.invariant c.loop-i-test.false
