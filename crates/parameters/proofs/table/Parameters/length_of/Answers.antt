use native.Mathlib.Omega.{arith}
use borrow.Author.Rules.{Fits-under}
use Rattle.parameters.specs.Parts.{no_part}
use Rattle.parameters.proofs.Places.{held-within, items-few}
use Rattle.parameters.proofs.Lines.{total-more, total-small, total-end}
use Rattle.parameters.proofs.table.Parameters.length_of.Goals as goal

pub overflow_sub-n : goal.overflow_sub-n
overflow_sub-n c = (held-within c.args.self.now.good c.held-p-items.ensures _ no_part c.loop-p-test.true).key-ahead

pub overflow_add-n : goal.overflow_add-n
overflow_add-n c =
    let w = held-within c.args.self.now.good c.held-p-items.ensures _ no_part c.loop-p-test.true in
    Fits-under _ _ 2622081 (omega (arith, total-small c.loop-p.invariant no_part c.loop-p-test.true c.requires w (items-few c.args.self.now.good c.held-p-items.ensures))) tt

pub overflow_sub-n-in-loop-p : goal.overflow_sub-n-in-loop-p
overflow_sub-n-in-loop-p c = (held-within c.args.self.now.good c.held-p-items.ensures _ no_part c.loop-p-test.true).value-ahead

pub overflow_add-n-in-loop-p : goal.overflow_add-n-in-loop-p
overflow_add-n-in-loop-p c =
    let w = held-within c.args.self.now.good c.held-p-items.ensures _ no_part c.loop-p-test.true in
    Fits-under _ _ 2622081 (omega (arith, total-small c.loop-p.invariant no_part c.loop-p-test.true c.requires w (items-few c.args.self.now.good c.held-p-items.ensures))) tt

pub overflow_add-n-in-loop-p-2 : goal.overflow_add-n-in-loop-p-2
overflow_add-n-in-loop-p-2 c =
    let w = held-within c.args.self.now.good c.held-p-items.ensures _ no_part c.loop-p-test.true in
    Fits-under _ _ 2622081 (omega (arith, total-small c.loop-p.invariant no_part c.loop-p-test.true c.requires w (items-few c.args.self.now.good c.held-p-items.ensures))) tt

pub loop-p-preserved : goal.loop-p-preserved
loop-p-preserved c =
    total-more c.loop-p.invariant no_part c.loop-p-test.true c.requires (held-within c.args.self.now.good c.held-p-items.ensures _ no_part c.loop-p-test.true)

pub returns : goal.returns
returns c = rw (← c.held-p-items.ensures) (total-end c.loop-p.invariant c.loop-p-test.false)
