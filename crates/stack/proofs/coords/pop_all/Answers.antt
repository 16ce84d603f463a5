-- `pop_all`: with too few columns every number becomes NaN, as the act says; with enough it is what the operator `pop` does, which finds
-- none too few.
use Rattle.stack.proofs.AllOrNone.{pop-all-few, pop-all-acted}
use Rattle.stack.proofs.coords.pop_all.Goals as goal

pub returns-then-depth-args : goal.returns-then-depth-args
returns-then-depth-args c =
    pop-all-few c.args.depth c.args.xs.now c.args.store.now _ c.nan_all.auto.xs c.nan_all.ensures c.args.args.now c.if-depth-args.true

pub returns : goal.returns
returns c =
    pop-all-acted c.args.args.now c.args.depth c.args.xs.now c.args.store.now _ _ c.if-depth-args.false c.pop.ensures
