-- `flip`: with too few columns every number becomes NaN, as the act says; with enough, `flip_columns` does what the act does.
use Rattle.stack.proofs.AllOrNone.{flip-few}
use Rattle.stack.proofs.Flipped.{flip-acted}
use Rattle.stack.proofs.coords.flip.Goals as goal

pub returns-then-depth-args : goal.returns-then-depth-args
returns-then-depth-args c =
    flip-few c.args.depth c.args.xs.now c.args.store.now _ c.nan_all.auto.xs c.nan_all.ensures c.args.args.now c.if-depth-args.true

pub returns : goal.returns
returns c =
    flip-acted c.args.args.now c.args.depth c.args.xs.now c.args.store.now _ _ c.if-depth-args.false c.flip_columns.auto.xs c.flip_columns.ensures.0 c.flip_columns.ensures.1
