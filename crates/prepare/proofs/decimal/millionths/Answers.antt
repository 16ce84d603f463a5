-- Six digits at most: the product stays below a million.
use borrow.Author.Rules.{Fits-under}
use Rattle.prepare.proofs.DigitsSpelt.{millionths-small}
use Rattle.prepare.proofs.decimal.millionths.Goals as goal

pub overflow_mul-result : goal.overflow_mul-result
overflow_mul-result c =
    rw c.pow.ensures (Fits-under _ _ 1000000 (millionths-small c.args.v c.args.k c.requires.le_k.1 c.requires.v_bound) tt)
