-- `signed`: a size of nine digits at most is an i32, and so is that number turned (`turned-fits`); so no cast and no minus overflows.
use Rattle.numbers.proofs.SignMade.{plain-is, turned-back}
use Rattle.numbers.proofs.signs.signed.Goals as goal

pub returns-then-minus : goal.returns-then-minus
returns-then-minus c = rw c.if-minus.true (turned-back _ c.requires)

pub returns-else-minus : goal.returns-else-minus
returns-else-minus c = rw c.if-minus.false (plain-is _ c.requires)
