-- `pick`: a coordinate is an array of four numbers, and each slot is below four (`pick-so`).
use Rattle.columns.proofs.FourNumbers.{pick-so}
use Rattle.columns.proofs.slots.pick.Goals as goal

pub returns : goal.returns
returns c = pick-so c.args.o.at c.args.o.within c.args.c
