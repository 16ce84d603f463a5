-- `place`: a coordinate is an array of four numbers, and each slot is below four (`place-so`).
use Rattle.columns.proofs.FourNumbers.{place-so}
use Rattle.columns.proofs.slots.place.Goals as goal

pub returns : goal.returns
returns c = place-so c.args.o.at c.args.o.within c.args.c c.args.v
