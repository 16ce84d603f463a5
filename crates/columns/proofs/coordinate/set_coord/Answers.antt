-- `set_coord`: to store four numbers from i * 4 on is to store tuple i of a list (`store-tuple`); a store keeps the list's length.
use Rattle.columns.proofs.TupleAt.{store-tuple}
use Rattle.columns.proofs.coordinate.set_coord.Goals as goal

pub returns : goal.returns
returns c = store-tuple c.args.xs.now c.args.i c.args.v c.requires
