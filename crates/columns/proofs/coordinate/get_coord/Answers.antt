-- `get_coord`: tuple i of a list is its four numbers from i * 4 on (`load-tuple`).
use Rattle.columns.proofs.TupleAt.{load-tuple}
use Rattle.columns.proofs.coordinate.get_coord.Goals as goal

pub returns : goal.returns
returns c =
    load-tuple c.args.xs.now c.args.i c.requires
