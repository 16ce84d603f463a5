-- `small_out`: `length_of` says how long the lines are: longer than out is 7, and else `lines_of` has room for them.
use Rattle.parameters.specs.Tables.{text, table_in}
use Rattle.parameters.proofs.Replies.{out-no-room, out-wrote}
use Rattle.parameters.proofs.table.Parameters.small_out.Goals as goal

pub returns-then-out-length_of : goal.returns-then-out-length_of
returns-then-out-length_of c =
    out-no-room (text c.args.self.now) (table_in c.args.self.now) c.args.out.now c.length_of.ensures c.if-out-length_of.true

pub returns : goal.returns
returns c =
    out-wrote (text c.args.self.now) (table_in c.args.self.now) c.args.out.now c.length_of.ensures c.if-out-length_of.false c.lines_of.ensures
