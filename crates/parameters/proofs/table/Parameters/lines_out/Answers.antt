-- `lines_out`: of a small text `small_out` answers; of another `left_of` says whether the lines fit: where they do not it is 7, and else
-- `lines_of` has room for them.
use mathlib.Core.Path.{refl}
use native.Mathlib.Omega.{arith}
use Rattle.parameters.specs.Tables.{text, table_in}
use Rattle.parameters.proofs.Replies.{out-no-room, out-wrote}
use Rattle.parameters.proofs.table.Parameters.lines_out.Goals as goal

pub returns-in-Some : goal.returns-in-Some
returns-in-Some c =
    out-wrote (text c.args.self.now) (table_in c.args.self.now) c.args.out.now refl c.in-Some.ensures.0 c.lines_of.ensures

pub returns-in-None : goal.returns-in-None
returns-in-None c =
    out-no-room (text c.args.self.now) (table_in c.args.self.now) c.args.out.now refl (omega (arith, c.in-None.ensures))
