-- `two_lines`: behind the first n bytes stand `_nametrue`, and both parts are within them.
use Prim.Native.Nat.{◌-◌}
use native.Mathlib.Omega.{arith}
use lib.ListN.{take}
use lib.Seq.{length-take-le}
use Rattle.text.proofs.Wrote.{wrote-front}
use Rattle.parameters.proofs.Spelt.{spelt-behind}
use Rattle.outside.proofs.tests.two_lines.Goals as goal

pub invariant_of-new : goal.invariant_of-new
invariant_of-new g c =
    record { spelt = rw (wrote-front c.put-m.ensures) (spelt-behind (take (g.row.N - 9) c.put.new.dst) (g.row.N - 9) (length-take-le (g.row.N - 9) c.put.new.dst (omega (arith, c.put.auto.dst)))) }
