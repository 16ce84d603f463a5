-- `put`: the first i bytes of src are written from `at` on, and the others are to come (`Sofar`).
use mathlib.Core.List.{◌++◌}
use Prim.Native.Nat.{◌+◌, ◌≤◌}
use lib.ListN.{length, take, drop}
use Rattle.text.proofs.Wrote.{Sofar}
use Rattle.text.proofs.copy.put.Given as goal

abbrev pub invariant-loop-i : goal.invariant-loop-i
invariant-loop-i l = (l.i ≤ length l.src) × Sofar (take l.at l.initial.dst ++ l.src) (drop l.i l.src) l.initial.dst (l.at + l.i) l.dst
