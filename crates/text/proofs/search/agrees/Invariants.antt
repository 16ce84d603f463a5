-- `agrees`: it is told of the first k bytes of `front`.
use mathlib.Core.Path.{◌≡◌}
use lib.ListN.{take, drop}
use Rattle.rules.specs.Text.Bytes.{starts}
use Rattle.text.proofs.search.agrees.Given as goal

abbrev pub invariant-loop-k : goal.invariant-loop-k
invariant-loop-k g l = l.same ≡ starts (take l.k l.front) (drop l.at l.src)
