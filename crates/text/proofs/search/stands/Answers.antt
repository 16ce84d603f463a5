use native.Mathlib.Omega.{arith}
use Rattle.text.proofs.Finds.{sought-next}
use Rattle.text.proofs.search.stands.Goals as goal

pub loop-j-preserved : goal.loop-j-preserved
loop-j-preserved g c = sought-next c.loop-j.invariant _ (omega arith) c.agrees-found.ensures
