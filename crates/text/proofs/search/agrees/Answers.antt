use mathlib.Core.Path.{refl}
use native.Mathlib.Omega.{arith}
use Rattle.rules.specs.Text.Bytes.{starts}
use Rattle.text.proofs.Finds.{starts-more}
use Rattle.text.proofs.search.agrees.Goals as goal

pub loop-k-init : goal.loop-k-init
unfolding starts
loop-k-init g c = refl

pub loop-k-preserved : goal.loop-k-preserved
loop-k-preserved g c = starts-more c.args.front c.args.src.now c.args.at c.loop-k.k c.loop-k.invariant (omega arith) (omega arith)
