use Rattle.std.proofs.Common.{rules}
use Rattle.text.proofs.InDomain.{left-block}
use Rattle.text.proofs.domain.skip_ascii.Goals as goal

pub loop-block-preserved : goal.loop-block-preserved
loop-block-preserved c = left-block c.loop-block.invariant c.in-Some.block.now c.in-Some.others.now (search rules) (search rules)
