use mathlib.Core.Path.{sym, ◌∙◌}
use Rattle.text.proofs.Finds.{passed-next, passed-other, passed_on, passed_here, passed-end}
use Rattle.text.proofs.search.find.Goals as goal

pub returns-then-starts_at : goal.returns-then-starts_at
returns-then-starts_at c =
    passed_here c.loop-i.invariant c.loop-i-test.true (sym c.starts_at.ensures ∙ c.if-starts_at.true)

pub loop-i-preserved-then-src-i : goal.loop-i-preserved-then-src-i
loop-i-preserved-then-src-i c =
    passed-other c.loop-i.invariant c.loop-i-test.true c.requires.nonzero c.if-src-i.true

pub loop-i-preserved : goal.loop-i-preserved
loop-i-preserved c =
    passed_on (passed-next c.loop-i.invariant c.loop-i-test.true (sym c.starts_at.ensures ∙ c.if-starts_at.false)) c.skip-i-else-starts_at.ensures

pub returns : goal.returns
returns c = passed-end c.loop-i.invariant c.loop-i-test.false
