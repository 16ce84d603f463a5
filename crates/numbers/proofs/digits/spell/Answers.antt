use Rattle.std.proofs.Common.{rules, ◌<◌}
use Rattle.numbers.proofs.Spelt.{spelling-start, spelling-again, spelling-end, spelling-none}
use Rattle.numbers.proofs.digits.spell.Goals as goal

pub loop-k-init : goal.loop-k-init
loop-k-init c = let h : c.args.n < 18446744073709551616 = search rules in spelling-start _ _ h (search rules)

pub loop-k-preserved : goal.loop-k-preserved
loop-k-preserved c = spelling-again c.loop-k.invariant c.loop-k-test.true c.digit.ensures c.if-m-eq0.false

pub returns-then-m-eq0 : goal.returns-then-m-eq0
returns-then-m-eq0 c = spelling-end c.loop-k.invariant c.loop-k-test.true c.digit.ensures c.if-m-eq0.true

pub returns : goal.returns
returns c = absurd (spelling-none c.loop-k.invariant c.loop-k-test.false)
