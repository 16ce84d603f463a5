use Rattle.text.proofs.InDomain.{left-byte, left-digit, left-stop, left-none, left-all}
use Rattle.text.proofs.domain.in_domain.Goals as goal

pub loop-rest-preserved-then-b-lt128 : goal.loop-rest-preserved-then-b-lt128
loop-rest-preserved-then-b-lt128 c = left-byte c.loop-rest.invariant c.in-len1-up.len_at_least c.if-b-lt128.true

pub returns-in_default-behind_digit : goal.returns-in_default-behind_digit
returns-in_default-behind_digit c = left-stop c.loop-rest.invariant c.in-len1-up.len_at_least c.if-b-lt128.false c.in_default-behind_digit.ensures

pub loop-rest-preserved : goal.loop-rest-preserved
loop-rest-preserved c = left-digit c.loop-rest.invariant c.if-b-lt128.false c.in-Some.ensures (left-all c.skip_ascii-rest-else-b-lt128.ensures.shorter c.skip_ascii-rest-else-b-lt128.ensures.same)

pub returns : goal.returns
returns c = left-none c.loop-rest.invariant c.in_default.len_below
