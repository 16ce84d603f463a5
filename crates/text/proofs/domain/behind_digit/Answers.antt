-- `behind_digit`: each way to no digit contradicts one of the definition's tests; a text of fewer than three bytes has none.
use Rattle.std.proofs.Common.{rules, tests}
use Rattle.text.proofs.InDomain.{no-digit, short-text, digit-there}
use Rattle.text.proofs.domain.behind_digit.Goals as goal
use Rattle.text.proofs.domain.behind_digit.Goals.{else-x-via-then-x+then-y+else-contains, else-x-via-then-x+else-y, else-x-via-else-x}

pub returns-in_default : goal.returns-in_default
returns-in_default c = short-text _ c.in_default.len_below

pub returns-then-contains : goal.returns-then-contains
returns-then-contains c = digit-there _ c.in-len3-up.len_at_least c.if-x.true c.if-y.true (search (rules, tests)) (search (rules, tests))

pub returns-else-x : goal.returns-else-x
returns-else-x c = elim c.else-x.branch [
  | else-x-via-then-x+then-y+else-contains w ↦ no-digit _ (λ x y l h. search (rules, tests))
  | else-x-via-then-x+else-y w ↦ no-digit _ (λ x y l h. w.if-y.false y)
  | else-x-via-else-x w ↦ no-digit _ (λ x y l h. w.if-x.false x)
]
