-- `judge`: the tests are those of `judged`, in its order: too few columns, too many after the act, and else as many as there are then.
use Rattle.foretell.proofs.Judgements.{few-so, many-so, goes_so}
use Rattle.foretell.proofs.acts.judge.Goals as goal

pub returns-then-depth-takes : goal.returns-then-depth-takes
returns-then-depth-takes c = few-so _ c.takes.ensures c.if-depth-takes.true

pub returns-then-after-gt64 : goal.returns-then-after-gt64
returns-then-after-gt64 c =
    many-so _ c.takes.ensures c.if-depth-takes.false c.depth_after-after.ensures c.if-after-gt64.true

pub returns : goal.returns
returns c =
    goes_so _ c.takes.ensures c.if-depth-takes.false c.depth_after-after.ensures c.if-after-gt64.false
