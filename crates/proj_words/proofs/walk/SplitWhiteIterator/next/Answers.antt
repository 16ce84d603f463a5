-- `next`: the first word is given, and those behind it are left.
use Rattle.proj_words.specs.Words.{left}
use Rattle.proj_words.proofs.Words.{word-split, progress}
use Rattle.proj_words.proofs.walk.SplitWhiteIterator.next.Goals as goal

pub returns-clause-steps : goal.returns-clause-steps
returns-clause-steps c = word-split c.in_ok-word.ensures

pub returns-clause-goes : goal.returns-clause-goes
returns-clause-goes c = progress left _ _ _ (returns-clause-steps c)
