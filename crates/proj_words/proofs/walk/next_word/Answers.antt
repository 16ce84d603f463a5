-- `next_word`: white space from k on is passed, and then a run of other bytes: that is the first word, unless it is empty.
use Rattle.text.proofs.Lead.{none_left}
use Rattle.proj_words.proofs.walk.next_word.Goals as goal

pub returns : goal.returns
returns c = none_left c.run_end-from.ensures c.run_end-to.ensures c.if-from-to.false
