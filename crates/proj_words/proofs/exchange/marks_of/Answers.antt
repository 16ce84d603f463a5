use Rattle.proj_words.proofs.Facts.{marking-end, marking-next}
use Rattle.proj_words.proofs.exchange.marks_of.Goals as goal

pub loop-word-preserved : goal.loop-word-preserved
loop-word-preserved c = (tt, tt, marking-next c.loop-word.invariant.2 c.in-Some.ensures.steps c.with-marks.ensures)

pub returns : goal.returns
returns c = marking-end c.loop-word.invariant.2 c.in-None.ensures.steps.0
