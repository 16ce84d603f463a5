-- `is_written`: the pipeline's own step is not written, nor one whose words are all empty, by its head and its marks.
use Rattle.proj.proofs.Laid.{written-pipeline, written-some}
use Rattle.proj.proofs.layout.is_written.Goals as goal

pub returns-then-not-head : goal.returns-then-not-head
returns-then-not-head c = written-some c.head_of-head.ensures c.if-not-head.true c.marks_of.ensures

pub returns-else-not-head : goal.returns-else-not-head
returns-else-not-head c = rw c.if-not-head.false (written-pipeline c.head_of-head.ensures c.if-not-head.false)
