-- `answer`: a holds the text without comments, normalised, which is at most ten times as long; its steps are split into out, and b is free
-- again.
use lib.ListN.{length-replicate}
use Rattle.split.proofs.Laws.{normal-fits, split-so}
use Rattle.split.proofs.answer.Goals as goal

pub steps_out-requires : goal.steps_out-requires
steps_out-requires g c =
    normal-fits c.args.text.now c.clean_into-n.ensures (rw length-replicate c.requires.room) c.clean_into-n.auto.b

pub returns : goal.returns
returns g c =
    split-so c.args.text.now c.clean_into-n.ensures c.requires.text_len_bound c.requires.text_value c.steps_out.ensures
