-- `answer`: a holds the cleaned text, and b what its first step says to the others, if that is the pipeline's; by both the steps are
-- translated into out. Each has room, since the cleaned text is at most ten times as long.
use Rattle.std.proofs.Common.{ℕ, arith}
use Rattle.std.proofs.Math.ListN.{length-replicate}
use Rattle.text.proofs.Wrote.{wrote-fits}
use Rattle.proj.proofs.Laws.{cleaned-small, globals-small, translate-so}
use Rattle.proj.proofs.answer.Goals as goal

pub shared_whole_as_front-steps_out : goal.shared_whole_as_front-steps_out
shared_whole_as_front-steps_out g c =
    (omega (arith, wrote-fits c.clean_into-n.ensures, c.clean_into-n.auto.a, length-replicate {A = ℕ} g.row.N 0), omega (arith, c.requires.size))

pub shared_whole_as_front-pipe_of : goal.shared_whole_as_front-pipe_of
shared_whole_as_front-pipe_of g c =
    (omega (arith, wrote-fits c.clean_into-n.ensures, c.clean_into-n.auto.a, length-replicate {A = ℕ} g.row.N 0), omega (arith, c.requires.size))

pub steps_out-requires-clause-n_len_bound : goal.steps_out-requires-clause-n_len_bound
steps_out-requires-clause-n_len_bound g c = cleaned-small c.args.text.now c.clean_into-n.ensures c.requires.text_len_bound

pub steps_out-requires-clause-g_len_bound : goal.steps_out-requires-clause-g_len_bound
steps_out-requires-clause-g_len_bound g c = globals-small c.args.text.now c.clean_into-n.ensures c.requires.text_len_bound c.pipe_of.ensures

pub returns : goal.returns
returns g c =
    translate-so c.args.text.now c.clean_into-n.ensures c.requires.text_len_bound c.requires.text_value c.requires.text_value_2 c.pipe_of.ensures c.steps_out.ensures
