-- `text_out`: a `|` stands in the text just where the run of other bytes from its front ends before the text does; with one the text is a
-- name, and without it a step.
use Rattle.parameters.proofs.Tabled.{spelt-fits, spelt-front}
use Rattle.parameters.proofs.Replies.{text-name, text-step}
use Rattle.parameters.proofs.text_out.Goals as goal

pub slice_bounds-run_end-end : goal.slice_bounds-run_end-end
slice_bounds-run_end-end c = spelt-front c.args.source.spelt

pub returns-then-e-n : goal.returns-then-e-n
returns-then-e-n c =
    text-name c.args.source.s.now c.args.source.n (spelt-fits c.args.source.spelt) c.run_end-e.ensures c.if-e-n.true c.name_out.ensures

pub returns : goal.returns
returns c =
    text-step c.args.source.s.now c.args.source.n (spelt-fits c.args.source.spelt) c.run_end-e.ensures c.if-e-n.false c.step_out.ensures
