-- `part_counted`: the bar is put, and the text is counted: an empty one leaves a space owed behind the bar, unless it is the first; any
-- other is put after its gap.
use Rattle.rules.specs.Text.Bytes.{words}
use Rattle.rules.specs.Proj.Translate.{step_of}
use Rattle.proj_steps.specs.Plans.{said}
use Rattle.proj.specs.Places.{number_of}
use Rattle.proj.proofs.Puts.{part-bar, part-empty, part-gap, part-some, puts-kept, count_room, count_none, count-some}
use Rattle.proj.proofs.layout.Pass.part_counted.Goals as goal

pub bar_out-p-requires : goal.bar_out-p-requires
bar_out-p-requires c = part-bar (number_of c.args.put.last) (step_of (said c.args.pipe) (words c.args.step.text.now)) c.requires.spot

pub step_text-l-requires : goal.step_text-l-requires
step_text-l-requires c = count_room c.requires.s_len_bound

pub returns-then-l-eq0 : goal.returns-then-l-eq0
returns-then-l-eq0 c =
    part-empty (number_of c.args.put.last) (step_of (said c.args.pipe) (words c.args.step.text.now)) c.requires.spot (puts-kept c.bar_out-p.ensures c.step_text-l.ensures)
    (count_none c.step_text-l.ensures c.if-l-eq0.true) c.after_none.ensures

pub gap_out-requires-clause-spot : goal.gap_out-requires-clause-spot
gap_out-requires-clause-spot c =
    part-gap (number_of c.args.put.last) (step_of (said c.args.pipe) (words c.args.step.text.now)) c.requires.spot (puts-kept c.bar_out-p.ensures c.step_text-l.ensures) (count-some c.step_text-l.ensures c.if-l-eq0.false)

pub returns : goal.returns
returns c =
    part-some (number_of c.args.put.last) (step_of (said c.args.pipe) (words c.args.step.text.now)) c.requires.spot (puts-kept c.bar_out-p.ensures c.step_text-l.ensures)
    (count-some c.step_text-l.ensures c.if-l-eq0.false) c.gap_out.ensures
