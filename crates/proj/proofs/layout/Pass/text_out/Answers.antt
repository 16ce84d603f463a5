-- `text_out`: the text is written at its place from either end, where it has room; a pass that counts goes on by its length.
use Rattle.rules.specs.Text.Bytes.{words}
use Rattle.rules.specs.Proj.Translate.{step_of}
use Rattle.proj_steps.specs.Plans.{said}
use Rattle.proj.proofs.Puts.{text-total, text-room, text-written, text-counted}
use Rattle.proj.proofs.layout.Pass.text_out.Goals as goal
use Rattle.proj.proofs.layout.Pass.text_out.Goals.{in-Some, in_default}

pub place-requires : goal.place-requires
place-requires c = text-total (step_of (said c.args.pipe) (words c.args.step.text.now)) c.requires.spot c.requires.l_value

pub step_text-requires : goal.step_text-requires
step_text-requires c = text-room (step_of (said c.args.pipe) (words c.args.step.text.now)) c.requires.spot c.requires.l_value c.in-Some.ensures.0 c.in-Some.ensures.1

pub returns : goal.returns
returns c = elim c.match-place.branch [
  | in-Some w ↦ rw w.out-is (text-written (step_of (said c.args.pipe) (words c.args.step.text.now)) c.requires.spot c.requires.l_value w.in-Some.ensures.0 w.in-Some.ensures.1 w.step_text.ensures)
  | in_default w ↦ rw w.out-is (text-counted (step_of (said c.args.pipe) (words c.args.step.text.now)) c.requires.spot c.requires.l_value w.in_default.ensures)
]
