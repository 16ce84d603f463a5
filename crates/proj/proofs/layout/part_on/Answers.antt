-- `part_on`: the bar is put, and the text behind it a place further on. If it has come out empty nothing more is put, and a space is owed;
-- else the space between goes in. So nothing is counted first.
use Rattle.rules.specs.Text.Bytes.{words}
use Rattle.rules.specs.Proj.Translate.{step_of}
use Rattle.proj_steps.specs.Plans.{said}
use Rattle.proj.specs.Places.{number_of}
use Rattle.proj.proofs.Puts.{put-first, put-later, part-bar, on-first-room, on-first-done, on-full, on-later-room, on-later-length, on-later-none, on-later-done}
use Rattle.proj.proofs.layout.part_on.Goals as goal

pub bar_out-p-requires : goal.bar_out-p-requires
bar_out-p-requires c = part-bar (number_of c.args.put.last) (step_of (said c.args.pipe) (words c.args.step.text.now)) c.requires

pub step_text-requires : goal.step_text-requires
step_text-requires c = on-first-room (number_of c.args.put.last) (step_of (said c.args.pipe) (words c.args.step.text.now)) c.requires c.bar_out-p.ensures (put-first c.args.put.last c.eq.ensures c.if-eq.true)

pub returns-then-eq : goal.returns-then-eq
returns-then-eq c = on-first-done (number_of c.args.put.last) (step_of (said c.args.pipe) (words c.args.step.text.now)) c.requires c.bar_out-p.ensures (put-first c.args.put.last c.eq.ensures c.if-eq.true) c.step_text.ensures

pub returns-then-total-p : goal.returns-then-total-p
returns-then-total-p c = on-full (number_of c.args.put.last) (step_of (said c.args.pipe) (words c.args.step.text.now)) c.requires c.bar_out-p.ensures (put-later c.args.put.last c.eq.ensures c.if-eq.false) c.if-total-p.true

pub step_text-r-requires : goal.step_text-r-requires
step_text-r-requires c = on-later-room (number_of c.args.put.last) (step_of (said c.args.pipe) (words c.args.step.text.now)) c.requires c.bar_out-p.ensures (put-later c.args.put.last c.eq.ensures c.if-eq.false) c.if-total-p.false

pub returns-then-r-p : goal.returns-then-r-p
returns-then-r-p c =
    on-later-none (number_of c.args.put.last) (step_of (said c.args.pipe) (words c.args.step.text.now)) c.requires c.bar_out-p.ensures (put-later c.args.put.last c.eq.ensures c.if-eq.false) c.if-total-p.false
    c.step_text-r.ensures c.if-r-p.true

pub bounds-out-p : goal.bounds-out-p
bounds-out-p c =
    on-later-length (number_of c.args.put.last) (step_of (said c.args.pipe) (words c.args.step.text.now)) c.requires c.bar_out-p.ensures (put-later c.args.put.last c.eq.ensures c.if-eq.false) c.if-total-p.false c.step_text-r.ensures

pub returns : goal.returns
returns c =
    on-later-done (number_of c.args.put.last) (step_of (said c.args.pipe) (words c.args.step.text.now)) c.requires c.bar_out-p.ensures (put-later c.args.put.last c.eq.ensures c.if-eq.false) c.if-total-p.false
    c.step_text-r.ensures c.if-r-p.false
