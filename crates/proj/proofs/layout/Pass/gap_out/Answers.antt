-- `gap_out`: the first text is put as it is, and another after a space: the two cases of `gap_text`.
use Rattle.std.proofs.Common.{◌∷◌, [], sym}
use Rattle.rules.specs.Text.Bytes.{words}
use Rattle.rules.specs.Proj.Translate.{step_of}
use Rattle.proj_steps.specs.Plans.{said}
use Rattle.proj.specs.Places.{number_of, backs}
use Rattle.proj.proofs.Puts.{put-first, put-later, gap-first, gap-later, spot-as, puts-as, spot-first, spot-then, puts-both}
use Rattle.proj.proofs.layout.Pass.gap_out.Goals as goal

pub text_out-requires-clause-spot : goal.text_out-requires-clause-spot
text_out-requires-clause-spot c =
    spot-as (gap-first (backs c.args.self) (number_of c.args.put.last) (step_of (said c.args.pipe) (words c.args.step.text.now)) (put-first c.args.put.last c.eq.ensures c.if-eq.true)) c.requires.spot

pub returns-then-eq : goal.returns-then-eq
returns-then-eq c =
    puts-as (sym (gap-first (backs c.args.self) (number_of c.args.put.last) (step_of (said c.args.pipe) (words c.args.step.text.now)) (put-first c.args.put.last c.eq.ensures c.if-eq.true))) c.text_out.ensures

pub byte_out-p-requires : goal.byte_out-p-requires
byte_out-p-requires c =
    spot-first (32 ∷ []) (step_of (said c.args.pipe) (words c.args.step.text.now)) (spot-as (gap-later (backs c.args.self) (number_of c.args.put.last) (step_of (said c.args.pipe) (words c.args.step.text.now)) (put-later c.args.put.last c.eq.ensures c.if-eq.false)) c.requires.spot)

pub text_out-requires-2-clause-spot : goal.text_out-requires-2-clause-spot
text_out-requires-2-clause-spot c =
    spot-then (32 ∷ []) (step_of (said c.args.pipe) (words c.args.step.text.now)) (spot-as (gap-later (backs c.args.self) (number_of c.args.put.last) (step_of (said c.args.pipe) (words c.args.step.text.now)) (put-later c.args.put.last c.eq.ensures c.if-eq.false)) c.requires.spot) c.byte_out-p.ensures

pub returns : goal.returns
returns c =
    let gap = gap-later (backs c.args.self) (number_of c.args.put.last) (step_of (said c.args.pipe) (words c.args.step.text.now)) (put-later c.args.put.last c.eq.ensures c.if-eq.false) in
    puts-as (sym gap) (puts-both (32 ∷ []) (step_of (said c.args.pipe) (words c.args.step.text.now)) (spot-as gap c.requires.spot) c.byte_out-p.ensures c.text_out-2.ensures)
