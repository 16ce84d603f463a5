-- By what preparing answers in a table of 64 records, which are room enough.
use Rattle.show.proofs.CallAnswers.{room-so, said-so, checks-refused, checks-located, checks-told}
use Rattle.show.proofs.PreparedTable.{prepare-refused, prepare-faulty, prepare-steps}
use Rattle.rules.specs.Face.Shown.{refusal_text, offset_text, shown_checks, both_checks}
use Rattle.rules.specs.Pipeline.Record.{listed}
use Rattle.rules.specs.Text.Split.{line}
use Rattle.show.proofs.show_checks.Goals as goal

pub say_checks-requires : goal.say_checks-requires
say_checks-requires c =
    room-so (shown_checks c.args.reading c.args.mode c.args.text.now) (both_checks (listed c.first_of-steps.result)) c.args.out.now c.args.at
    (checks-told c.args.reading c.args.mode c.args.text.now
    (prepare-steps c.args.reading c.args.mode c.args.text.now c.empty.ensures
    c.prepare_as-p.ensures
    c.in-Ok.is c.first_of-steps.ensures)) c.requires

pub say_offset-requires : goal.say_offset-requires
say_offset-requires c =
    room-so (shown_checks c.args.reading c.args.mode c.args.text.now)
    (line (offset_text c.in-Err.refusal.place c.in-Err.refusal.offset))
    c.args.out.now c.args.at
    (checks-located c.args.reading c.args.mode c.args.text.now
    (prepare-faulty c.args.reading c.args.mode c.args.text.now c.empty.ensures
    c.prepare_as-p.ensures
    c.in-Err.is c.if-refusal-eq12.true)) c.requires

pub returns-then-refusal-eq12 : goal.returns-then-refusal-eq12
returns-then-refusal-eq12 c =
    said-so (shown_checks c.args.reading c.args.mode c.args.text.now)
    (line (offset_text c.in-Err.refusal.place c.in-Err.refusal.offset))
    c.args.out.now c.args.at
    (checks-located c.args.reading c.args.mode c.args.text.now
    (prepare-faulty c.args.reading c.args.mode c.args.text.now c.empty.ensures
    c.prepare_as-p.ensures
    c.in-Err.is c.if-refusal-eq12.true)) c.say_offset.ensures

pub say_refusal-requires : goal.say_refusal-requires
say_refusal-requires c =
    room-so (shown_checks c.args.reading c.args.mode c.args.text.now)
    (line (refusal_text c.in-Err.refusal.number c.in-Err.refusal.place))
    c.args.out.now c.args.at
    (checks-refused c.args.reading c.args.mode c.args.text.now
    (prepare-refused c.args.reading c.args.mode c.args.text.now c.empty.ensures
    c.prepare_as-p.ensures
    c.in-Err.is c.if-refusal-eq12.false)) c.requires

pub returns-in-Ok : goal.returns-in-Ok
returns-in-Ok c =
    said-so (shown_checks c.args.reading c.args.mode c.args.text.now) (both_checks (listed c.first_of-steps.result))
    c.args.out.now c.args.at
    (checks-told c.args.reading c.args.mode c.args.text.now
    (prepare-steps c.args.reading c.args.mode c.args.text.now
    c.empty.ensures
    c.prepare_as-p.ensures c.in-Ok.is
    c.first_of-steps.ensures)) c.say_checks.ensures

pub returns-else-refusal-eq12 : goal.returns-else-refusal-eq12
returns-else-refusal-eq12 c =
    said-so (shown_checks c.args.reading c.args.mode c.args.text.now)
    (line (refusal_text c.in-Err.refusal.number c.in-Err.refusal.place))
    c.args.out.now c.args.at
    (checks-refused c.args.reading c.args.mode c.args.text.now
    (prepare-refused c.args.reading c.args.mode c.args.text.now c.empty.ensures
    c.prepare_as-p.ensures
    c.in-Err.is c.if-refusal-eq12.false)) c.say_refusal.ensures
