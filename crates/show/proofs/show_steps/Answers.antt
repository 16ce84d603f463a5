-- By what splitting answers, for which 65,536 bytes are room enough.
use Rattle.show.proofs.Located.{split-other}
use Rattle.show.proofs.CallAnswers.{room-so, said-so, called-fits, called-counts, called-wrote, called-refused, steps-refused, steps-wrote}
use Rattle.rules.specs.Face.Shown.{refusal_text, headed, shown_checks, shown_steps}
use Rattle.rules.specs.Text.Split.{line}
use mathlib.Core.Bool.{false}
use mathlib.Core.List.{◌++◌}
use lib.ListN.{take}
use Rattle.show.proofs.show_steps.Goals as goal

pub slice_bounds-show_lines-end : goal.slice_bounds-show_lines-end
slice_bounds-show_lines-end c =
    called-fits c.in-Ok.is c.split-written.ensures

pub slice_bounds-show_lines-end-in-Ok : goal.slice_bounds-show_lines-end-in-Ok
slice_bounds-show_lines-end-in-Ok c =
    called-counts c.in-Ok.is c.split-written.ensures

pub show_lines-requires : goal.show_lines-requires
show_lines-requires c =
    room-so (shown_steps c.args.reading c.args.mode c.args.text.now)
    (headed 1 false (take c.in-Ok.n c.split-written.new.out) ++ shown_checks
    c.args.reading c.args.mode c.args.text.now) c.args.out.now c.args.at
    (steps-wrote c.args.reading c.args.mode c.args.text.now
    (called-wrote c.in-Ok.is c.split-written.ensures c.requires.b_len
    c.split-written.auto.out)) c.requires.text_in_bounds

pub say_refusal-requires : goal.say_refusal-requires
say_refusal-requires c =
    room-so (shown_steps c.args.reading c.args.mode c.args.text.now)
    (line (refusal_text c.in-Err.refusal.number c.in-Err.refusal.place))
    c.args.out.now c.args.at
    (steps-refused c.args.reading c.args.mode c.args.text.now
    (called-refused (split-other c.args.text.now) c.in-Err.is c.split-written.ensures c.requires.b_len))
    c.requires.text_in_bounds

pub returns-in-Ok : goal.returns-in-Ok
returns-in-Ok c =
    said-so (shown_steps c.args.reading c.args.mode c.args.text.now)
    (headed 1 false (take c.in-Ok.n
    c.split-written.new.out) ++ shown_checks c.args.reading c.args.mode
    c.args.text.now) c.args.out.now c.args.at
    (steps-wrote c.args.reading c.args.mode c.args.text.now
    (called-wrote c.in-Ok.is c.split-written.ensures
    c.requires.b_len c.split-written.auto.out)) c.show_lines.ensures

pub returns-in-Err : goal.returns-in-Err
returns-in-Err c =
    said-so (shown_steps c.args.reading c.args.mode c.args.text.now)
    (line (refusal_text c.in-Err.refusal.number c.in-Err.refusal.place)) c.args.out.now c.args.at
    (steps-refused c.args.reading c.args.mode c.args.text.now
    (called-refused (split-other c.args.text.now) c.in-Err.is
    c.split-written.ensures c.requires.b_len))
    c.say_refusal.ensures
