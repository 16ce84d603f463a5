-- By what translating answers; no text is longer than out has room for.
use Rattle.show.proofs.Located.{translate-other}
use Rattle.show.proofs.CallAnswers.{room-so, said-so, front-so, called-fits, called-counts, called-wrote, called-refused, text-refused, text-wrote}
use Rattle.show.proofs.Sizes.{shown-room}
use Rattle.rules.specs.Face.Shown.{refusal_text, shown_steps, translated_line, shown}
use Rattle.rules.specs.Text.Split.{line}
use mathlib.Core.List.{◌++◌}
use lib.ListN.{take}
use Rattle.show.proofs.show.Goals as goal

pub slice_bounds-show_translation-end : goal.slice_bounds-show_translation-end
slice_bounds-show_translation-end c =
    called-fits c.in-Ok.is c.translate-written.ensures

pub slice_bounds-show_translation-end-in-Ok : goal.slice_bounds-show_translation-end-in-Ok
slice_bounds-show_translation-end-in-Ok c =
    called-counts c.in-Ok.is c.translate-written.ensures

pub show_translation-requires : goal.show_translation-requires
show_translation-requires c = record {
  b_len = c.requires.b_len;
  text_in_bounds = room-so (shown c.args.reading c.args.mode c.args.text.now)
      (translated_line (take c.in-Ok.n c.translate-written.new.out) ++ shown_steps
      c.args.reading c.args.mode
      (take c.in-Ok.n c.translate-written.new.out)) c.args.out.now 0
      (text-wrote c.args.reading c.args.mode c.args.text.now
      (called-wrote c.in-Ok.is c.translate-written.ensures c.requires.a_len
      c.translate-written.auto.out))
      (shown-room c.args.reading c.args.mode c.args.text.now c.args.out.now c.requires.in_bounds);
}

pub say_refusal-requires : goal.say_refusal-requires
say_refusal-requires c =
    room-so (shown c.args.reading c.args.mode c.args.text.now)
    (line (refusal_text c.in-Err.refusal.number c.in-Err.refusal.place)) c.args.out.now 0
    (text-refused c.args.reading c.args.mode c.args.text.now
    (called-refused (translate-other c.args.text.now) c.in-Err.is c.translate-written.ensures c.requires.a_len))
    (shown-room c.args.reading c.args.mode c.args.text.now c.args.out.now c.requires.in_bounds)

pub returns-in-Ok : goal.returns-in-Ok
returns-in-Ok c =
    front-so (said-so (shown c.args.reading c.args.mode c.args.text.now)
    (translated_line (take c.in-Ok.n
    c.translate-written.new.out) ++ shown_steps
    c.args.reading c.args.mode
    (take c.in-Ok.n
    c.translate-written.new.out)) c.args.out.now 0
    (text-wrote c.args.reading c.args.mode c.args.text.now
    (called-wrote c.in-Ok.is
    c.translate-written.ensures c.requires.a_len
    c.translate-written.auto.out)) c.show_translation.ensures)

pub returns-in-Err : goal.returns-in-Err
returns-in-Err c =
    front-so (said-so (shown c.args.reading c.args.mode c.args.text.now)
    (line (refusal_text c.in-Err.refusal.number c.in-Err.refusal.place)) c.args.out.now 0
    (text-refused c.args.reading c.args.mode c.args.text.now
    (called-refused (translate-other c.args.text.now) c.in-Err.is
    c.translate-written.ensures c.requires.a_len))
    c.say_refusal.ensures)
