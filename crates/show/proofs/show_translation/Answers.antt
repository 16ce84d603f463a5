-- Two pieces: the line of the translation, and what is printed of the steps.
use Rattle.show.proofs.TwoPieces.{first-room, second-room, both-said}
use Rattle.rules.specs.Face.Shown.{translated_line, shown_steps}
use Rattle.show.proofs.show_translation.Goals as goal

pub say_translation-o-requires : goal.say_translation-o-requires
say_translation-o-requires c =
    first-room (translated_line c.args.text.now) (shown_steps c.args.reading c.args.mode c.args.text.now) c.args.out.now c.args.at
    c.requires.text_in_bounds

pub show_steps-requires : goal.show_steps-requires
show_steps-requires c = record {
  b_len = c.requires.b_len;
  text_in_bounds = second-room (translated_line c.args.text.now) (shown_steps c.args.reading c.args.mode c.args.text.now) c.args.out.now c.args.at c.requires.text_in_bounds
      c.say_translation-o.ensures;
}

pub returns : goal.returns
returns c =
    both-said (translated_line c.args.text.now) (shown_steps c.args.reading c.args.mode c.args.text.now) c.args.out.now c.args.at c.requires.text_in_bounds
    c.say_translation-o.ensures c.show_steps.ensures
