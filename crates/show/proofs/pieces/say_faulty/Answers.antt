-- Two pieces: the number and the place, and the offset.
use Rattle.show.proofs.TwoPieces.{first-room, second-room, both-said}
use Rattle.rules.specs.Face.Shown.{counted, refusal_text, offset_text}
use Rattle.rules.specs.Text.Ascii.{ascii}
use Rattle.show.proofs.pieces.say_faulty.Goals as goal

pub say_refused-o-requires : goal.say_refused-o-requires
unfolding offset_text ascii
say_refused-o-requires c =
    first-room (refusal_text 12 c.args.place) (counted (ascii " ") c.args.offset) c.args.out.now c.args.at c.requires

pub say_counted-requires : goal.say_counted-requires
unfolding offset_text ascii
say_counted-requires c =
    second-room (refusal_text 12 c.args.place) (counted (ascii " ") c.args.offset) c.args.out.now c.args.at c.requires
    c.say_refused-o.ensures

pub returns : goal.returns
unfolding offset_text ascii
returns c =
    both-said (refusal_text 12 c.args.place) (counted (ascii " ") c.args.offset) c.args.out.now c.args.at c.requires
    c.say_refused-o.ensures c.say_counted.ensures
