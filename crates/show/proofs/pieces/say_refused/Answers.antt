-- Two pieces: the number, and the place.
use Rattle.show.proofs.TwoPieces.{first-room, second-room, both-said}
use Rattle.rules.specs.Face.Shown.{counted, refusal_text}
use Rattle.rules.specs.Text.Ascii.{ascii}
use Rattle.show.proofs.pieces.say_refused.Goals as goal

pub say_counted-o-requires : goal.say_counted-o-requires
unfolding refusal_text ascii
say_counted-o-requires c =
    rw c.from-n.ensures (first-room (counted (ascii "refused ") c.args.number) (counted (ascii " ") c.args.place) c.args.out.now c.args.at c.requires)

pub say_counted-requires : goal.say_counted-requires
unfolding refusal_text ascii
say_counted-requires c =
    second-room (counted (ascii "refused ") c.args.number) (counted (ascii " ") c.args.place) c.args.out.now c.args.at c.requires
    (rw c.from-n.ensures at c.say_counted-o.ensures)

pub returns : goal.returns
unfolding refusal_text ascii
returns c =
    both-said (counted (ascii "refused ") c.args.number) (counted (ascii " ") c.args.place) c.args.out.now c.args.at c.requires
    (rw c.from-n.ensures at c.say_counted-o.ensures)
    c.say_counted.ensures
