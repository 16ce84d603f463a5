-- Two pieces: the step's number, and the word behind it.
use Rattle.show.proofs.TwoPieces.{put_written, first-room, second-room, both-said}
use Rattle.rules.specs.Face.Shown.{counted}
use Rattle.rules.specs.Text.Ascii.{ascii}
use Rattle.show.proofs.pieces.say_step.Goals as goal

pub say_counted-o-requires : goal.say_counted-o-requires
unfolding ascii
say_counted-o-requires c =
    first-room (counted (ascii "step ") c.args.k) c.args.word.now c.args.out.now c.args.at c.requires

pub put-requires : goal.put-requires
unfolding ascii
put-requires c =
    second-room (counted (ascii "step ") c.args.k) c.args.word.now c.args.out.now c.args.at c.requires c.say_counted-o.ensures

pub returns : goal.returns
unfolding ascii
returns c =
    both-said (counted (ascii "step ") c.args.k) c.args.word.now c.args.out.now c.args.at c.requires c.say_counted-o.ensures
    (put_written c.put.ensures)
