-- Two pieces: the word, and the number's digits.
use Rattle.show.proofs.TwoPieces.{put_written, first-room, second-room, both-said}
use Rattle.rules.specs.Text.Numerals.{digits}
use Rattle.rules.specs.Face.Shown.{counted}
use Rattle.show.proofs.pieces.say_counted.Goals as goal

pub put-o-requires : goal.put-o-requires
unfolding counted
put-o-requires c =
    first-room c.args.word.now (digits c.args.n) c.args.out.now c.args.at c.requires

pub put_digits-requires : goal.put_digits-requires
unfolding counted
put_digits-requires c =
    second-room c.args.word.now (digits c.args.n) c.args.out.now c.args.at c.requires (put_written c.put-o.ensures)

pub returns : goal.returns
unfolding counted
returns c =
    both-said c.args.word.now (digits c.args.n) c.args.out.now c.args.at c.requires (put_written c.put-o.ensures)
    c.put_digits.ensures
