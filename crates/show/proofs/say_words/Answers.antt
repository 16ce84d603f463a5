-- Two pieces: the word, and the text behind it.
use Rattle.show.proofs.TwoPieces.{put_written, first-room, second-room, both-said}
use Rattle.show.proofs.say_words.Goals as goal

pub put-o-requires : goal.put-o-requires
put-o-requires c =
    first-room c.args.word.now c.args.text.now c.args.out.now c.args.at c.requires

pub put-requires : goal.put-requires
put-requires c =
    second-room c.args.word.now c.args.text.now c.args.out.now c.args.at c.requires (put_written c.put-o.ensures)

pub returns : goal.returns
returns c =
    both-said c.args.word.now c.args.text.now c.args.out.now c.args.at c.requires (put_written c.put-o.ensures)
    (put_written c.put.ensures)
