-- `word`: the text is the key, the letters of the axes, and the ending of the angle, each written behind the one before.
use mathlib.Core.List.{◌++◌, map}
use Rattle.rules.specs.Operators.Adapt.{letter, ending_of}
use Rattle.numbers.proofs.Listed.{put_written}
use Rattle.numbers.proofs.InTurn.{first-room, then-room, both-written}
use Rattle.adapt.specs.Text.{word_text}
use Rattle.adapt.proofs.writing.word.Goals as goal

pub put-a-requires : goal.put-a-requires
unfolding word_text
put-a-requires c =
    (first-room c.args.key.now (map letter c.args.l.now ++ ending_of c.args.angle) c.requires.room).fits

pub letters-e-requires : goal.letters-e-requires
unfolding word_text
letters-e-requires c =
    let l = map letter c.args.l.now in record { l_value = c.requires.l_value; room = first-room l (ending_of c.args.angle) (then-room c.args.key.now _ c.requires.room (put_written c.put-a.ensures)) }

pub ending-requires : goal.ending-requires
unfolding word_text
ending-requires c =
    let l = map letter c.args.l.now in
    then-room l (ending_of c.args.angle) (then-room c.args.key.now _ c.requires.room (put_written c.put-a.ensures)) c.letters-e.ensures

pub returns : goal.returns
unfolding word_text
returns c =
    let l = map letter c.args.l.now in
    let w = put_written c.put-a.ensures in
    both-written c.args.key.now _ c.requires.room w
    (both-written l (ending_of c.args.angle) (then-room c.args.key.now _ c.requires.room w) c.letters-e.ensures c.ending.ensures)
