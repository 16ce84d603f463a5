-- Two pieces: the word with its minus, and the place's digits.
use Rattle.show.proofs.TwoPieces.{first-room, second-room, both-said}
use Rattle.rules.specs.Text.Numerals.{digits}
use Rattle.rules.specs.Face.Shown.{counted, signed_place}
use Rattle.rules.specs.Text.Ascii.{ascii}
use mathlib.Core.List.{[], ◌++◌}
use mathlib.Core.Bool.{cond}
use Rattle.show.proofs.places.say_signed.Goals as goal

pub say_marked-o-requires : goal.say_marked-o-requires
unfolding signed_place counted
say_marked-o-requires c =
    first-room (c.args.word.now ++ cond c.args.p.minus (ascii "-") []) (digits c.args.p.axis) c.args.out.now c.args.at c.requires

pub put_digits-requires : goal.put_digits-requires
unfolding signed_place counted
put_digits-requires c =
    rw c.from-n.ensures
    (second-room (c.args.word.now ++ cond c.args.p.minus (ascii "-") []) (digits c.args.p.axis) c.args.out.now c.args.at c.requires
    c.say_marked-o.ensures)

pub returns : goal.returns
unfolding signed_place counted
returns c =
    both-said (c.args.word.now ++ cond c.args.p.minus (ascii "-") []) (digits c.args.p.axis) c.args.out.now c.args.at c.requires
    c.say_marked-o.ensures
    (rw c.from-n.ensures at c.put_digits.ensures)
