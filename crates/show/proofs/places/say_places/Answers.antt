-- Two pieces, each of two places; the array has just these four.
use Rattle.show.proofs.TwoPieces.{first-room, second-room, both-said}
use Rattle.rules.specs.Face.Shown.{two_places, four_places}
use Rattle.rules.specs.Text.Ascii.{ascii}
use Rattle.rules.specs.Pipeline.Check.{nth}
use Rattle.show.proofs.places.say_places.Goals as goal

pub say_pair-o-requires : goal.say_pair-o-requires
unfolding four_places ascii
say_pair-o-requires c =
    first-room (two_places (ascii " places ") (nth c.args.places 0) (nth c.args.places 1)) (two_places (ascii ",") (nth c.args.places 2) (nth c.args.places 3)) c.args.out.now c.args.at c.requires

pub say_pair-requires : goal.say_pair-requires
unfolding four_places ascii
say_pair-requires c =
    second-room (two_places (ascii " places ") (nth c.args.places 0) (nth c.args.places 1)) (two_places (ascii ",") (nth c.args.places 2) (nth c.args.places 3)) c.args.out.now c.args.at
    c.requires c.say_pair-o.ensures

pub returns : goal.returns
unfolding four_places ascii
returns c =
    both-said (two_places (ascii " places ") (nth c.args.places 0) (nth c.args.places 1)) (two_places (ascii ",") (nth c.args.places 2) (nth c.args.places 3)) c.args.out.now c.args.at
    c.requires c.say_pair-o.ensures c.say_pair.ensures
