-- Two pieces: a signed place, and a comma and a signed place.
use Rattle.show.proofs.TwoPieces.{first-room, second-room, both-said}
use Rattle.rules.specs.Face.Shown.{signed_place, two_places}
use Rattle.rules.specs.Text.Ascii.{ascii}
use Rattle.show.proofs.places.say_pair.Goals as goal

pub say_signed-o-requires : goal.say_signed-o-requires
unfolding two_places ascii
say_signed-o-requires c =
    first-room (signed_place c.args.word.now c.args.p) (signed_place (ascii ",") c.args.q) c.args.out.now c.args.at c.requires

pub say_signed-requires : goal.say_signed-requires
unfolding two_places ascii
say_signed-requires c =
    second-room (signed_place c.args.word.now c.args.p) (signed_place (ascii ",") c.args.q) c.args.out.now c.args.at c.requires
    c.say_signed-o.ensures

pub returns : goal.returns
unfolding two_places ascii
returns c =
    both-said (signed_place c.args.word.now c.args.p) (signed_place (ascii ",") c.args.q) c.args.out.now c.args.at c.requires
    c.say_signed-o.ensures c.say_signed.ensures
