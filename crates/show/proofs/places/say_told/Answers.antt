-- By whether the places are told.
use Rattle.show.proofs.OptionalPieces.{told-room, told-said, untold-said}
use Rattle.rules.specs.Face.Shown.{four_places}
use Rattle.show.proofs.places.say_told.Goals as goal

pub say_places-requires : goal.say_places-requires
say_places-requires c =
    told-room c.args.told (four_places c.args.places) c.args.out.now c.args.at c.if-told.true c.requires

pub returns-then-told : goal.returns-then-told
returns-then-told c =
    told-said c.args.told (four_places c.args.places) c.args.out.now c.args.at c.if-told.true c.say_places.ensures

pub returns : goal.returns
returns c =
    untold-said c.args.told (four_places c.args.places) c.args.out.now c.args.at c.if-told.false c.requires
