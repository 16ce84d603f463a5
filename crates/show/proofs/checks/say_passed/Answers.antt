-- Two pieces: the depths, and the places where they are told.
use Rattle.show.proofs.TwoPieces.{first-room, second-room, both-said}
use Rattle.rules.specs.Face.Shown.{counted, four_places, pass_text}
use Rattle.rules.specs.Text.Ascii.{ascii}
use mathlib.Core.List.{[], ◌++◌}
use mathlib.Core.Bool.{cond}
use Rattle.show.proofs.checks.say_passed.Goals as goal

pub say_depths-o-requires : goal.say_depths-o-requires
unfolding pass_text
say_depths-o-requires c =
    first-room (counted (ascii "deepest ") c.args.f.deepest ++ counted (ascii " left ") c.args.f.left) (cond c.args.f.told (four_places c.args.f.places) []) c.args.out.now
    c.args.at c.requires

pub say_told-requires : goal.say_told-requires
unfolding pass_text
say_told-requires c =
    second-room (counted (ascii "deepest ") c.args.f.deepest ++ counted (ascii " left ") c.args.f.left) (cond c.args.f.told (four_places c.args.f.places) []) c.args.out.now
    c.args.at c.requires c.say_depths-o.ensures

pub returns : goal.returns
unfolding pass_text
returns c =
    both-said (counted (ascii "deepest ") c.args.f.deepest ++ counted (ascii " left ") c.args.f.left) (cond c.args.f.told (four_places c.args.f.places) []) c.args.out.now
    c.args.at c.requires c.say_depths-o.ensures c.say_told.ensures
