-- Two pieces: the deepest, and how many columns are left.
use Rattle.show.proofs.TwoPieces.{first-room, second-room, both-said}
use Rattle.rules.specs.Face.Shown.{counted}
use Rattle.rules.specs.Text.Ascii.{ascii}
use Rattle.show.proofs.checks.say_depths.Goals as goal

pub say_counted-o-requires : goal.say_counted-o-requires
unfolding ascii
say_counted-o-requires c =
    first-room (counted (ascii "deepest ") c.args.deepest) (counted (ascii " left ") c.args.left) c.args.out.now c.args.at c.requires

pub say_counted-requires : goal.say_counted-requires
unfolding ascii
say_counted-requires c =
    second-room (counted (ascii "deepest ") c.args.deepest) (counted (ascii " left ") c.args.left) c.args.out.now c.args.at c.requires
    c.say_counted-o.ensures

pub returns : goal.returns
unfolding ascii
returns c =
    both-said (counted (ascii "deepest ") c.args.deepest) (counted (ascii " left ") c.args.left) c.args.out.now c.args.at c.requires
    c.say_counted-o.ensures c.say_counted.ensures
