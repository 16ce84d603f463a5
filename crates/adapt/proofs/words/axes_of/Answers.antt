-- `axes_of`: four bytes are read, each as its axis, and these four are the map over the first four bytes.
use Rattle.laws_lists.specs.Signed.{given_is}
use Rattle.adapt.proofs.WordRead.{axes-so}
use Rattle.adapt.proofs.words.axes_of.Goals as goal

pub returns : goal.returns
returns c =
    axes-so c.args.t.now c.requires (given_is c.axis_of.type_inv c.axis_of.ensures) (given_is c.axis_of-2.type_inv c.axis_of-2.ensures)
    (given_is c.axis_of-3.type_inv c.axis_of-3.ensures) (given_is c.axis_of-4.type_inv c.axis_of-4.ensures)
