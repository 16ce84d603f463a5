-- `axis_of`: a letter that stands among `enuf` is that axis; else it is the one turned that stands among `wsdp`, and what stands in neither
-- comes to 0.
use native.Mathlib.Omega.{arith}
use Rattle.rules.specs.Text.Ascii.{ascii}
use Rattle.laws_lists.specs.Signed.{given_is}
use Rattle.adapt.proofs.FirstPlace.{finds-letter, place-most}
use Rattle.adapt.proofs.WordRead.{axis-plain, axis-turned}
use Rattle.adapt.proofs.words.axis_of.Goals as goal

pub signed-requires : goal.signed-requires
unfolding ascii
signed-requires c =
    omega (arith, c.letter_in-plain.ensures, place-most (finds-letter c.args.b) (ascii "enuf"))

pub returns-then-plain-gt0 : goal.returns-then-plain-gt0
unfolding ascii
returns-then-plain-gt0 c = given_is c.signed.type_inv (axis-plain _ c.letter_in-plain.ensures c.if-plain-gt0.true c.signed.ensures)

pub signed-requires-2 : goal.signed-requires-2
unfolding ascii
signed-requires-2 c =
    omega (arith, c.letter_in.ensures, place-most (finds-letter c.args.b) (ascii "wsdp"))

pub returns : goal.returns
unfolding ascii
returns c =
    given_is c.signed-2.type_inv (axis-turned _ c.letter_in-plain.ensures c.if-plain-gt0.false c.letter_in.ensures c.signed-2.ensures)
